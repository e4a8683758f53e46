-- The close points that were entered so far, and all of them.
use Rattle.std.proofs.Common.{◌≡◌, ℕ, zero, suc, ◌+◌, ◌-◌, ◌<◌, ◌≤◌, ltb, List, [], ◌∷◌, ◌++◌, map, length, Some, None, Ok, Err, sym, ap, ◌∙◌, subst, append_assoc, append-nil, arith}
use Rattle.std.specs.List.{AllByRecursion}
use Rattle.std.proofs.lemmas.List.{length-append}
use Rattle.std.proofs.lemmas.Bool.{cond_both, lt-ltb, le-ltb, cond-true, cond-false}
use Rattle.curves.specs.Closes.{close_among, close_between}
use Rattle.curves.specs.Kinds.{shifted_meaning}
use Rattle.curves.specs.Meaning.{Meaning, value_of}
use Rattle.reports.specs.Close.{booked, hit_at, hits_of, unshifted, shift_of, meaning_of}
use Rattle.reports.specs.Limits.{threshold_of}
use Rattle.reports.specs.declared.hit.Hit.{Hit}
use Rattle.reports.specs.declared.order.Order.{Order}
use Rattle.reports.specs.declared.refusal.LineRefusal.TheVariants.{BookFull}
use Rattle.reports.proofs.Passing.{close_pass}

pub value_there : (m : Meaning) (k v : ℕ) → k < m.count → Some v ≡ value_of m k → v ≡ m.value k
value_there m k v h e = let f = e ∙ cond-true (ltb k m.count) (Some (m.value k)) None (lt-ltb k m.count h) in cc

-- ---- the indices of close points are below the count

abbrev Within : ℕ → List Hit → Type 0
Within n hs = AllByRecursion (λ (h : Hit). h.index < n) hs

within_among : (m : Meaning) (D n s t : ℕ) → s + n ≤ t → Within t (map (hit_at m) (close_among m D s n))
within_among m D zero s t h = tt
within_among m D (suc n) s t h =
    let rest = within_among m D n (s + 1) t (omega arith) in
    cond_both (ltb (m.value s) D) (s ∷ close_among m D (s + 1) n) (close_among m D (s + 1) n) (λ ks. Within t (map (hit_at m) ks))
    (λ e. (omega arith, rest))
    (λ e. rest)

next_within : (n : ℕ) (before behind : List Hit) (h : Hit) → Within n (before ++ h ∷ behind) → h.index < n
next_within n [] behind h all = all.0
next_within n (b ∷ before) behind h all = next_within n before behind h all.1

-- ---- what was entered before, and the indices that are left

module _ (m : Meaning) (D : ℕ) (before : List Hit) (rest : List ℕ) (all : before ++ map (hit_at m) rest ≡ map (hit_at m) (close_between m D 0 m.count)) where
  pub next_is_within : (k : ℕ) (ks : List ℕ) → rest ≡ k ∷ ks → k < m.count
  next_is_within k ks first =
      next_within m.count before (map (hit_at m) ks) (hit_at m k)
      (subst (Within m.count) (sym all ∙ ap (λ js. before ++ map (hit_at m) js) first) (within_among m D (m.count - 0) 0 m.count (omega arith)))

  -- one point more was entered
  pub one_more_entered : (k v : ℕ) (ks : List ℕ) (after : List Hit) → rest ≡ k ∷ ks → v ≡ m.value k → after ≡ before ++ record { index = k; value = v } ∷ [] →
      after ++ map (hit_at m) ks ≡ map (hit_at m) (close_between m D 0 m.count)
  one_more_entered k v ks after first value enters =
      ap (λ hs. hs ++ map (hit_at m) ks) (enters ∙ ap (λ n. before ++ record { index = k; value = n } ∷ []) value)
      ∙ append_assoc before (hit_at m k ∷ []) (map (hit_at m) ks)
      ∙ ap (λ js. before ++ map (hit_at m) js) (sym first)
      ∙ all

  hits_are : hits_of m D ≡ before ++ map (hit_at m) rest
  hits_are = ap (map (hit_at m)) (sym (close_pass m D m.count)) ∙ sym all

  -- 512 were entered, and one is left
  pub too_many_found : (k : ℕ) (ks : List ℕ) → rest ≡ k ∷ ks → length before ≡ 512 → booked (hits_of m D) ≡ Err BookFull
  too_many_found k ks first full =
      let n = ap length (hits_are ∙ ap (λ js. before ++ map (hit_at m) js) first) ∙ length-append before (hit_at m k ∷ map (hit_at m) ks) in
      cond-true (ltb 512 (length (hits_of m D))) (Err BookFull) (Ok (hits_of m D)) (lt-ltb 512 (length (hits_of m D)) (omega (arith, n)))

  pub all_found : rest ≡ [] → length before ≤ 512 → Ok before ≡ booked (hits_of m D)
  all_found none few =
      let w : before ≡ hits_of m D = sym (append-nil before) ∙ ap (λ js. before ++ map (hit_at m) js) (sym none) ∙ sym hits_are in
      ap Ok w ∙ sym (cond-false (ltb 512 (length (hits_of m D))) (Err BookFull) (Ok (hits_of m D)) (le-ltb 512 (length (hits_of m D)) (omega (arith, ap length w))))

-- the points of a curve m with the shift t are those of the order, where the curve, the shift and the threshold are
pub same_points : (o : Order) (m : Meaning) (t D : ℕ) → m ≡ unshifted o.modulus o.count o.half_width o.shape → t ≡ shift_of o → D ≡ threshold_of o →
    booked (hits_of (shifted_meaning m t) D) ≡ booked (hits_of (meaning_of o) (threshold_of o))
same_points o m t D e s d =
    ap (λ (z : Meaning). booked (hits_of (shifted_meaning z t) D)) e
    ∙ ap (λ (z : ℕ). booked (hits_of (shifted_meaning (unshifted o.modulus o.count o.half_width o.shape) z) D)) s
    ∙ ap (λ (z : ℕ). booked (hits_of (meaning_of o) z)) d
