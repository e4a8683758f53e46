-- Members of lists, lists that rise, and the close indices of a block as members.
use Rattle.std.proofs.Common.{◌≡◌, ℕ, zero, suc, ◌+◌, ◌*◌, ◌<◌, ◌≤◌, ltb, ◌⊎◌, List, [], ◌∷◌, ◌++◌, refl, inl, inr, ⊎_elim, arith}
use Rattle.std.proofs.lemmas.Bool.{cases_lt, cond_both, ltb-true, ltb-false}
use Rattle.curves.specs.Closes.{close_among}
use Rattle.curves.specs.Meaning.{Meaning}
use Rattle.curves.specs.Windows.{Close}
use Rattle.sheets.specs.Blocks.{start_of, stop_of}
use Rattle.surveys.specs.Keeper.{Among, Above, Rising}
use Rattle.surveys.specs.Ledger.{Ledger, asked, close_in}

-- ---- members of two lists together

pub in_either : (k : ℕ) (xs ys : List ℕ) → Among k (xs ++ ys) → Among k xs ⊎ Among k ys
in_either k [] ys h = inr h
in_either k (x ∷ xs) ys (inl e) = inl (inl e)
in_either k (x ∷ xs) ys (inr h) = ⊎_elim (λ (a : Among k xs). inl (inr a)) (λ (b : Among k ys). inr b) (in_either k xs ys h)

pub in_first : (k : ℕ) (xs ys : List ℕ) → Among k xs → Among k (xs ++ ys)
in_first k [] ys h = elim h [ ]
in_first k (x ∷ xs) ys (inl e) = inl e
in_first k (x ∷ xs) ys (inr h) = inr (in_first k xs ys h)

pub in_second : (k : ℕ) (xs ys : List ℕ) → Among k ys → Among k (xs ++ ys)
in_second k [] ys h = h
in_second k (x ∷ xs) ys h = inr (in_second k xs ys h)

-- ---- rising

above_all : (j : ℕ) (ys : List ℕ) → ((k : ℕ) → Among k ys → j < k) → Above j ys
above_all j [] all = tt
above_all j (y ∷ ys) all = (all y (inl refl), above_all j ys (λ k h. all k (inr h)))

-- two lists that rise, the first below the second
pub rising_together : (xs ys : List ℕ) → Rising xs → Rising ys → ((j k : ℕ) → Among j xs → Among k ys → j < k) → Rising (xs ++ ys)
rising_together [] ys p q all = q
rising_together (x ∷ xs) ys p q all =
    (above_both xs p.0, rising_together xs ys p.1 q (λ j k h. all j k (inr h)))
  where
    above_both : (xs : List ℕ) → Above x xs → Above x (xs ++ ys)
    above_both [] a = above_all x ys (λ k. all x k (inl refl))
    above_both (z ∷ xs) a = (a.0, above_both xs a.1)

-- ---- close indices

-- an index from s on and below t, and close
pub record CloseWithin (m : Meaning) (D s t k : ℕ) : Type 0 where
  pub from : s ≤ k
  pub below : k < t
  pub close : Close m D k

close_among_within : (m : Meaning) (D s n k : ℕ) → Among k (close_among m D s n) → CloseWithin m D s (s + n) k
close_among_within m D s zero k h = elim h [ ]
close_among_within m D s (suc n) k h =
    let behind : Among k (close_among m D (s + 1) n) → CloseWithin m D s (s + suc n) k =
    λ h. let w = close_among_within m D (s + 1) n k h in record { from = omega arith; below = omega arith; close = w.close } in
    cond_both (ltb (m.value s) D) _ _ (λ xs. Among k xs → CloseWithin m D s (s + suc n) k)
    (λ e. ⊎_elim
    (λ (here : k ≡ s). record { from = omega arith; below = omega arith; close = rw here (ltb-true (m.value s) D e) })
    behind)
    (λ e. behind) h

within_close_among : (m : Meaning) (D s n k : ℕ) → CloseWithin m D s (s + n) k → Among k (close_among m D s n)
within_close_among m D s zero k w = absurd (omega arith)
within_close_among m D s (suc n) k w =
    let behind : s < k → Among k (close_among m D (s + 1) n) =
    λ h. within_close_among m D (s + 1) n k (record { from = omega arith; below = omega arith; close = w.close }) in
    cond_both (ltb (m.value s) D) _ _ (Among k)
    (λ e. ⊎_elim (λ (h : s < k). inr (behind h)) (λ (h : k ≤ s). inl (omega arith)) (cases_lt s k))
    (λ e. ⊎_elim behind
    (λ (h : k ≤ s).
    let here : s ≡ k = omega arith in
    let far : D ≤ m.value k = rw here at (ltb-false (m.value s) D e) in
    absurd (omega (arith, w.close)))
    (cases_lt s k))

close_among_rises : (m : Meaning) (D s n : ℕ) → Rising (close_among m D s n)
close_among_rises m D s zero = tt
close_among_rises m D s (suc n) =
    cond_both (ltb (m.value s) D) _ _ Rising
    (λ e. (above_all s _ (λ k h. let w = close_among_within m D (s + 1) n k h in omega arith), close_among_rises m D (s + 1) n))
    (λ e. close_among_rises m D (s + 1) n)

-- ---- the close indices of a block

module _ (m : Meaning) (l : Ledger) where
  pub close_in_rises : (b : ℕ) → Rising (close_in m l b)
  close_in_rises b = close_among_rises m l.threshold (start_of m (asked 0 l b)) _

  pub close_in_within : (b k : ℕ) → Among k (close_in m l b) →
      CloseWithin m l.threshold (start_of m (asked 0 l b)) (stop_of m (asked 0 l b)) k
  close_in_within b k h =
      let w = close_among_within m l.threshold (start_of m (asked 0 l b)) _ k h in
      record { from = w.from; below = omega arith; close = w.close }

  pub within_close_in : (b k : ℕ) → CloseWithin m l.threshold (start_of m (asked 0 l b)) (stop_of m (asked 0 l b)) k →
      Among k (close_in m l b)
  within_close_in b k w =
      within_close_among m l.threshold (start_of m (asked 0 l b)) _ k
      (record { from = w.from; below = omega arith; close = w.close })

  -- they lie between the block's bounds, whether the count cuts it or not
  pub close_in_bounds : (b k : ℕ) → Among k (close_in m l b) → (b * l.block_length ≤ k) × (k < b * l.block_length + l.block_length)
  close_in_bounds b k h = let w = close_in_within b k h in (omega arith, omega arith)
