-- From what the walk knows to the answer of the search.
use Rattle.std.proofs.Common.{◌≡◌, ℕ, zero, suc, ◌+◌, ◌-◌, ◌<◌, ◌≤◌, min, Bool, true, false, cond, ltb, ◌⊎◌, Some, None, sym, refl, ap, ◌∙◌, subst, ⊎_elim, arith}
use Rattle.std.proofs.lemmas.Bool.{cases_lt, lt-ltb, le-ltb}
use Rattle.search.proofs.Distances.{distance_at}
use Rattle.search.proofs.Sound.{gap_is, nearest, only}
use Rattle.search.proofs.Complete.{fine_start}
use Rattle.search.proofs.Reach.{arrive}
use Rattle.search.specs.Points.{distance, least}
use Rattle.search.specs.Configurations.{Config, start, gap, config_for}
use Rattle.search.specs.Answers.{evidence, close_at, answer}
use Rattle.search.specs.Vouching.{config_of}
use Rattle.search.specs.Walk.{Spot, Holds, Walks, Hits, placed}
use Rattle.search.specs.declared.evidence.Evidence.{Evidence}
use Rattle.search.specs.declared.answer.Answer.TheVariants.{Close, Clear}

pub least_none : (p : ℕ → Bool) (n : ℕ) → ((j : ℕ) → j < n → p j ≡ false) → least p n ≡ n
least_none p zero h = refl
least_none p (suc n) h =
    ap (λ k. cond (ltb k n) k (cond (p n) n (suc n))) (least_none p n (λ j l. h j (omega arith)))
    ∙ ap (λ t. cond t n (cond (p n) n (suc n))) (le-ltb n n (omega arith))
    ∙ ap (λ t. cond t n (suc n)) (h n (omega arith))

pub least_is : (p : ℕ → Bool) (n k : ℕ) → k < n → p k ≡ true → ((j : ℕ) → j < k → p j ≡ false) → least p n ≡ k
least_is p zero k l t h = absurd (omega arith)
least_is p (suc n) k l t h =
    ⊎_elim
    (λ (lt : k < n).
    ap (λ m. cond (ltb m n) m (cond (p n) n (suc n))) (least_is p n k lt t h)
    ∙ ap (λ b. cond b k (cond (p n) n (suc n))) (lt-ltb k n lt))
    (λ (le : n ≤ k).
    let e : k ≡ n = omega arith in
    ap (λ m. cond (ltb m n) m (cond (p n) n (suc n))) (least_none p n (λ j lt. h j (omega arith)))
    ∙ ap (λ b. cond b n (cond (p n) n (suc n))) (le-ltb n n (omega arith))
    ∙ ap (λ b. cond b n (suc n)) (subst (λ m. p m ≡ true) e t)
    ∙ sym e)
    (cases_lt k n)

abbrev pub made : Config → ℕ → Evidence
made c r = record { u = c.u; v = c.v; x = c.x; y = c.y; r = r }

pub evidence_is : (M a b n : ℕ) (c : Config) (r : ℕ) → 0 < M → config_for M a n ≡ c → Holds M a b n c r → evidence M a b n ≡ made c r
evidence_is M a b n c r h e s =
    ap (λ (d : Config). made d (least (λ j. ltb (distance M a b j) (gap n d j)) n)) e
    ∙ ap (made c) (least_is (λ j. ltb (distance M a b j) (gap n c j)) n r s.below (lt-ltb (distance M a b r) (gap n c r) s.inside)
    (λ j l. le-ltb (distance M a b j) (gap n c j) (outside j l)))
  where
    outside : (j : ℕ) → j < r → gap n c j ≤ distance M a b j
    outside j l =
        ⊎_elim
        (λ (i : distance M a b j < gap n c j).
        absurd (omega (arith, only M a b n c j r h (record { shares = s.shares; enough = s.enough; below = omega (arith, s.below); inside = i }) s)))
        (λ g. g)
        (cases_lt (distance M a b j) (gap n c j))

pub clear_is : (M a b D n : ℕ) (c : Config) (r : ℕ) → 0 < M → config_for M a n ≡ c → Holds M a b n c r → D ≤ distance M a b r → answer M a b D n ≡ Clear (made c r)
clear_is M a b D n c r h e s f =
    ap (λ k. cond (ltb k n) (close_at M a b k) (Clear (evidence M a b n)))
    (least_none (λ k. ltb (distance M a b k) D) n (λ j l. le-ltb (distance M a b j) D (omega (arith, nearest M a b n c r h s j l))))
    ∙ ap (λ t. cond t (close_at M a b n) (Clear (evidence M a b n))) (le-ltb n n (omega arith))
    ∙ ap Clear (evidence_is M a b n c r h e s)

at_least : (M a b D n k : ℕ) → k < n → distance M a b k < D → ((j : ℕ) → j < k → D ≤ distance M a b j) → answer M a b D n ≡ close_at M a b k
at_least M a b D n k l c h =
    ap (λ m. cond (ltb m n) (close_at M a b m) (Clear (evidence M a b n)))
    (least_is (λ m. ltb (distance M a b m) D) n k l (lt-ltb (distance M a b k) D c) (λ j z. le-ltb (distance M a b j) D (h j z)))
    ∙ ap (λ t. cond t (close_at M a b k) (Clear (evidence M a b n))) (lt-ltb k n l)

pub close_is : (M a b D n k w : ℕ) (e : Evidence) → 0 < M → Hits M a b D n k w e → answer M a b D n ≡ Close k w (Some e)
close_is M a b D n zero w e h s = absurd (omega (arith, s.from))
close_is M a b D n (suc k) w e h s =
    at_least M a b D n (suc k) s.below (omega (arith, s.value, s.close)) s.least
    ∙ ap (λ d. Close (suc k) d (Some (evidence M a b (suc k)))) (sym s.value)
    ∙ ap (λ d. Close (suc k) w (Some d)) (evidence_is M a b (suc k) (config_of e) e.r h s.config s.held)

at_zero : (M a b : ℕ) → b < M → distance M a b 0 ≡ b
at_zero M a b l = distance_at M a b 0 b l (record { i = 0; j = 0; is = omega arith })

at_one : (M a b : ℕ) → b < M → a ≤ b → distance M a b 1 ≡ b - a
at_one M a b l h = distance_at M a b 1 (b - a) (omega arith) (record { i = 0; j = 0; is = omega arith })

-- the point 0 alone is near
pub zero_is : (M a b D n : ℕ) → b < M → 1 ≤ n → b < D → answer M a b D n ≡ Close 0 b None
zero_is M a b D n l h c =
    at_least M a b D n 0 h (omega (arith, at_zero M a b l)) (λ j z. absurd (omega arith))
    ∙ ap (λ d. Close 0 d None) (at_zero M a b l)

-- one point: its gap is the whole circle
pub one_held : (M a b : ℕ) → a < M → b < M → Holds M a b 1 (start M a) 0
one_held M a b h l =
    record {
      shares = (fine_start M a 1 (omega arith) (omega arith)).shares;
      enough = omega arith;
      below = omega arith;
      inside = omega (arith, at_zero M a b l, gap_is 1 (start M a) 0);
    }

pub one_close : (M a b D n : ℕ) → a < M → b < M → 2 ≤ n → D ≤ b → a ≤ b → b - a < D → Hits M a b D n 1 (b - a) (record { u = 1; v = 1; x = a; y = M - a; r = 0 })
one_close M a b D n h l z f g c =
    record {
      from = omega arith;
      below = z;
      value = sym (at_one M a b l g);
      close = c;
      least = λ j i. subst (λ k. D ≤ distance M a b k) (none_below j i) (omega (arith, at_zero M a b l));
      config = refl;
      held = one_held M a b h l;
    }
  where
    none_below : (j : ℕ) → j < 1 → 0 ≡ j
    none_below j i = omega arith

-- two points
pub two_walks : (M a b D n r d : ℕ) → a < M → b < M → 2 ≤ n → D ≤ d → ((r ≡ 0) × (d ≡ b) × (b < a)) ⊎ ((r ≡ 1) × (d ≡ b - a) × (a ≤ b)) →
    Walks M a b D n (record { u = 1; v = 1; x = a; y = M - a; r = r; d = d })
two_walks M a b D n r d h l z f o =
    record {
      u_from = omega arith;
      u_to = omega arith;
      v_from = omega arith;
      v_to = omega arith;
      x_to = omega arith;
      y_to = omega arith;
      held = record {
        shares = (fine_start M a 1 (omega arith) (omega arith)).shares;
        enough = omega arith;
        below = omega arith;
        inside = omega (arith, d_is, o, gap_is (min n (1 + 1)) (start M a) r);
      };
      d_is = d_is;
      far = f;
      to_n = record { f = n; left = omega arith; is = refl };
      beyond = λ k _. record { f = k; left = omega arith; is = refl };
    }
  where
    d_is : d ≡ distance M a b r
    d_is = ⊎_elim
        (λ (e : (r ≡ 0) × (d ≡ b) × (b < a)). e.1 ∙ sym (at_zero M a b l) ∙ ap (distance M a b) (sym e.0))
        (λ (e : (r ≡ 1) × (d ≡ b - a) × (a ≤ b)). e.1 ∙ sym (at_one M a b l e.2) ∙ ap (distance M a b) (sym e.0))
        o

-- a walk at the place that was made
pub stands : {M a b D n : ℕ} {s t : Spot} → Walks M a b D n s → t ≡ s → Walks M a b D n t
stands {M} {a} {b} {D} {n} w e = subst (Walks M a b D n) (sym e) w

-- the walk has come to n
pub walked : (M a b D n : ℕ) (s : Spot) → 0 < M → Walks M a b D n s → n ≤ s.u + s.v →
    answer M a b D n ≡ Clear (record { u = s.u; v = s.v; x = s.x; y = s.y; r = s.r })
walked M a b D n s h w l =
    let e : min n (s.u + s.v) ≡ n = omega arith in
    clear_is M a b D n (placed s) s.r h (arrive M a n (placed s) w.to_n l)
    (subst (λ m. Holds M a b m (placed s) s.r) e w.held) (omega (arith, w.far, w.d_is))
