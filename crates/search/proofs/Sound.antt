-- Vouching: the distance of r is the least below n, and r is the only one.
use Rattle.std.proofs.Common.{◌≡◌, ℕ, ◌+◌, ◌-◌, ◌*◌, ◌<◌, ◌≤◌, cond, ltb, leb, ◌⊎◌, refl, ap, inl, inr, ⊎_elim, arith}
use Rattle.std.proofs.lemmas.Bool.{cases_lt, cases_order, ltb-true, ltb-false, leb-true, leb-false, cond_both}
use Rattle.search.proofs.Distances.{distance_is}
use Rattle.search.proofs.Lattice.{ahead, behind}
use Rattle.grid.specs.Congruent.{Same}
use Rattle.search.specs.Walk.{Holds}
use Rattle.search.specs.Points.{distance}
use Rattle.search.specs.Configurations.{Config, gap}

-- the gap after r, by cases
abbrev pub Gap : (n : ℕ) (c : Config) (r g : ℕ) → Type 0
Gap n c r g =
    ((r + c.v < n) × (g ≡ c.x)) ⊎
    (((n ≤ r + c.v) × (c.u ≤ r) × (g ≡ c.y)) ⊎ ((n ≤ r + c.v) × (r < c.u) × (g ≡ c.x + c.y)))

pub gap_is : (n : ℕ) (c : Config) (r : ℕ) → Gap n c r (gap n c r)
gap_is n c r =
    cond_both (ltb (r + c.v) n) c.x (cond (leb c.u r) c.y (c.x + c.y)) (Gap n c r)
    (λ e. inl (ltb-true (r + c.v) n e, refl))
    (λ e. cond_both (leb c.u r) c.y (c.x + c.y) (Gap n c r)
    (λ f. inr (inl (ltb-false (r + c.v) n e, leb-true c.u r f, refl)))
    (λ f. inr (inr (ltb-false (r + c.v) n e, leb-false c.u r f, refl))))

-- two points, d indices apart: their distances differ by the way between them
pub later : (M a b r k d : ℕ) → 0 < M → k ≡ r + d → distance M a b k ≤ distance M a b r → Same M (distance M a b r - distance M a b k) (d * a)
later M a b r k d h z l =
    let p = (distance_is M a b r h).1 in
    let q = (distance_is M a b k h).1 in
    record { i = p.i + q.j; j = q.i + p.j; is = omega (arith, p.is, q.is, ap (λ n. n * a) z) }

pub earlier : (M a b r k d : ℕ) → 0 < M → r ≡ k + d → distance M a b k ≤ distance M a b r → Same M ((distance M a b r - distance M a b k) + d * a) 0
earlier M a b r k d h z l =
    let p = (distance_is M a b r h).1 in
    let q = (distance_is M a b k h).1 in
    record { i = p.i + q.j; j = q.i + p.j; is = omega (arith, p.is, q.is, ap (λ n. n * a) z) }

-- where k stands, if its distance is no more than that of r
pub after : (M a b n : ℕ) (c : Config) (r k : ℕ) → 0 < M → Holds M a b n c r → k < n → r < k → distance M a b k ≤ distance M a b r →
    (distance M a b k ≡ distance M a b r) × (c.y ≡ 0) × (c.u ≤ k)
after M a b n c r k h s l z le =
    let e = ahead M a c.x c.y c.u c.v (k - r) (distance M a b r - distance M a b k) h s.shares
    (later M a b r k (k - r) h (omega arith) le) (omega arith) (omega (arith, s.enough)) in
    omega (arith, s.inside, s.enough, e, gap_is n c r)

pub before : (M a b n : ℕ) (c : Config) (r k : ℕ) → 0 < M → Holds M a b n c r → k < r → distance M a b k ≤ distance M a b r →
    (distance M a b k ≡ distance M a b r) × (c.x ≡ 0) × (k + c.v < n)
before M a b n c r k h s z le =
    let e = behind M a c.x c.y c.u c.v (r - k) (distance M a b r - distance M a b k) h s.shares
    (earlier M a b r k (r - k) h (omega arith) le) (omega arith) (omega (arith, s.enough, s.below)) in
    omega (arith, s.inside, s.enough, s.below, e, gap_is n c r)

-- r has the least distance
pub nearest : (M a b n : ℕ) (c : Config) (r : ℕ) → 0 < M → Holds M a b n c r → (k : ℕ) → k < n → distance M a b r ≤ distance M a b k
nearest M a b n c r h s k l =
    ⊎_elim
    (λ (lt : distance M a b k < distance M a b r).
    absurd (⊎_elim (λ (e : k ≡ r). omega (arith, ap (distance M a b) e))
    (λ o. ⊎_elim
    (λ (z : k < r). omega (arith, before M a b n c r k h s z (omega arith)))
    (λ (z : r < k). omega (arith, after M a b n c r k h s l z (omega arith))) o)
    (cases_order k r)))
    (λ le. le)
    (cases_lt (distance M a b k) (distance M a b r))

-- and no other has b in its gap
second : (M a b n : ℕ) (c : Config) (r s : ℕ) → 0 < M → Holds M a b n c r → Holds M a b n c s → r < s → ⊥
second M a b n c r s h p q l =
    omega (
      arith,
      gap_is n c r,
      gap_is n c s,
      p.inside,
      q.inside,
      after M a b n c r s h p q.below l (nearest M a b n c s h q r p.below),
    )

pub only : (M a b n : ℕ) (c : Config) (r s : ℕ) → 0 < M → Holds M a b n c r → Holds M a b n c s → r ≡ s
only M a b n c r s h p q =
    ⊎_elim (λ e. e)
    (λ o. ⊎_elim (λ l. absurd (second M a b n c r s h p q l)) (λ l. absurd (second M a b n c s r h q p l)) o)
    (cases_order r s)
