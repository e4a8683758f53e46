-- The gaps between the points: how far apart two points k·a and r·a can be that are d = k − r indices apart.
use Rattle.std.proofs.Common.{◌≡◌, ℕ, zero, suc, ◌+◌, ◌-◌, ◌*◌, ◌<◌, ◌≤◌, ◌⊎◌, ap, inl, inr, ⊎_elim, mul-le-mul_right, arith}
use native.Mathlib.Nat.{eq_of_mul-eq-mul_right}
use Rattle.std.proofs.lemmas.Bool.{cases_lt}
use Rattle.grid.specs.Congruent.{Same}
use Rattle.search.specs.Walk.{Shares}
use Rattle.grid.proofs.Congruence.{quotient}

-- where a point lies that stands δ above another and d indices later
abbrev pub Ahead : (x y u v d δ : ℕ) → Type 0
Ahead x y u v d δ = (x + y ≤ δ) ⊎ (((x ≤ δ) × (v ≤ d)) ⊎ ((δ ≡ 0) × (y ≡ 0) × (u ≤ d)))

-- d·a ≡ δ: then M divides u·δ + d·y
first : (M a x y u v d δ : ℕ) → 0 < M → Shares M a x y u v → Same M δ (d * a) → (i : ℕ) × (u * δ + d * y ≡ i * M)
first M a x y u v d δ h s e =
    quotient M (u * δ + d * y) (u * e.i + d * s.y_is.i) (u * e.j + d * s.y_is.j) h
    (omega (arith, ap (λ n. u * n) e.is, ap (λ n. d * n) s.y_is.is))

-- and the difference of v·δ and d·x
second : (M a x y u v d δ t : ℕ) → 0 < M → Shares M a x y u v → Same M δ (d * a) → v * δ ≡ d * x + t → (j : ℕ) × (t ≡ j * M)
second M a x y u v d δ t h s e z =
    quotient M t (v * e.i + d * s.x_is.j) (v * e.j + d * s.x_is.i) h
    (omega (arith, ap (λ n. v * n) e.is, ap (λ n. d * n) s.x_is.is))

second' : (M a x y u v d δ t : ℕ) → 0 < M → Shares M a x y u v → Same M δ (d * a) → v * δ + t ≡ d * x → (j : ℕ) × (t ≡ j * M)
second' M a x y u v d δ t h s e z =
    quotient M t (v * e.j + d * s.x_is.i) (v * e.i + d * s.x_is.j) h
    (omega (arith, ap (λ n. v * n) e.is, ap (λ n. d * n) s.x_is.is))

plus : (x y u v d δ i j : ℕ) → 0 < d → i * x + j * y ≡ δ → i * v ≡ j * u + d → Ahead x y u v d δ
plus x y u v d δ zero j h p q = absurd (omega arith)
plus x y u v d δ (suc i) zero h p q = inr (inl (omega arith, omega arith))
plus x y u v d δ (suc i) (suc j) h p q = inl (omega arith)

minus : (x y u v d δ i j : ℕ) → d < u + v → i * x ≡ δ + suc j * y → i * v + suc j * u ≡ d → Ahead x y u v d δ
minus x y u v d δ zero j h p q = inr (inr (omega arith, omega arith, omega arith))
minus x y u v d δ (suc i) j h p q = absurd (omega arith)

pub ahead :
    (M a x y u v d δ : ℕ) → 0 < M → Shares M a x y u v → Same M δ (d * a) → 0 < d → d < u + v → Ahead x y u v d δ
ahead M a x y u v d δ h s e z l =
    let (i, p) = first M a x y u v d δ h s e in
    ⊎_elim
    (λ (lt : v * δ < d * x).
    let (j, q) = second' M a x y u v d δ (d * x - v * δ) h s e (omega arith) in
    low i j p q lt)
    (λ (le : d * x ≤ v * δ).
    let (j, q) = second M a x y u v d δ (v * δ - d * x) h s e (omega arith) in
    plus x y u v d δ i j z
    (eq_of_mul-eq-mul_right M h (i * x + j * y) δ (omega (arith, ap (λ n. x * n) p, ap (λ n. y * n) (high j q le), ap (λ n. δ * n) s.whole)))
    (eq_of_mul-eq-mul_right M h (i * v) (j * u + d) (omega (arith, ap (λ n. v * n) p, ap (λ n. u * n) (high j q le), ap (λ n. d * n) s.whole))))
    (cases_lt (v * δ) (d * x))
  where
    high : (j : ℕ) → v * δ - d * x ≡ j * M → d * x ≤ v * δ → v * δ ≡ d * x + j * M
    high j q le = omega arith

    low : (i j : ℕ) → u * δ + d * y ≡ i * M → d * x - v * δ ≡ j * M → v * δ < d * x → Ahead x y u v d δ
    low i zero p q lt = absurd (omega arith)
    low i (suc j) p q lt =
        let m : d * x ≡ v * δ + suc j * M = omega arith in
        minus x y u v d δ i j l
        (eq_of_mul-eq-mul_right M h (i * x) (δ + suc j * y) (omega (arith, ap (λ n. x * n) p, ap (λ n. y * n) m, ap (λ n. δ * n) s.whole)))
        (eq_of_mul-eq-mul_right M h (i * v + suc j * u) d (omega (arith, ap (λ n. v * n) p, ap (λ n. u * n) m, ap (λ n. d * n) s.whole)))

-- the same circle, walked the other way round: a' is −a
pub turned : (M a a' m x y u v : ℕ) → a' + a ≡ m * M → Shares M a x y u v → Shares M a' y x v u
turned M a a' m x y u v c s =
    record {
      x_is = record { i = s.y_is.i + u * m; j = s.y_is.j; is = omega (arith, ap (λ n. u * n) c, s.y_is.is) };
      y_is = record { i = s.x_is.i; j = s.x_is.j + v * m; is = omega (arith, ap (λ n. v * n) c, s.x_is.is) };
      whole = omega (arith, s.whole);
    }

-- a point that stands δ above another and d indices before it
pub behind :
    (M a x y u v d δ : ℕ) → 0 < M → Shares M a x y u v → Same M (δ + d * a) 0 → 0 < d → d < u + v → Ahead y x v u d δ
behind M a x y u v d δ h s e z l =
    ahead M (M * a - a) y x v u d δ h (turned M a (M * a - a) a x y u v minus_a s)
    (record { i = e.i + d * a; j = e.j; is = omega (arith, ap (λ n. d * n) minus_a, e.is) })
    z (omega arith)
  where
    minus_a : (M * a - a) + a ≡ a * M
    minus_a = omega (arith, mul-le-mul_right a h)
