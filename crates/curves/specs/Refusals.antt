-- The refusals of the makers of curves: when each is answered, and its number.
use Rattle.std.specs.Prelude.{◌≡◌, ℕ, ◌^◌, ◌<◌, ◌≤◌, Bool, cond, ◌&&◌, ◌⊎◌, Some, None, Ok, Err, Option, Result, nat_le}
use Rattle.grid.specs.declared.modulus.Modulus.{Modulus as Circle}
use Rattle.grid.specs.Refusals.{number_of as modulus_number}
use Rattle.grid.specs.declared.refusal.ModulusRefusal.TheVariants.{OutsideLimits}
use Rattle.curves.specs.declared.refusal.CurveRefusal.{CurveRefusal}
use Rattle.curves.specs.declared.refusal.CurveRefusal.TheVariants.{Modulus, Count, Coefficient}

-- 1 a modulus outside 2 to 2^40; 2 a count or the length of a list outside 1 to 2^20; 4 a coefficient, a slope, an offset
-- or a tolerance beyond its limit. Nothing is made.
abbrev pub number_of : CurveRefusal → ℕ
number_of (Modulus refusal) = modulus_number refusal
number_of Count = 2
number_of Coefficient = 4

-- the first that a modulus M, a count N and, once M and N are within their limits, the coefficients call for
abbrev pub first_refusal : (M N : ℕ) → Bool → Option CurveRefusal
first_refusal M N coefficients_fit =
    cond (nat_le 2 M && nat_le M (2 ^ 40))
    (cond (nat_le 1 N && nat_le N (2 ^ 20))
    (cond coefficients_fit None (Some Coefficient))
    (Some Count))
    (Some (Modulus OutsideLimits))

-- a modulus M and a count N within their limits, or the first of the two refusals
abbrev pub Within : (M N : ℕ) → Result Circle CurveRefusal → Type 0
Within M N (Ok m) = (2 ≤ M) × (M ≤ 2 ^ 40) × (1 ≤ N) × (N ≤ 2 ^ 20) × (m.value ≡ M)
Within M N (Err (Modulus OutsideLimits)) = (M < 2) ⊎ (2 ^ 40 < M)
Within M N (Err Count) = (2 ≤ M) × (M ≤ 2 ^ 40) × ((N < 1) ⊎ (2 ^ 20 < N))
Within M N (Err Coefficient) = ⊥
