-- The refusals of a search: when each is answered, and its number.
use Rattle.std.specs.Prelude.{ℕ, ◌^◌, cond, ◌&&◌, Some, None, Option, nat_le, nat_lt}
use Rattle.grid.specs.Refusals.{number_of as modulus_number}
use Rattle.grid.specs.declared.refusal.ModulusRefusal.TheVariants.{OutsideLimits}
use Rattle.search.specs.declared.refusal.SearchRefusal.{SearchRefusal}
use Rattle.search.specs.declared.refusal.SearchRefusal.TheVariants.{Modulus, Coefficient, Threshold, Points}

-- 1 a modulus outside 2 to 2^40; 4 a slope or an offset not below the modulus; 3 a threshold above the modulus;
-- 2 a number of points outside 1 to 2^20
abbrev pub number_of : SearchRefusal → ℕ
number_of (Modulus refusal) = modulus_number refusal
number_of Coefficient = 4
number_of Threshold = 3
number_of Points = 2

-- the first of them that the modulus M, the slope a, the offset b, the threshold D and n points call for, in this order
abbrev pub refused : (M a b D n : ℕ) → Option SearchRefusal
refused M a b D n =
    cond (nat_le 2 M && nat_le M (2 ^ 40))
    (cond (nat_lt a M && nat_lt b M)
    (cond (nat_le D M)
    (cond (nat_le 1 n && nat_le n (2 ^ 20)) None (Some Points))
    (Some Threshold))
    (Some Coefficient))
    (Some (Modulus OutsideLimits))
