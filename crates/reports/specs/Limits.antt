-- The limits of the numbers that a line gives.
use Rattle.std.specs.Prelude.{ℕ, ◌+◌, ◌*◌, ◌%◌, ◌^◌, Bool, true, false, cond, ◌&&◌, ◌||◌, Ok, Err, Result, ◌==◌, nat_le, nat_lt, unsigned_abs}
use Rattle.grid.specs.declared.refusal.ModulusRefusal.TheVariants.{OutsideLimits}
use Rattle.reports.specs.declared.order.Mode.{Mode}
use Rattle.reports.specs.declared.order.Mode.TheVariants.{Directed, Nearest}
use Rattle.reports.specs.declared.order.Order.{Order}
use Rattle.reports.specs.declared.order.Shape.{Shape}
use Rattle.reports.specs.declared.order.Shape.TheVariants.{Straight, Bowed, Listed}
use Rattle.reports.specs.declared.refusal.LineRefusal.{LineRefusal}
use Rattle.reports.specs.declared.refusal.LineRefusal.TheVariants.{Modulus, Count, OddModulus, Threshold, Coefficient}

abbrev pub to_nearest : Mode → Bool
to_nearest Directed = false
to_nearest Nearest = true

-- the threshold leaves the half width on either side of the middle
abbrev pub threshold_of : Order → ℕ
threshold_of o = 2 * o.half_width + 1

-- the most points of a curve: a listed one has 32
abbrev pub most_points : Shape → ℕ
most_points (Straight a b) = 2 ^ 20
most_points (Bowed c0 c1 c2) = 2 ^ 20
most_points (Listed vs) = 32

-- a slope, an offset, c0 and |c1| are below the modulus M, and |c2| is at most 2^20; listed values have no limit
abbrev pub coefficients_within : ℕ → Shape → Bool
coefficients_within M (Straight a b) = nat_lt a M && nat_lt b M
coefficients_within M (Bowed c0 c1 c2) = nat_lt c0 M && (nat_lt (unsigned_abs c1) M && nat_le (unsigned_abs c2) (2 ^ 20))
coefficients_within M (Listed vs) = true

-- the first limit that an order passes refuses it
abbrev pub judged : Order → Result (Unit {0}) LineRefusal
judged o =
    cond (nat_lt o.modulus 2 || nat_lt (2 ^ 40) o.modulus) (Err (Modulus OutsideLimits))
    (cond (nat_lt o.count 1 || nat_lt (most_points o.shape) o.count) (Err Count)
    (cond (to_nearest o.mode && o.modulus % 2 == 1) (Err OddModulus)
    (cond (nat_lt o.modulus (threshold_of o)) (Err Threshold)
    (cond (coefficients_within o.modulus o.shape) (Ok tt) (Err Coefficient)))))
