-- The curve of an order, and its close points.
use Rattle.std.specs.Prelude.{ℕ, zero, suc, ◌+◌, ◌/◌, Bool, cond, List, [], ◌∷◌, ◌++◌, map, length, take, Ok, Err, Result, nat_lt}
use Rattle.curves.specs.Kinds.{straight_meaning, bowed_meaning, listed_meaning, shifted_meaning}
use Rattle.curves.specs.Meaning.{Meaning}
use Rattle.reports.specs.Limits.{to_nearest, threshold_of, judged}
use Rattle.reports.specs.declared.hit.Hit.{Hit}
use Rattle.reports.specs.declared.order.Order.{Order}
use Rattle.reports.specs.declared.order.Shape.{Shape}
use Rattle.reports.specs.declared.order.Shape.TheVariants.{Straight, Bowed, Listed}
use Rattle.reports.specs.declared.refusal.LineRefusal.{LineRefusal}
use Rattle.reports.specs.declared.refusal.LineRefusal.TheVariants.{BookFull}

-- the curve of a shape, with the modulus M, the count N and the half width h, by which the lines of a bowed curve may leave it
abbrev pub unshifted : (M N h : ℕ) → Shape → Meaning
unshifted M N h (Straight a b) = straight_meaning M N a b
unshifted M N h (Bowed c0 c1 c2) = bowed_meaning M N c0 c1 c2 h
unshifted M N h (Listed vs) = listed_meaning M (take N vs)

-- what every value gains: the half width, and half the modulus where rounding is to nearest
abbrev pub shift_of : Order → ℕ
shift_of o = o.half_width + cond (to_nearest o.mode) (o.modulus / 2) 0

abbrev pub meaning_of : Order → Meaning
meaning_of o = shifted_meaning (unshifted o.modulus o.count o.half_width o.shape) (shift_of o)

-- an index is close when its value is below the threshold D
abbrev pub close : Meaning → (D k : ℕ) → Bool
close m D k = nat_lt (m.value k) D

-- the indices below n that pass a test, rising
abbrev pub passing : (ℕ → Bool) → ℕ → List ℕ
passing p zero = []
passing p (suc n) = passing p n ++ cond (p n) (n ∷ []) []

abbrev pub hit_at : Meaning → ℕ → Hit
hit_at m k = record { index = k; value = m.value k }

-- the close points below an index, rising, and those of the whole curve
abbrev pub hits_below : Meaning → (D n : ℕ) → List Hit
hits_below m D n = map (hit_at m) (passing (close m D) n)

abbrev pub hits_of : Meaning → (D : ℕ) → List Hit
hits_of m D = hits_below m D m.count

-- the book has 512 places
abbrev pub booked : List Hit → Result (List Hit) LineRefusal
booked hs = cond (nat_lt 512 (length hs)) (Err BookFull) (Ok hs)

abbrev pub found_within : Result (Unit {0}) LineRefusal → List Hit → Result (List Hit) LineRefusal
found_within (Err e) hs = Err e
found_within (Ok _) hs = booked hs

-- the close points of an order within its limits, or why it is refused
abbrev pub found : Order → Result (List Hit) LineRefusal
found o = found_within (judged o) (hits_of (meaning_of o) (threshold_of o))
