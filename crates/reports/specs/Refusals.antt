-- The refusals of a line: each one's number, and when it is answered. A line is refused by the first that fits, in this order.
use Rattle.std.specs.Prelude.{ℕ}
use Rattle.grid.specs.Refusals.{number_of as modulus_number}
use Rattle.reports.specs.declared.refusal.LineRefusal.{LineRefusal}
use Rattle.reports.specs.declared.refusal.LineRefusal.TheVariants.{Letter, Field, Modulus, Count, OddModulus, Threshold, Coefficient, BookFull}

abbrev pub refusal_number : LineRefusal → ℕ
-- more than 1,024 bytes, or a letter of kind or mode that is wrong or missing
refusal_number Letter = 40
-- a field that is not a number, or the wrong number of fields
refusal_number Field = 41
-- 1: a modulus outside 2..2^40
refusal_number (Modulus refusal) = modulus_number refusal
-- a count outside 1..2^20, for a listed curve outside 1..32
refusal_number Count = 2
-- rounding to nearest with an odd modulus
refusal_number OddModulus = 7
-- a threshold above the modulus
refusal_number Threshold = 3
-- a coefficient beyond its limit
refusal_number Coefficient = 4
-- more than 512 close points
refusal_number BookFull = 12
