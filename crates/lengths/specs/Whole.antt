-- Whole units kept in a float.
use Rattle.std.specs.Prelude.{ℕ, ◌≤◌, T, Float}
use Rattle.std.specs.Float.{Format}
use Rattle.std.specs.Float.Ieee.{fits, in_unsigned, to_unsigned}

-- the units that a float holds, as the cast to 64-bit whole numbers has them
abbrev pub units_of : Float → ℕ
units_of x = to_unsigned 64 x

-- x is a value of the format f and a whole number of at most `most` units: that the cast loses nothing says that x is
-- neither negative, nor -0, nor infinite, nor a NaN, and has no fraction
abbrev pub WholeUpTo : Format → ℕ → Float → Type 0
WholeUpTo f most x = T (fits f x) × T (in_unsigned f 64 x) × (units_of x ≤ most)
