-- The number that a refused line prints.
use Rattle.std.specs.Prelude.{ℕ}
use Rattle.grid.specs.declared.refusal.ModulusRefusal.{ModulusRefusal}
use Rattle.grid.specs.declared.refusal.ModulusRefusal.TheVariants.{OutsideLimits}

-- 1: a modulus was asked for that is below 2 or above 2 ^ 40; nothing is made
abbrev pub number_of : ModulusRefusal → ℕ
number_of OutsideLimits = 1
