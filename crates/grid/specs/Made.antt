-- What making a modulus answers.
use Rattle.std.specs.Prelude.{◌≡◌, ℕ, ◌^◌, ◌<◌, ◌≤◌, ◌⊎◌, Ok, Err, Result}
use Rattle.grid.specs.declared.modulus.Modulus.{Modulus}
use Rattle.grid.specs.declared.refusal.ModulusRefusal.{ModulusRefusal}
use Rattle.grid.specs.declared.refusal.ModulusRefusal.TheVariants.{OutsideLimits}

-- a number from 2 to 2 ^ 40 makes the modulus of that value, and any other is outside the limits
abbrev pub Made : ℕ → Result Modulus ModulusRefusal → Type 0
Made n (Ok m) = (2 ≤ n) × (n ≤ 2 ^ 40) × (m.value ≡ n)
Made n (Err OutsideLimits) = (n < 2) ⊎ (2 ^ 40 < n)
