-- What follows from the definitions, for every modulus, slope, offset and number of points.
use Rattle.std.specs.Prelude.{◌≡◌, ℕ, ◌+◌, ◌<◌, ◌≤◌, ◌↔◌}
use Rattle.search.specs.Points.{distance}
use Rattle.search.specs.Configurations.{Config, config_at, config_for, gap}
use Rattle.search.specs.Vouching.{Vouches}
use Rattle.search.specs.declared.evidence.Evidence.{Evidence}

-- the configuration for n is the first, from the start on, with u + v ≥ n
pub record First (M a n : ℕ) (c : Config) : Type 0 where
  pub t : ℕ
  pub reached : c ≡ config_at M a t
  pub enough : n ≤ c.u + c.v
  pub none_before : (s : ℕ) → s < t → (config_at M a s).u + (config_at M a s).v < n

abbrev pub ConfigurationIsTheFirstLongEnough : Type 0
ConfigurationIsTheFirstLongEnough = (M a n : ℕ) → First M a n (config_for M a n)

-- r is the one index below n whose gap holds b
pub record Only (M a b n : ℕ) (c : Config) (r : ℕ) : Type 0 where
  pub below : r < n
  pub inside : distance M a b r < gap n c r
  pub alone : (s : ℕ) → s < n → distance M a b s < gap n c s → s ≡ r

abbrev pub ExactlyOneGapHoldsTheOffset : Type 0
ExactlyOneGapHoldsTheOffset =
    (M a b n : ℕ) → 1 ≤ M → a < M → 1 ≤ n → (r : ℕ) × Only M a b n (config_for M a n) r

-- where numbers vouch, the distance at their r is the least on the stretch
abbrev pub VouchingNumbersGiveTheLeastDistance : Type 0
VouchingNumbersGiveTheLeastDistance =
    (M a b D n : ℕ) (e : Evidence) → 1 ≤ M → Vouches M a b D n e → (k : ℕ) → k < n → distance M a b e.r ≤ distance M a b k

-- some numbers vouch exactly when no point of the stretch is closer than D
abbrev pub NumbersVouchExactlyWhenNoPointIsClose : Type 0
NumbersVouchExactlyWhenNoPointIsClose =
    (M a b D n : ℕ) → 1 ≤ M → a < M → 1 ≤ n →
    ((e : Evidence) × Vouches M a b D n e) ↔ ((k : ℕ) → k < n → D ≤ distance M a b k)
