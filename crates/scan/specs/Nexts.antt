-- The next close index of a range.
use Rattle.std.specs.Prelude.{ℕ, ◌<◌, ◌≤◌, Bool, ◌&&◌, Some, None, Option, nat_lt}
use Rattle.curves.specs.Meaning.{Meaning}
use Rattle.curves.specs.Windows.{Close}
use Rattle.scan.specs.Passed.{NoneClose}

-- whether the curve has the index k and it is close for the threshold D
abbrev pub is_close : Meaning → (D k : ℕ) → Bool
is_close m D k = nat_lt k m.count && nat_lt (m.value k) D

-- k is the least close index of the curve from s on and below t, for the threshold D
pub record LeastClose (m : Meaning) (D s t k : ℕ) : Type 0 where
  pub from : s ≤ k
  pub below : k < t
  pub within : k < m.count
  pub close : Close m D k
  pub before : NoneClose m D s k

-- the least close index of the range, or none where no index of the range and of the curve is close
abbrev pub NextClose : Meaning → (D s t : ℕ) → Option ℕ → Type 0
NextClose m D s t (Some k) = LeastClose m D s t k
NextClose m D s t None = (k : ℕ) → s ≤ k → k < t → k < m.count → D ≤ m.value k
