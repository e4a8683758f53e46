-- Close indices, and the window of a line that holds all of them.
use Rattle.std.specs.Prelude.{◌≡◌, ℕ, ◌+◌, ◌*◌, ◌<◌, ◌≤◌, min, cond, ◌&&◌, ◌↔◌, pos, ◌-ℤ◌, Some, None, Option, nat_le}
use Rattle.grid.specs.Residue.{residue}
use Rattle.curves.specs.Meaning.{Meaning}
use Rattle.curves.specs.declared.line.Line.{Line}
use Rattle.curves.specs.declared.window.Window.{Window}

-- the index k is close for the threshold D
abbrev pub Close : Meaning → (D k : ℕ) → Type 0
Close m D k = m.value k < D

-- the window of the line l for the threshold D: the offset (b + e) mod M and the threshold D + 2e, cut at M
abbrev pub window_of : (M : ℕ) → Line → (D : ℕ) → Window
window_of M l D = record { offset = residue M (pos (l.offset + l.error)); threshold = min (D + 2 * l.error) M }

-- how far the window's offset lies above the j-th point of the line
abbrev pub window_distance : (M : ℕ) → Line → Window → (j : ℕ) → ℕ
window_distance M l w j = residue M (pos w.offset -ℤ pos (j * l.slope))

-- the line's numbers and the window's are within their limits
pub record WithinLimits (m : Meaning) (n : ℕ) (l : Line) (w : Window) : Type 0 where
  pub reach_low : 1 ≤ l.reach
  pub reach_high : l.reach ≤ n
  pub slope_below : l.slope < m.modulus
  pub offset_below : w.offset < m.modulus
  pub threshold_within : w.threshold ≤ m.modulus

-- a number below M is below D + 2e exactly when it is below the window's threshold
abbrev pub CutLosesNothing : Meaning → (D : ℕ) → Line → Window → Type 0
CutLosesNothing m D l w = (x : ℕ) → x < m.modulus → (x < D + 2 * l.error) ↔ (x < w.threshold)

-- every close index s + j of the line's reach is a candidate of the window
abbrev pub CloseAreCandidates : Meaning → (s D : ℕ) → Line → Window → Type 0
CloseAreCandidates m s D l w =
    (j : ℕ) → j < l.reach → Close m D (s + j) → window_distance m.modulus l w j < w.threshold

-- where the line is without error, the window's distances are the values
abbrev pub DistancesAreValues : Meaning → (s : ℕ) → Line → Window → Type 0
DistancesAreValues m s l w =
    l.error ≡ 0 → (j : ℕ) → j < l.reach → window_distance m.modulus l w j ≡ m.value (s + j)

-- what is said of an answer where there is one
abbrev pub WhereAnswered : Option (Line × Window) → (Line → Window → Type 0) → Type 0
WhereAnswered (Some p) P = P p.0 p.1
WhereAnswered None P = Unit {0}

-- the line from s for n points with its window: none where there is no line
abbrev pub line_window_of : Meaning → (s n D : ℕ) → Option (Line × Window)
line_window_of m s n D =
    cond (nat_le 1 n && nat_le (s + n) m.count) (Some (m.line s n, window_of m.modulus (m.line s n) D)) None
