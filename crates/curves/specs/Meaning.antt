-- What a curve means, the facts that every curve shows, and what its questions answer.
use Rattle.std.specs.Prelude.{ℕ, ◌+◌, ◌*◌, ◌^◌, ◌<◌, ◌≤◌, cond, ◌&&◌, pos, ◌+ℤ◌, ◌-ℤ◌, Some, None, Option, nat_le, nat_lt}
use Rattle.grid.specs.Residue.{residue}
use Rattle.curves.specs.declared.line.Line.{Line}

-- the modulus M, the count N, the value F(k) of each index k below N, and the line from a place s for n points
pub record Meaning : Type 0 where
  pub modulus : ℕ
  pub count : ℕ
  pub value : ℕ → ℕ
  pub line : ℕ → ℕ → Line

-- a line l from the place s for n points: its numbers are within their limits, and each value of its reach lies within the
-- error e of the line: (F(s + j) − (b − j·a) + e) mod M is at most 2e
pub record LineFacts (m : Meaning) (s n : ℕ) (l : Line) : Type 0 where
  pub reach_low : 1 ≤ l.reach
  pub reach_high : l.reach ≤ n
  pub slope_below : l.slope < m.modulus
  pub offset_below : l.offset < m.modulus
  pub error_below : l.error < m.modulus
  pub near : (j : ℕ) → j < l.reach →
      residue m.modulus ((pos (m.value (s + j)) -ℤ (pos l.offset -ℤ pos (j * l.slope))) +ℤ pos l.error) ≤ 2 * l.error

pub record Facts (m : Meaning) : Type 0 where
  pub modulus_low : 2 ≤ m.modulus
  pub modulus_high : m.modulus ≤ 2 ^ 40
  pub count_low : 1 ≤ m.count
  pub count_high : m.count ≤ 2 ^ 20
  pub value_below : (k : ℕ) → k < m.count → m.value k < m.modulus
  pub line_facts : (s n : ℕ) → 1 ≤ n → s + n ≤ m.count → LineFacts m s n (m.line s n)

-- the answer to the question for a value: none where k is N or more
abbrev pub value_of : Meaning → ℕ → Option ℕ
value_of m k = cond (nat_lt k m.count) (Some (m.value k)) None

-- the answer to the question for a line: none where n is 0 or s + n is above N
abbrev pub line_of : Meaning → (s n : ℕ) → Option Line
line_of m s n = cond (nat_le 1 n && nat_le (s + n) m.count) (Some (m.line s n)) None
