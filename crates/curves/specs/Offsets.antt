-- How far a value lies from the middle of the window below the threshold.
use Rattle.std.specs.Prelude.{ℕ, ◌/◌, cond, ℤ, pos, ◌-ℤ◌, Some, None, Option, nat_lt, unsigned_abs}
use Rattle.curves.specs.Meaning.{Meaning}

-- the offset of a value v for the threshold D: v − ⌊D/2⌋, which may be negative
abbrev pub value_offset : (D v : ℕ) → ℤ
value_offset D v = pos v -ℤ pos (D / 2)

-- its size
abbrev pub value_size : (D v : ℕ) → ℕ
value_size D v = unsigned_abs (value_offset D v)

-- the offset of the index k for the threshold D: F(k) − ⌊D/2⌋
abbrev pub signed_offset : Meaning → (D k : ℕ) → ℤ
signed_offset m D k = value_offset D (m.value k)

-- the answer to the question for an offset: none where k is N or more
abbrev pub offset_answer : Meaning → (D k : ℕ) → Option ℤ
offset_answer m D k = cond (nat_lt k m.count) (Some (signed_offset m D k)) None
