-- Numbers in bytes.
use Rattle.std.proofs.Common.{◌≡◌, ℕ, List, [], ◌∷◌, length, take, drop, ap, ◌∙◌, arith, w16}
use Rattle.std.specs.Int.{from_le_bytes}
use Rattle.records.specs.Bytes.{little, field}

of_two : (b : List ℕ) → length b ≡ 2 → from_le_bytes w16 b ≡ little b
of_two (b0 ∷ b1 ∷ []) h = omega arith
of_two [] h = absurd (omega arith)
of_two (b0 ∷ []) h = absurd (omega arith)
of_two (b0 ∷ b1 ∷ b2 ∷ b) h = absurd (omega arith)

-- the number that is read from two bytes is that of their field
pub two_read : (s b : List ℕ) (i n : ℕ) → length b ≡ 2 → b ≡ take 2 (drop i s) → n ≡ from_le_bytes w16 b → n ≡ field s i 2
two_read s b i n l is read = read ∙ of_two b l ∙ ap little is
