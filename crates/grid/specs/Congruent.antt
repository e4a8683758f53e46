-- Congruence, over the natural numbers.
use Rattle.std.specs.Prelude.{◌≡◌, ℕ, ◌+◌, ◌*◌}

-- p and q differ by a multiple of M
pub record Same (M p q : ℕ) : Type 0 where
  pub i : ℕ
  pub j : ℕ
  pub is : p + i * M ≡ q + j * M
