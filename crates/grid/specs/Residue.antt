-- Whole numbers mod M.
use Rattle.std.specs.Prelude.{ℕ, ◌-◌, ◌%◌, ℤ, pos, negsuc}

-- a number mod M: 0 to M − 1, for negative numbers too (negsuc n is −1 − n)
abbrev pub residue : ℕ → ℤ → ℕ
residue M (pos n) = n % M
residue M (negsuc n) = M - 1 - n % M
