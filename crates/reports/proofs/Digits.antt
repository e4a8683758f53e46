-- Numbers of a bounded number of digits.
use Rattle.std.proofs.Common.{ℕ, ◌^◌, ◌≤◌, lit<}
use native.Mathlib.Nat.{pow-le-pow_right}

pub more_digits_more : (i j : ℕ) → i ≤ j → 10 ^ i ≤ 10 ^ j
more_digits_more i j h = pow-le-pow_right (lit< tt) h
