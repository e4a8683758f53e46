-- Congruence mod M of signed whole numbers, and what it says of their residues.
-- The proofs here serve the law of an impl, which may cite nothing of its crate but specs/.
use Rattle.std.specs.Prelude.{◌≡◌, ℕ, suc, ◌+◌, ◌*◌, ◌/◌, ◌%◌, ◌<◌, ◌≤◌, ℤ, pos, negsuc, ◌+ℤ◌}
use Rattle.std.proofs.Common.{div-add-mod', mod-lt, arith}
use Rattle.std.proofs.Math.Nat.{mod-le}
use Rattle.std.proofs.lemmas.Int.{ints}
use Rattle.grid.specs.Residue.{residue}
use Rattle.grid.proofs.Congruence.{same_below, residue_below}

-- y and z differ by a multiple of M
pub record Alike (M : ℕ) (y z : ℤ) : Type 0 where
  pub i : ℕ
  pub j : ℕ
  pub is : y +ℤ pos (i * M) ≡ z +ℤ pos (j * M)

-- a number and its residue differ by a multiple of M
pub residue_alike : (M : ℕ) (z : ℤ) → 0 < M → Alike M (pos (residue M z)) z
residue_alike M (pos n) h = record { i = n / M; j = 0; is = omega (arith, ints, div-add-mod' n M) }
residue_alike M (negsuc n) h =
    let m : n % M < M = mod-lt n h in
    record { i = 0; j = suc (n / M); is = omega (arith, ints, div-add-mod' n M) }

-- numbers that differ by a multiple of M have one residue
pub alike_residues : (M : ℕ) (y z : ℤ) → 0 < M → Alike M y z → residue M y ≡ residue M z
alike_residues M y z h a =
    let p = residue_alike M y h in
    let q = residue_alike M z h in
    same_below M (residue M y) (residue M z) (residue_below M y h) (residue_below M z h)
    (record { i = p.i + a.i + q.j; j = q.i + a.j + p.j; is = omega (arith, ints, p.is, q.is, a.is) })

-- a number below M that differs from z by a multiple of M is its residue
pub residue_is_the_alike : (M w : ℕ) (z : ℤ) → w < M → Alike M (pos w) z → residue M z ≡ w
residue_is_the_alike M w z l a =
    let h : 0 < M = omega arith in
    let p = residue_alike M z h in
    same_below M (residue M z) w (residue_below M z h) l
    (record { i = p.i + a.j; j = p.j + a.i; is = omega (arith, ints, p.is, a.is) })

-- the residue of a number that is not negative is at most the number
pub residue_at_most : (M x : ℕ) (z : ℤ) → 0 < M → Alike M z (pos x) → residue M z ≤ x
residue_at_most M x z h a = let e : residue M z ≡ x % M = alike_residues M z (pos x) h a in omega (arith, mod-le x M)
