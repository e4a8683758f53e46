-- The facts of a straight curve.
-- Proofs only: the law of its impl rests on them, and a law may cite nothing of its crate but specs/.
use Rattle.std.specs.Prelude.{ℕ, ◌+◌, ◌*◌, ◌^◌, ◌<◌, ◌≤◌, pos, ◌+ℤ◌, ◌-ℤ◌}
use Rattle.std.proofs.Common.{arith}
use Rattle.std.proofs.lemmas.Int.{ints}
use Rattle.grid.proofs.Congruence.{residue_below}
use Rattle.curves.specs.Meaning.{Facts}
use Rattle.curves.specs.Kinds.{straight_value, straight_meaning}
use Rattle.curves.specs.Residues.{Alike, residue_alike, residue_at_most}

-- a straight curve lies on each of its lines
on_the_line : (M a b s j : ℕ) → 0 < M →
    Alike M ((pos (straight_value M a b (s + j)) -ℤ (pos (straight_value M a b s) -ℤ pos (j * a))) +ℤ pos 0) (pos 0)
on_the_line M a b s j h =
    let p = residue_alike M (pos b -ℤ pos ((s + j) * a)) h in
    let q = residue_alike M (pos b -ℤ pos (s * a)) h in
    record { i = p.i + q.j; j = p.j + q.i; is = omega (arith, ints, p.is, q.is) }

pub straight_facts : (M N a b : ℕ) → 2 ≤ M → M ≤ 2 ^ 40 → 1 ≤ N → N ≤ 2 ^ 20 → a < M → Facts (straight_meaning M N a b)
straight_facts M N a b low high some few below =
    let h : 0 < M = omega arith in
    record {
      modulus_low = low;
      modulus_high = high;
      count_low = some;
      count_high = few;
      value_below = λ k _. residue_below M (pos b -ℤ pos (k * a)) h;
      line_facts = λ s n from to.
          record {
            reach_low = from;
            reach_high = omega arith;
            slope_below = below;
            offset_below = residue_below M (pos b -ℤ pos (s * a)) h;
            error_below = h;
            near = λ j _. residue_at_most M 0 _ h (on_the_line M a b s j h);
          };
    }
