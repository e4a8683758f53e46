-- The facts of a listed curve.
-- Proofs only: the law of its impl rests on them, and a law may cite nothing of its crate but specs/.
use Rattle.std.proofs.Common.{◌≡◌, ℕ, ◌+◌, ◌*◌, ◌^◌, ◌<◌, ◌≤◌, List, length, get_or, pos, ◌+ℤ◌, ◌-ℤ◌, ap, mod-lt, arith}
use Rattle.std.proofs.lemmas.Int.{ints}
use Rattle.curves.specs.Meaning.{Facts}
use Rattle.curves.specs.Kinds.{listed_value, listed_meaning}
use Rattle.curves.specs.Residues.{Alike, residue_at_most}

-- a value lies on the line through itself
on_itself : (M v w j : ℕ) → v ≡ w → Alike M ((pos v -ℤ (pos w -ℤ pos (j * 0))) +ℤ pos 0) (pos 0)
on_itself M v w j e = record { i = 0; j = 0; is = omega (arith, ints) }

pub listed_facts : (M : ℕ) (entries : List ℕ) → 2 ≤ M → M ≤ 2 ^ 40 → 1 ≤ length entries → length entries ≤ 2 ^ 20 →
    Facts (listed_meaning M entries)
listed_facts M entries low high some few =
    let h : 0 < M = omega arith in
    record {
      modulus_low = low;
      modulus_high = high;
      count_low = some;
      count_high = few;
      value_below = λ k _. mod-lt (get_or entries k 0) h;
      line_facts = λ s n from to.
          record {
            reach_low = omega arith;
            reach_high = from;
            slope_below = h;
            offset_below = mod-lt (get_or entries s 0) h;
            error_below = h;
            near = λ j u.
                let e : s + j ≡ s = omega arith in
                residue_at_most M 0 _ h
                (on_itself M (listed_value M entries (s + j)) (listed_value M entries s) j (ap (λ k. listed_value M entries k) e));
          };
    }
