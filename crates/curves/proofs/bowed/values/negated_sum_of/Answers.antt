use Rattle.std.proofs.Common.{◌≡◌, ℕ, ◌+◌, ◌*◌, ◌<◌, ℤ, pos, ◌+ℤ◌, ◌-ℤ◌, neg_ℤ, ◌∙◌, arith}
use Rattle.std.proofs.lemmas.Int.{ints}
use Rattle.grid.specs.Residue.{residue}
use Rattle.curves.specs.Residues.{residue_alike, alike_residues}
use Rattle.curves.proofs.bowed.values.negated_sum_of.Goals as goal

negated_sum_of_residues : (M p q : ℕ) (y z : ℤ) → 0 < M → p ≡ residue M y → q ≡ residue M z →
    residue M (pos 0 -ℤ pos (1 * (p + q))) ≡ residue M (neg_ℤ (y +ℤ z))
negated_sum_of_residues M p q y z h e f =
    let a = residue_alike M y h in
    let b = residue_alike M z h in
    alike_residues M (pos 0 -ℤ pos (1 * (p + q))) (neg_ℤ (y +ℤ z)) h
    (record { i = a.j + b.j; j = a.i + b.i; is = omega (arith, ints, a.is, b.is) })

pub returns : goal.returns
returns c =
    record {
      of_all_with_the_residues = λ y z e f.
          c.residue_difference.ensures.is_the_residue
          ∙ negated_sum_of_residues c.args.modulus.value c.args.p c.args.q y z (omega arith) e f;
    }
