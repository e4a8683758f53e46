use Rattle.std.proofs.Common.{◌≡◌, ℕ, ◌+◌, ◌<◌, ℤ, pos, ◌+ℤ◌, ◌∙◌, arith}
use Rattle.std.proofs.lemmas.Int.{ints}
use Rattle.grid.specs.Residue.{residue}
use Rattle.curves.specs.Residues.{residue_alike, alike_residues}
use Rattle.curves.proofs.bowed.values.sum_of.Goals as goal

sum_of_residues : (M n p q : ℕ) (y z : ℤ) → 0 < M → p ≡ residue M y → q ≡ residue M z →
    residue M (pos (n + p + q)) ≡ residue M ((pos n +ℤ y) +ℤ z)
sum_of_residues M n p q y z h e f =
    let a = residue_alike M y h in
    let b = residue_alike M z h in
    alike_residues M (pos (n + p + q)) ((pos n +ℤ y) +ℤ z) h
    (record { i = a.i + b.i; j = a.j + b.j; is = omega (arith, ints, a.is, b.is) })

pub returns : goal.returns
returns c =
    record {
      of_all_with_the_residues = λ y z e f.
          c.residue.ensures.is_the_residue
          ∙ sum_of_residues c.args.modulus.value c.args.c0 c.args.p c.args.q y z (omega arith) e f;
    }
