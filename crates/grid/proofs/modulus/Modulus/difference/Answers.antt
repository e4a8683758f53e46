use Rattle.std.proofs.Common.{sym, arith}
use Rattle.grid.proofs.Congruence.{residue_at_residues}
use Rattle.grid.proofs.modulus.Modulus.difference.Goals as goal

pub returns-then-q-p-clause-of_all_with_the_residues : goal.returns-then-q-p-clause-of_all_with_the_residues
returns-then-q-p-clause-of_all_with_the_residues c s t e f =
    sym (residue_at_residues c.args.self.value s t _ (omega arith) (record { i = 0; j = 0; is = omega arith }))

pub returns-else-q-p-clause-of_all_with_the_residues : goal.returns-else-q-p-clause-of_all_with_the_residues
returns-else-q-p-clause-of_all_with_the_residues c s t e f =
    sym (residue_at_residues c.args.self.value s t _ (omega arith) (record { i = 0; j = 1; is = omega arith }))
