use Rattle.std.proofs.Common.{rules, ◌*◌, ◌%◌, pos, ◌≡◌, ◌<ℤ◌, ◌≤ℤ◌, unsigned_abs, sym, ap, ◌∙◌, arith}
use Rattle.std.proofs.lemmas.Nat.{mul-mod_first}
use Rattle.grid.specs.Residue.{residue}
use Rattle.grid.proofs.Congruence.{negative_times, positive_times}
use Rattle.grid.proofs.modulus.Modulus.with_the_sign.Goals as goal

pub returns-then-c-lt0-clause-of_all_with_the_residue : goal.returns-then-c-lt0-clause-of_all_with_the_residue
returns-then-c-lt0-clause-of_all_with_the_residue c k e =
    let m = c.args.self.value in
    let below : c.args.c <ℤ pos 0 = search rules in
    let zero_left : 0 ≡ 0 % m = omega arith in
    c.difference.ensures.of_all_with_the_residues 0 (unsigned_abs c.args.c * k) zero_left
    (e ∙ mul-mod_first (unsigned_abs c.args.c) k m)
    ∙ ap (residue m) (negative_times c.args.c k below)

pub returns-else-c-lt0-clause-of_all_with_the_residue : goal.returns-else-c-lt0-clause-of_all_with_the_residue
returns-else-c-lt0-clause-of_all_with_the_residue c k e =
    let m = c.args.self.value in
    let above : pos 0 ≤ℤ c.args.c = search rules in
    e ∙ mul-mod_first (unsigned_abs c.args.c) k m ∙ sym (positive_times m c.args.c k above)
