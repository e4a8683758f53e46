use Rattle.std.proofs.Common.{◌+◌, ◌%◌, ap, ◌∙◌}
use native.Mathlib.Nat.{add-mod-mod}
use Rattle.curves.proofs.shifted.Shifted.raised.Goals as goal

pub returns : goal.returns
returns g c =
    record {
      gains_the_shift = c.residue-2.ensures.is_the_residue
          ∙ ap (λ p. (c.args.value + p) % c.modulus-modulus.result.value) c.residue.ensures.is_the_residue
          ∙ add-mod-mod _ _ _
          ∙ ap (λ M. (c.args.value + c.args.self.now.t) % M) c.modulus-modulus.ensures.is_the_modulus;
    }
