use Rattle.std.proofs.Common.{ap, sym, ◌∙◌, arith}
use Rattle.search.proofs.Answered.{walked}
use Rattle.search.specs.Walk.{spot}
use Rattle.search.specs.declared.answer.Answer.TheVariants.{Clear}
use Rattle.search.proofs.stretch.walk.Walk.to_the_end.Goals as goal

pub returns : goal.returns
returns g c =
    record {
      hits_or_ends = walked _ _ _ _ _ (spot g.A.Arithmetic.units c.loop-s.s) (omega (arith, c.args.self.now.stretch.modulus.within)) c.loop-s.invariant c.loop-s-test.false
          ∙ ap Clear (sym c.evidence.ensures.the_numbers_of_the_place);
    }
