use Rattle.std.proofs.Common.{sym, arith}
use Rattle.search.proofs.Answered.{zero_is, close_is}
use Rattle.search.proofs.stretch.walk.Walk.least_close.Goals as goal

pub returns-then-self : goal.returns-then-self
returns-then-self g c =
    let t = c.args.self.now.stretch in
    record { the_answer = sym (zero_is _ _ _ _ _ t.offset_below t.points_within.0 c.if-self.true) }

pub returns-in-Break : goal.returns-in-Break
returns-in-Break g c =
    record { the_answer = sym (close_is _ _ _ _ _ _ _ _ (omega (arith, c.args.self.now.stretch.modulus.within)) c.in-Break.ensures.hits_or_ends) }
