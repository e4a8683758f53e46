use Rattle.std.proofs.Common.{Continue}
use Rattle.search.specs.Walk.{WalksAlong, points_left, spot}
use Rattle.search.proofs.stretch.walk.Walk.to_the_end.Given as goal

abbrev pub invariant-loop-s : goal.invariant-loop-s
invariant-loop-s g l = WalksAlong l.self.stretch (spot g.A.Arithmetic.units l.s)

abbrev pub decreases-loop-s : goal.decreases-loop-s
decreases-loop-s g l = points_left l.self.stretch.points (Continue l.s)
