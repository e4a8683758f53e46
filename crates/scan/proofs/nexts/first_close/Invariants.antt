use Rattle.std.proofs.Common.{◌-◌, ◌≤◌}
use Rattle.scan.specs.Passed.{NoneClose}
use Rattle.scan.proofs.nexts.first_close.Given as goal

abbrev pub invariant-loop-step : goal.invariant-loop-step
invariant-loop-step g l = (l.from ≤ l.place) × NoneClose (g.C.Curve.meaning l.curve) l.threshold l.from l.place

abbrev pub decreases-loop-step : goal.decreases-loop-step
decreases-loop-step g l = l.end - l.place
