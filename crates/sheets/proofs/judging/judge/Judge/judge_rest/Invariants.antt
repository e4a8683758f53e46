use Rattle.std.proofs.Common.{◌-◌, length}
use Rattle.sheets.specs.Inner.{UnderWay}
use Rattle.sheets.proofs.judging.judge.Judge.judge_rest.Given as goal

abbrev pub invariant-loop-end : goal.invariant-loop-end
invariant-loop-end g l =
    UnderWay (g.C.Curve.meaning l.self.curve.now) l.self.assignment l.self.sheet.now l.from l.progress.at l.progress.next l.progress.records l.count
    l.initial.places l.places

abbrev pub decreases-loop-end : goal.decreases-loop-end
decreases-loop-end g l = length l.self.sheet.now - l.progress.at
