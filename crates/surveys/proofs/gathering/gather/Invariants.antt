use Rattle.std.proofs.Common.{◌≡◌, ◌≤◌, ◌++◌, length, take}
use Rattle.curves.specs.Closes.{close_between}
use Rattle.surveys.proofs.gathering.gather.Given as goal

-- what the first places hold and what is still to come are all
abbrev pub invariant-loop-index : goal.invariant-loop-index
invariant-loop-index g l =
    let i = l.index-iterator in
    (l.count ≤ 512) × (length l.places ≡ 512) ×
    (take l.count l.places ++ close_between (g.C.Curve.meaning i.curve.now) i.threshold i.next i.end
    ≡ close_between (g.C.Curve.meaning l.fn.curve) l.fn.threshold l.fn.from l.fn.to)
