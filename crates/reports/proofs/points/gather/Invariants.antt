use Rattle.std.proofs.Common.{◌≡◌, ◌++◌, map}
use Rattle.curves.specs.Closes.{close_between}
use Rattle.reports.specs.Books.{held, threshold_in}
use Rattle.reports.specs.Close.{hit_at}
use Rattle.reports.proofs.points.gather.Given as goal

-- what was entered and what is still to come are all
abbrev pub invariant-loop-index : goal.invariant-loop-index
invariant-loop-index g l =
    let m = g.C.Curve.meaning l.fn.curve in
    let i = l.index-iterator in
    (held l.book ++ map (hit_at m) (close_between (g.C.Curve.meaning i.curve.now) i.threshold i.next i.end) ≡ map (hit_at m) (close_between m l.fn.threshold 0 m.count))
    × (threshold_in l.book ≡ l.fn.threshold)
