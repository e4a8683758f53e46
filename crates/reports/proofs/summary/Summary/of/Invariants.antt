use Rattle.std.proofs.Common.{◌≡◌, ◌*◌, ◌^◌, ◌≤◌, take}
use Rattle.reports.specs.Books.{held}
use Rattle.reports.specs.Listing.{closest_of, total_of}
use Rattle.reports.proofs.summary.Summary.of.Given as goal

abbrev pub invariant-loop-hit : goal.invariant-loop-hit
invariant-loop-hit l =
    (l.sum.closest ≡ closest_of l.threshold (take l.hit-index (held l.book)))
    × (l.sum.total ≡ total_of l.threshold (take l.hit-index (held l.book)))
    × (l.sum.total ≤ l.hit-index * 2 ^ 40)
