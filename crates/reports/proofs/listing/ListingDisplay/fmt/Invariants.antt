use Rattle.std.proofs.Common.{◌++◌, length, take}
use Rattle.std.specs.Fmt.{HasWritten, IsPlainFormatter}
use Rattle.std.specs.List.{flat_map}
use Rattle.reports.specs.Books.{threshold_in}
use Rattle.reports.specs.Listing.{head_line, point_line}
use Rattle.reports.proofs.listing.ListingDisplay.fmt.Given as goal

abbrev pub invariant-loop-hit : goal.invariant-loop-hit
invariant-loop-hit g l =
    IsPlainFormatter l.fn.f
    → HasWritten g.W.Write.write_str_gives l.fn.f
    (head_line l.self.number (length l.hits) ++ flat_map (point_line (threshold_in l.self.book.now)) (take l.hit-index l.hits)) l.f
