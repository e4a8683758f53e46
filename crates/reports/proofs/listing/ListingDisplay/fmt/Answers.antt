use Rattle.std.proofs.Common.{rules}
use Rattle.reports.specs.Listing.{head_line}
use Rattle.reports.proofs.listing.ListingDisplay.fmt.Goals as goal

pub loop-hit-init : goal.loop-hit-init
unfolding head_line
loop-hit-init g c = search rules
