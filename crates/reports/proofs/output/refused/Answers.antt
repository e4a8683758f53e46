use Rattle.std.proofs.Common.{rules}
use Rattle.reports.specs.Listing.{refused_line}
use Rattle.reports.proofs.output.refused.Goals as goal

pub returns : goal.returns
unfolding refused_line
returns c = search rules
