use Rattle.std.proofs.Common.{rules}
use Rattle.reports.specs.Listing.{sum_line}
use Rattle.reports.proofs.summary.SummaryDisplay.fmt.Goals as goal

pub returns-in-Some-clause-writes : goal.returns-in-Some-clause-writes
unfolding sum_line
returns-in-Some-clause-writes g c = search rules

pub returns-in-None-clause-writes : goal.returns-in-None-clause-writes
unfolding sum_line
returns-in-None-clause-writes g c = search rules
