use Rattle.std.proofs.Common.{rules}
use Rattle.std.proofs.lemmas.Int.{to_z-of_z}
use Rattle.reports.specs.Listing.{point_line}
use Rattle.reports.proofs.point.PointDisplay.fmt.Goals as goal

pub returns-clause-writes : goal.returns-clause-writes
unfolding point_line
returns-clause-writes g c = search (rules, to_z-of_z)
