use Rattle.std.proofs.Common.{refl}
use Rattle.std.specs.Fmt.{digits}
use Rattle.reports.specs.Listing.{head_line, point_line, sum_line, refused_line}
use Rattle.reports.proofs.samples.samples_hold.Goals as goal

pub returns : goal.returns
unfolding digits head_line point_line sum_line refused_line
returns c = record { samples_are_printed_so = (refl, refl, refl, refl, refl, refl, refl) }
