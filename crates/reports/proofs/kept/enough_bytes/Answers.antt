use Rattle.std.proofs.Common.{refl}
use Rattle.reports.proofs.Telling.{the_first_1025_tell}
use Rattle.reports.proofs.kept.enough_bytes.Goals as goal

pub returns : goal.returns
returns c = record { is_one_more_than_a_line_may_have = refl; tell_what_is_printed = the_first_1025_tell }
