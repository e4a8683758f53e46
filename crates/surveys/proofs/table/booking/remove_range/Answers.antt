use Rattle.std.proofs.Common.{arith, rules}
use Rattle.std.proofs.lemmas.List.{same_lists, places}
use Rattle.surveys.proofs.table.booking.remove_range.Goals as goal

pub returns : goal.returns
returns c = record { the_others_stand_together = same_lists _ _ (search (rules, places)) (λ k d h. grind (arith, places)) }
