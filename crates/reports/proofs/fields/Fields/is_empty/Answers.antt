use Rattle.std.proofs.Common.{List, ℕ, eqb, length, ap, ◌∙◌}
use Rattle.reports.proofs.Commas.{none_left}
use Rattle.reports.proofs.fields.Fields.is_empty.Goals as goal

pub returns : goal.returns
returns c =
    record { tells_whether_none_is_left = none_left (λ t. t.now) c.self.inside.rest c.is_none.result c.is_none.ensures ∙ ap (λ (fs : List (List ℕ)). eqb (length fs) 0) c.self.view_is }
