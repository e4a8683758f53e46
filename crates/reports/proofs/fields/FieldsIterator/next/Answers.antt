use Rattle.std.proofs.Common.{ℕ, ◌+◌, List, ◌∷◌, take, Option, Bor, sym, ap, ◌∙◌, rules, arith}
use Rattle.std.proofs.lemmas.List.{take_rest}
use Rattle.std.specs.Option.{option_map}
use Rattle.reports.proofs.Commas.{cut_there, one_field}
use Rattle.reports.specs.Lines.{fields}
use Rattle.reports.specs.Rest.{fields_after}
use Rattle.reports.proofs.fields.FieldsIterator.next.Goals as goal

pub returns-in-Some-clause-steps : goal.returns-in-Some-clause-steps
returns-in-Some-clause-steps c =
    let s = c.in_ok-text.text.now in
    let i = c.in-Some.place in
    sym c.self.view_is
    ∙ ap (λ (r : Option (Bor (List ℕ))). fields_after (option_map (λ x. x.now) r)) c.in_ok-text.was
    ∙ cut_there s i (sym c.in-Some.is ∙ c.comma.ensures.is_the_first_place)
    ∙ ap (λ (t : List ℕ). take i s ∷ fields t) (sym (take_rest s (i + 1)))

pub returns-in-Some-clause-goes : goal.returns-in-Some-clause-goes
returns-in-Some-clause-goes c =
    let e = returns-in-Some-clause-steps c in
    search (rules, arith)

pub returns-in-None-clause-steps : goal.returns-in-None-clause-steps
returns-in-None-clause-steps c =
    sym c.self.view_is
    ∙ ap (λ (r : Option (Bor (List ℕ))). fields_after (option_map (λ x. x.now) r)) c.in_ok-text.was
    ∙ one_field c.in_ok-text.text.now (sym c.in-None.is ∙ c.comma.ensures.is_the_first_place)

pub returns-in-None-clause-goes : goal.returns-in-None-clause-goes
returns-in-None-clause-goes c =
    let e = returns-in-None-clause-steps c in
    search (rules, arith)
