use Rattle.std.proofs.Common.{◌≡◌, ◌++◌, ◌∷◌, [], ap, sym, ◌∙◌, arith, rules}
use Rattle.std.specs.Option.{option_map}
use Rattle.reports.specs.Lines.{padded}
use Rattle.reports.proofs.Values.{one_number_on, set_where_free, left_where_full, all_read}
use Rattle.reports.proofs.reader.read_values.Goals as goal
use Rattle.reports.proofs.reader.read_values.Goals.{then-i, else-i}

pub loop-i-preserved : goal.loop-i-preserved
loop-i-preserved c =
    let sf = c.loop-i.invariant in
    let v = c.in_ok-value.value in
    let kept : c.if-i.values ≡ padded 32 (sf.ns ++ v ∷ []) =
    elim c.if-i.branch [
      | then-i w ↦ w.values-is ∙ set_where_free c.loop-i.i sf v w.if-i.true
      | else-i w ↦ w.values-is ∙ left_where_full sf v w.if-i.false
    ] in
    one_number_on sf v _ _ (ap (option_map (λ n. (n, c.number.new.self))) (sym c.in_ok-value.was) ∙ c.number.ensures.is_the_number_with_the_rest) kept

pub returns : goal.returns
returns c =
    let e : c.loop-i.i ≡ c.args.count = omega arith in
    let f = all_read c.args.count c.loop-i.i c.loop-i.invariant e in
    search rules
