use Rattle.std.proofs.Common.{rules, sym, ◌∙◌, ap, Err}
use Rattle.std.proofs.lemmas.Result.{err_from_is_err_and}
use Rattle.reports.specs.Books.{held}
use Rattle.reports.proofs.Gathered.{value_there, next_is_within, one_more_entered, too_many_found, all_found}
use Rattle.reports.proofs.points.gather.Goals as goal

pub unwrap-value-requires : goal.unwrap-value-requires
unwrap-value-requires g c =
    let below = next_is_within (g.C.Curve.meaning c.args.curve.now) c.args.threshold (held c.loop-index.book) _ c.loop-index.invariant.0 c.in-Some.index _ c.in-Some.ensures.steps in
    search (rules, below)

pub loop-index-preserved : goal.loop-index-preserved
loop-index-preserved g c =
    let m = g.C.Curve.meaning c.args.curve.now in
    let all = c.loop-index.invariant.0 in
    let first = c.in-Some.ensures.steps in
    let below = next_is_within m c.args.threshold (held c.loop-index.book) _ all c.in-Some.index _ first in
    let value = value_there m c.in-Some.index c.unwrap-value.result below (sym c.unwrap-value.ensures ∙ c.value.ensures.is_the_value_below_the_count) in (
      one_more_entered m c.args.threshold (held c.loop-index.book) _ all c.in-Some.index c.unwrap-value.result _ (held c.push.new.self) first value
          c.in_ok-push.ensures.enters_the_point_or_is_full,
      c.push.ensures.keeps_the_threshold ∙ c.loop-index.invariant.1,
    )

pub returns-in_err-push-clause-holds_the_close_points : goal.returns-in_err-push-clause-holds_the_close_points
returns-in_err-push-clause-holds_the_close_points g c =
    let q = err_from_is_err_and c.from_residual.result c.from_residual.ensures.1 in
    let e = c.in_err-push.ensures.enters_the_point_or_is_full in
    let t = too_many_found (g.C.Curve.meaning c.args.curve.now) c.args.threshold (held c.loop-index.book) _ c.loop-index.invariant.0 c.in-Some.index _ c.in-Some.ensures.steps e.1 in
    rw (q.1, q.2) (ap Err e.0 ∙ sym t)

pub returns-clause-holds_the_close_points : goal.returns-clause-holds_the_close_points
returns-clause-holds_the_close_points g c =
    all_found (g.C.Curve.meaning c.args.curve.now) c.args.threshold (held c.loop-index.book) _ c.loop-index.invariant.0 c.in-None.ensures.steps.0 c.loop-index.book.few
