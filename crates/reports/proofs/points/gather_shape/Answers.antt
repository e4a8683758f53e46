use Rattle.std.proofs.Common.{sym, ap, ◌∙◌, subst, w64, SFits, rules}
use Rattle.std.proofs.lemmas.Int.{to_z-of_z}
use Rattle.curves.specs.Makers.{straight_curve, bowed_curve, StraightMade, BowedMade}
use Rattle.reports.specs.Close.{unshifted}
use Rattle.reports.proofs.Gathered.{same_points}
use Rattle.reports.proofs.points.gather_shape.Goals as goal

pub returns-in-Straight-clause-holds_the_close_points : goal.returns-in-Straight-clause-holds_the_close_points
returns-in-Straight-clause-holds_the_close_points c =
    let o = c.args.order in
    let e = c.new-in-Straight.ensures in
    let m = subst (StraightMade o.modulus o.count c.in-Straight.slope c.in-Straight.offset) c.unwrap-curve.ensures c.new.ensures.made_of_these_numbers_or_refused_in_order in
    c.gather.ensures.holds_the_close_points
    ∙ same_points o (straight_curve c.new-in-Straight.result.below) c.new-in-Straight.result.t c.threshold-threshold.result
    (ap straight_curve e.over_this_curve ∙ m.1 ∙ ap (unshifted o.modulus o.count o.half_width) (sym c.in-Straight.is))
    (e.by_this_number ∙ c.shift-shift.ensures.is_the_shift) c.threshold-threshold.ensures.is_the_threshold

pub returns-in-Bowed-clause-holds_the_close_points : goal.returns-in-Bowed-clause-holds_the_close_points
returns-in-Bowed-clause-holds_the_close_points c =
    let o = c.args.order in
    let b = c.in-Bowed in
    let e = c.new-in-Bowed-2.ensures in
    let f : SFits w64 b.c1 = search rules in
    let g : SFits w64 b.c2 = search rules in
    let r : BowedMade o.modulus o.count b.c0 b.c1 b.c2 o.half_width c.new-in-Bowed.result =
    simp to_z-of_z at c.new-in-Bowed.ensures.made_of_these_numbers_or_refused_in_order in
    let m = subst (BowedMade o.modulus o.count b.c0 b.c1 b.c2 o.half_width) c.unwrap-curve-in-Bowed.ensures r in
    c.gather-in-Bowed.ensures.holds_the_close_points
    ∙ same_points o (bowed_curve c.new-in-Bowed-2.result.below) c.new-in-Bowed-2.result.t c.threshold-threshold.result
    (ap bowed_curve e.over_this_curve ∙ m.1 ∙ ap (unshifted o.modulus o.count o.half_width) (sym b.is))
    (e.by_this_number ∙ c.shift-shift.ensures.is_the_shift) c.threshold-threshold.ensures.is_the_threshold
