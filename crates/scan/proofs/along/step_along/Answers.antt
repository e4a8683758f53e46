use Rattle.scan.proofs.Stepped.{Told, step_told}
use Rattle.scan.proofs.along.step_along.Goals as goal

-- what the laws of windows say of the step
told : (g : _) (c : goal.After-tell g) →
    Told (g.C.Curve.meaning c.args.curve.now) c.args.threshold c.args.place c.args.end c.tell.result
told g c =
    let e = c.in_ok-line.ensures in
    step_told (g.C.Curve.meaning c.args.curve.now) c.args.threshold c.args.place c.args.end
    c.saturating_sub.result c.modulus.result.value c.in_ok-line.line c.in_ok-line.window c.search_reach-answer.result c.tell.result
    c.saturating_sub.ensures c.modulus.ensures.is_the_modulus
    (record {
      is = e.is_the_line_and_its_window;
      limits = e.numbers_within_their_limits;
      cut = e.the_cut_loses_nothing;
      candidates = e.close_indices_are_candidates;
      values = e.without_error_distances_are_values;
    })
    c.search_reach-answer.ensures.is_the_answer_for_the_reach c.tell.ensures.is_the_answer_told

pub returns-clause-passes_over_no_close_index : goal.returns-clause-passes_over_no_close_index
returns-clause-passes_over_no_close_index g c = (told g c).passed

pub returns-clause-without_error_a_candidate_is_close : goal.returns-clause-without_error_a_candidate_is_close
returns-clause-without_error_a_candidate_is_close g c = (told g c).candidate
