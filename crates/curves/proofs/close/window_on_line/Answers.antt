use Rattle.std.proofs.Common.{ap, ◌∙◌}
use Rattle.curves.specs.Windows.{window_of}
use Rattle.curves.proofs.WindowLaws.{window_answered}
use Rattle.curves.proofs.close.window_on_line.Goals as goal

pub returns : goal.returns
returns g c =
    let l = c.in_ok-line in
    let a = window_answered (g.C.Curve.meaning c.args.curve.now) c.args.place c.args.length c.args.threshold l.line c.over.result
    (g.met.C.Curve.facts c.args.curve.now) l.ensures.is_the_line_of_a_stretch_within
    (c.over.ensures.is_the_window_of_the_line
    ∙ ap (λ M. window_of M l.line c.args.threshold) c.modulus.ensures.is_the_modulus) in
    record {
      is_the_line_and_its_window = a.is;
      numbers_within_their_limits = a.limits;
      the_cut_loses_nothing = a.cut;
      close_indices_are_candidates = a.candidates;
      without_error_distances_are_values = a.values;
    }
