use Rattle.surveys.proofs.Stated.{statement}
use Rattle.surveys.proofs.survey.Survey.keeper_statement.Goals as goal

pub returns : goal.returns
returns g c =
    let s = c.args.self.now in
    record {
      every_answer_is_the_ledgers_and_the_book_is_exact =
          statement (g.C.Curve.meaning s.curve) s.number (g.met.C.Curve.facts s.curve);
    }
