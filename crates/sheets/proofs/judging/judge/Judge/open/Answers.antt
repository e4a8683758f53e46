use Rattle.std.proofs.Common.{not, sym, ap, ◌∙◌, arith}
use Rattle.records.specs.Reading.{says}
use Rattle.sheets.proofs.Reading.{read}
use Rattle.sheets.proofs.Turning.{opened_by, not_opened_by}
use Rattle.sheets.proofs.judging.judge.Judge.open.Goals as goal

pub returns-then-opens : goal.returns-then-opens
returns-then-opens g c =
    let j = c.args.self.now in
    let e = c.record_at-due.ensures in
    let r = read _ j.sheet.now 0 c.record_at-due.result c.map_err.result c.in_ok-record.record c.in_ok-record.end
    c.map_err.ensures.cases c.map_err.ensures.variant c.in_ok-record.was e.is_the_record_due e.the_body_is_the_sheets in
    record {
      leaves_the_judgement_to_the_rest =
          opened_by (g.C.Curve.meaning j.curve.now) j.assignment j.sheet.now (says c.in_ok-record.record) c.in_ok-record.end
          r.due_is (sym c.opens.ensures.is_not_another ∙ ap not c.if-opens.true)
          (omega (arith, r.later)) r.within;
    }

pub returns-else-opens : goal.returns-else-opens
returns-else-opens g c =
    let j = c.args.self.now in
    let e = c.record_at-due.ensures in
    let r = read _ j.sheet.now 0 c.record_at-due.result c.map_err.result c.in_ok-record.record c.in_ok-record.end
    c.map_err.ensures.cases c.map_err.ensures.variant c.in_ok-record.was e.is_the_record_due e.the_body_is_the_sheets in
    record {
      leaves_the_judgement_to_the_rest =
          not_opened_by (g.C.Curve.meaning j.curve.now) j.assignment j.sheet.now (says c.in_ok-record.record) c.in_ok-record.end
          c.faulty.result r.due_is
          (sym c.opens.ensures.is_not_another ∙ ap not c.if-opens.false) c.faulty.ensures.is_that_fault_there;
    }
