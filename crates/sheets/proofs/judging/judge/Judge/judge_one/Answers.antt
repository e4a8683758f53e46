use Rattle.std.proofs.Common.{◌≤◌, Some, Ok, Err, sym, ap, ◌∙◌, subst, arith}
use Rattle.records.specs.Reading.{says}
use Rattle.sheets.specs.Blocks.{stop_of}
use Rattle.sheets.specs.Inner.{Turned}
use Rattle.sheets.specs.Tests.{going}
use Rattle.sheets.specs.declared.turn.Turn.{Turn}
use Rattle.sheets.proofs.Reading.{read}
use Rattle.sheets.proofs.Turning.{one_record, turned_by}
use Rattle.sheets.proofs.judging.judge.Judge.judge_one.Goals as goal

pub returns-in-Some : goal.returns-in-Some
returns-in-Some g c =
    let j = c.args.self.now in
    let p = c.args.progress in
    let e = c.record_at-due.ensures in
    let r = read _ j.sheet.now p.at c.record_at-due.result c.map_err.result c.in_ok-record.record c.in_ok-record.end
    c.map_err.ensures.cases c.map_err.ensures.variant c.in_ok-record.was e.is_the_record_due e.the_body_is_the_sheets in
    record {
      leaves_the_judgement_to_the_rest = λ turns.
          one_record (g.C.Curve.meaning j.curve.now) j.assignment j.sheet.now p.at turns (going p.next p.records)
          (says c.in_ok-record.record) c.in_ok-record.end (Some c.in-Some.fault)
          r.due_is c.in-Some.ensures.is_its_first_fault
          ∙ ap Err (sym c.faulty.ensures.is_that_fault_there);
    }

pub returns-in-None : goal.returns-in-None
returns-in-None g c =
    let j = c.args.self.now in
    let p = c.args.progress in
    let m = g.C.Curve.meaning j.curve.now in
    let e = c.record_at-due.ensures in
    let r = read _ j.sheet.now p.at c.record_at-due.result c.map_err.result c.in_ok-record.record c.in_ok-record.end
    c.map_err.ensures.cases c.map_err.ensures.variant c.in_ok-record.was e.is_the_record_due e.the_body_is_the_sheets in
    let below : p.next ≤ stop_of m j.assignment = omega (arith, j.stop_is_the_blocks) in
    let P : Turn → Type 0 = λ t. Turned m j.assignment j.sheet.now p.at p.next p.records (Ok t) in
    record {
      leaves_the_judgement_to_the_rest =
          subst P (sym c.turn_of.ensures.is_the_turn_of_the_entry)
          (turned_by m j.assignment j.sheet.now p.at p.next p.records c.in_ok-record.end (says c.in_ok-record.record)
          r.due_is c.in-None.ensures.is_its_first_fault below r.later r.within);
    }
