use Rattle.std.proofs.Common.{◌≡◌, ◌+◌, Err, sym, ap, ◌∙◌, arith}
use Rattle.std.specs.Option.{ok_or}
use Rattle.std.proofs.lemmas.Result.{err_from_is_err_and}
use Rattle.records.specs.Reading.{ending_at, said, told}
use Rattle.records.specs.declared.fault.RecordFault.TheVariants.{Form}
use Rattle.records.proofs.Due.{due_read}
use Rattle.records.proofs.reading.next_record.Goals as goal

pub returns-in_err-record-clause-is_the_record_due : goal.returns-in_err-record-clause-is_the_record_due
returns-in_err-record-clause-is_the_record_due c =
    let e = c.in_err-record.ensures in
    let p = err_from_is_err_and c.from_residual.result c.from_residual.ensures.1 in
    let f : c.in_err-record.field-0.0 ≡ Form = cc (e.value ∙ ap (λ o. ok_or o Form) e.ok_part) in
    let due =
    due_read c.args.sheet.now c.args.at _ _ c.from_le_bytes-size.result c.from_le_bytes-kind.result _ (omega arith) (omega arith)
    c.array_at.ensures.as_many c.array_at.ensures.are_those_there c.from_le_bytes-size.ensures
    c.array_at-2.ensures.as_many c.array_at-2.ensures.are_those_there c.from_le_bytes-kind.ensures
    c.record_of.ensures.says_what_the_body_says in
    ap said p.1 ∙ ap Err (p.2 ∙ f)
    ∙ ap (λ o. ending_at (c.args.at + c.from_le_bytes-size.result) (told o)) (sym e.ok_part) ∙ due

pub returns-clause-is_the_record_due : goal.returns-clause-is_the_record_due
returns-clause-is_the_record_due c =
    ap (λ o. ending_at (c.args.at + c.from_le_bytes-size.result) (told o)) (sym c.in_ok-record.ensures.ok_part)
    ∙ due_read c.args.sheet.now c.args.at _ _ c.from_le_bytes-size.result c.from_le_bytes-kind.result _ (omega arith) (omega arith)
    c.array_at.ensures.as_many c.array_at.ensures.are_those_there c.from_le_bytes-size.ensures
    c.array_at-2.ensures.as_many c.array_at-2.ensures.are_those_there c.from_le_bytes-kind.ensures
    c.record_of.ensures.says_what_the_body_says
