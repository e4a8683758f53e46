use Rattle.std.proofs.Common.{rules, length, refl, sym, ap, ◌∙◌, arith}
use Rattle.surveys.specs.Keeper.{ledger_of}
use Rattle.surveys.specs.Ledger.{close_in}
use Rattle.surveys.specs.declared.act.Act.TheVariants.{Settle}
use Rattle.surveys.specs.Tables.{book_in}
use Rattle.surveys.proofs.Found.{no_room_there}
use Rattle.surveys.proofs.Judged.{judged_is_laid_out}
use Rattle.surveys.proofs.Led.{settle_is_no_recall, ticket_is_ready}
use Rattle.surveys.proofs.survey.Survey.book_hits.Goals as goal

-- the hits are the block's close indices, and stand in the places
pub enter_run-requires : goal.enter_run-requires
enter_run-requires g c =
    let s = c.args.self.now in
    let r = ticket_is_ready s.number s.table c.args.ticket.now c.block-block.result Settle c.in_ok-ok_or.field-0 settle_is_no_recall
    (sym c.in_ok-ok_or.ensures.ok_part ∙ c.after.ensures.is_where_the_act_leads) c.block-block.ensures.is_the_block in
    let j = c.in_ok-hits.ensures in
    let laid = judged_is_laid_out (g.C.Curve.meaning s.curve) s.number (ledger_of s.table) c.block-block.result c.asked.result
    c.args.sheet.now c.judge.new.hits _ c.in_ok-hits.hits c.asked.ensures.is_this_block_on_these_terms
    j.is_the_verdict j.lays_the_hits_or_keeps_the_places j.hits_are_the_close_indices_of_the_block in
    let first = c.in_ok-first_of.ensures.are_the_first_or_they_are_too_few in
    record {
      there = r.0;
      not_settled = r.1;
      the_close_indices = first.1 ∙ laid.stand (omega (arith, first.0, c.judge.array_long));
    }

pub returns-in_err-first_of-clause-does_as_the_ledger_says : goal.returns-in_err-first_of-clause-does_as_the_ledger_says
returns-in_err-first_of-clause-does_as_the_ledger_says g c =
    let s = c.args.self.now in
    let j = c.in_ok-hits.ensures in
    let laid = judged_is_laid_out (g.C.Curve.meaning s.curve) s.number (ledger_of s.table) c.block-block.result c.asked.result
    c.args.sheet.now c.judge.new.hits _ c.in_ok-hits.hits c.asked.ensures.is_this_block_on_these_terms
    j.is_the_verdict j.lays_the_hits_or_keeps_the_places j.hits_are_the_close_indices_of_the_block in
    let m = g.C.Curve.meaning s.curve in
    let l = ledger_of s.table in
    let b = c.args.ticket.now.block in
    let here = ap (λ k. length (close_in m l k)) c.block-block.ensures.is_the_block in
    let full = no_room_there m l b (close_in m l b) refl (length (book_in s.table))
    (omega (arith, laid.counts, here, c.in_err-first_of.ensures.are_the_first_or_they_are_too_few, c.judge.array_long)) in
    search (rules, full)
