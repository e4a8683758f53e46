use Rattle.std.proofs.Common.{◌*◌, ap, ◌∙◌, arith}
use Rattle.surveys.specs.Books.{rises}
use Rattle.surveys.specs.Tables.{book_in, states_of}
use Rattle.surveys.specs.declared.state.State.TheVariants.{Settled}
use Rattle.surveys.proofs.Booked.{counted_are_booked, run_is_put_in}
use Rattle.surveys.proofs.Lying.{lies_settled_by, put_in_rises, put_in_lies_settled}
use Rattle.surveys.proofs.Marked.{block_is_there, one_is_set}
use Rattle.surveys.proofs.table.Table.enter.Goals as goal

pub insert_run-requires : goal.insert_run-requires
insert_run-requires c =
    let t = c.args.self.now in
    let counted = counted_are_booked t (c.args.block * t.block_length) c.count_below-at.result c.count_below-at.ensures.are_those_below in
    record { room = (counted, omega arith) }

pub invariant_of-self : goal.invariant_of-self
invariant_of-self c =
    let t = c.args.self.now in
    let b = c.args.block in
    let run = c.args.run.now in
    let n = t.block_length in
    let put = run_is_put_in t b c.count_below-at.result run c.insert_run.new.book (omega arith)
    c.count_below-at.ensures.are_those_below c.insert_run.ensures.the_run_stands_between in
    let up = ap rises put
    ∙ put_in_rises n (states_of t) b run (book_in t) c.requires.not_settled c.requires.the_run_lies_in_the_block t.booked_lie_settled
    c.requires.the_run_rises t.book_rises in
    let lies = lies_settled_by n _ _ _ _ (one_is_set t b Settled) put
    (put_in_lies_settled n (states_of t) b run (book_in t) c.requires.not_settled c.requires.the_run_lies_in_the_block
    t.booked_lie_settled (block_is_there t b (omega arith) c.requires.there)) in
    record { some_length = t.some_length; few_blocks = t.few_blocks; few_booked = omega arith; book_rises = up; booked_lie_settled = lies }

pub returns-clause-settles_the_block : goal.returns-clause-settles_the_block
returns-clause-settles_the_block c = one_is_set c.args.self.now c.args.block Settled

pub returns-clause-puts_the_run_in : goal.returns-clause-puts_the_run_in
returns-clause-puts_the_run_in c =
    run_is_put_in c.args.self.now c.args.block c.count_below-at.result c.args.run.now c.insert_run.new.book (omega arith)
    c.count_below-at.ensures.are_those_below c.insert_run.ensures.the_run_stands_between
