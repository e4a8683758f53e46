use Rattle.std.proofs.Common.{◌+◌, ◌*◌, ap, ◌∙◌, arith}
use Rattle.surveys.specs.Books.{rises}
use Rattle.surveys.specs.Tables.{book_in, states_of}
use Rattle.surveys.specs.declared.state.State.TheVariants.{Waiting}
use Rattle.surveys.proofs.Booked.{counted_are_booked, counted_in_order, block_is_taken_out}
use Rattle.surveys.proofs.Lying.{lies_settled_by, taken_out_rises, taken_out_lies_settled}
use Rattle.surveys.proofs.Marked.{one_is_set}
use Rattle.surveys.proofs.table.Table.take_out.Goals as goal

pub remove_range-requires : goal.remove_range-requires
remove_range-requires c =
    let t = c.args.self.now in
    let f = c.count_below-from in
    let g = c.count_below-to in
    record {
      within = (
        counted_in_order t c.args.block f.result g.result f.ensures.are_those_below g.ensures.are_those_below,
        (
          counted_are_booked t (c.args.block * t.block_length + t.block_length) g.result g.ensures.are_those_below,
          omega arith,
        ),
      );
    }

pub overflow_sub-self : goal.overflow_sub-self
overflow_sub-self c =
    let f = c.count_below-from in
    let g = c.count_below-to in
    counted_in_order c.args.self.now c.args.block f.result g.result f.ensures.are_those_below g.ensures.are_those_below

pub overflow_cast-self-3 : goal.overflow_cast-self-3
overflow_cast-self-3 c =
    let t = c.args.self.now in
    let g = c.count_below-to in
    omega (arith, counted_are_booked t (c.args.block * t.block_length + t.block_length) g.result g.ensures.are_those_below)

pub overflow_sub-self-2 : goal.overflow_sub-self-2
overflow_sub-self-2 c =
    let t = c.args.self.now in
    let g = c.count_below-to in
    omega (arith, counted_are_booked t (c.args.block * t.block_length + t.block_length) g.result g.ensures.are_those_below)

pub invariant_of-self : goal.invariant_of-self
invariant_of-self c =
    let t = c.args.self.now in
    let b = c.args.block in
    let n = t.block_length in
    let out = block_is_taken_out t b c.count_below-from.result c.count_below-to.result c.remove_range.new.book
    c.count_below-from.ensures.are_those_below c.count_below-to.ensures.are_those_below
    c.remove_range.ensures.the_others_stand_together in
    let up = ap rises out ∙ taken_out_rises n b (book_in t) t.book_rises in
    let lies = lies_settled_by n _ _ _ _ (one_is_set t b Waiting) out
    (taken_out_lies_settled n (states_of t) b Waiting (book_in t) t.some_length t.booked_lie_settled) in
    record { some_length = t.some_length; few_blocks = t.few_blocks; few_booked = omega arith; book_rises = up; booked_lie_settled = lies }

pub returns-clause-lets_the_block_wait : goal.returns-clause-lets_the_block_wait
returns-clause-lets_the_block_wait c = one_is_set c.args.self.now c.args.block Waiting

pub returns-clause-takes_its_indices_out : goal.returns-clause-takes_its_indices_out
returns-clause-takes_its_indices_out c =
    block_is_taken_out c.args.self.now c.args.block c.count_below-from.result c.count_below-to.result c.remove_range.new.book
    c.count_below-from.ensures.are_those_below c.count_below-to.ensures.are_those_below
    c.remove_range.ensures.the_others_stand_together
