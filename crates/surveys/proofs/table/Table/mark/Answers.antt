use Rattle.std.proofs.Common.{refl}
use Rattle.surveys.specs.Tables.{book_in, states_of}
use Rattle.surveys.proofs.Lying.{lies_settled_by, lies_settled_still}
use Rattle.surveys.proofs.Marked.{one_is_set}
use Rattle.surveys.proofs.table.Table.mark.Goals as goal

pub invariant_of-self : goal.invariant_of-self
invariant_of-self c =
    let t = c.args.self.now in
    let b = c.args.block in
    let n = t.block_length in
    let lies = lies_settled_by n _ _ (book_in t) (book_in t) (one_is_set t b c.args.state) refl
    (lies_settled_still n (states_of t) b c.args.state (book_in t) c.requires.not_settled t.booked_lie_settled) in
    record { some_length = t.some_length; few_blocks = t.few_blocks; few_booked = t.few_booked; book_rises = t.book_rises; booked_lie_settled = lies }

pub returns-clause-moves_the_block : goal.returns-clause-moves_the_block
returns-clause-moves_the_block c = one_is_set c.args.self.now c.args.block c.args.state
