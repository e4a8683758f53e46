-- Blocks: a survey cuts the indices of its curve into blocks of one length, in order; the last may be shorter.
use Rattle.std.specs.Prelude.{ℕ, ◌+◌, ◌*◌, min}
use Rattle.curves.specs.Meaning.{Meaning}
use Rattle.sheets.specs.declared.assignment.Assignment.{Assignment}

-- the first index of a block, and the one behind its last; both are cut at the count, so that a block beyond the last has no indices
abbrev pub start_of : Meaning → Assignment → ℕ
start_of m a = min (a.block * a.block_length) m.count

abbrev pub stop_of : Meaning → Assignment → ℕ
stop_of m a = min (a.block * a.block_length + a.block_length) m.count
