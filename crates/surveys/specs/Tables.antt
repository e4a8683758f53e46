-- What a table keeps.
use Rattle.std.specs.Prelude.{◌≡◌, ℕ, List, take, Option, slice_get}
use Rattle.surveys.specs.declared.state.State.{State}
use Rattle.surveys.specs.declared.table.Table.{Table}

-- the states of the blocks
abbrev pub states_of : Table → List State
states_of t = take t.blocks t.states

-- the booked indices
abbrev pub book_in : Table → List ℕ
book_in t = take t.booked t.book

-- the terms and the number of blocks stay
pub record KeepsTheTerms (t u : Table) : Type 0 where
  pub threshold : u.threshold ≡ t.threshold
  pub block_length : u.block_length ≡ t.block_length
  pub blocks : u.blocks ≡ t.blocks

-- the i-th index of a book; none beyond its end
abbrev pub index_at : List ℕ → (i : ℕ) → Option ℕ
index_at book i = slice_get book i
