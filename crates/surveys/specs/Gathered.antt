-- How the close indices of a block are gathered and entered. Only inner functions cite this file.
use Rattle.std.specs.Prelude.{◌≡◌, ℕ, ◌<◌, ◌≤◌, true, false, List, length, take, Ok, Err, Result}
use denote.Ref.{Bor}
use Rattle.curves.specs.Meaning.{Meaning}
use Rattle.surveys.specs.Books.{put_in}
use Rattle.surveys.specs.Keeper.{ledger_of}
use Rattle.surveys.specs.Ledger.{close_in, has_room, with_state}
use Rattle.surveys.specs.Tables.{book_in}
use Rattle.surveys.specs.declared.refusal.no_room.NoRoom.{NoRoom}
use Rattle.surveys.specs.declared.state.State.TheVariants.{Settled}
use Rattle.surveys.specs.declared.table.Table.{Table}
use Rattle.surveys.specs.declared.ticket.Ticket.{Ticket}

-- the indices stand in the first places, or they are more than 512
abbrev pub Gathered : List ℕ → List ℕ → Result ℕ NoRoom → Type 0
Gathered indices places (Ok count) = (count ≤ 512) × (take count places ≡ indices)
Gathered indices places (Err none) = 512 < length indices

-- so many of the first places, or there are fewer than so many
abbrev pub FirstOf : List ℕ → (count : ℕ) → Result (Bor (List ℕ)) NoRoom → Type 0
FirstOf places count (Ok first) = (count ≤ length places) × (first.now ≡ take count places)
FirstOf places count (Err none) = length places < count

-- the close indices of the block b are entered and the block is settled, where there is room; else nothing changes
abbrev pub Entered : Meaning → (t : Table) (b : ℕ) (u : Table) → Result (Unit {0}) NoRoom → Type 0
Entered m t b u (Ok done) =
    (has_room m (ledger_of t) (length (book_in t)) b ≡ true) × (ledger_of u ≡ with_state (ledger_of t) b Settled) ×
    (book_in u ≡ put_in t.block_length b (close_in m (ledger_of t) b) (book_in t))
Entered m t b u (Err none) = (has_room m (ledger_of t) (length (book_in t)) b ≡ false) × (u ≡ t)

-- what was done for a ticket, with the ticket handed back where it was refused
abbrev pub returning : {E : Type 0} → Ticket → Result (Unit {0}) E → Result (Unit {0}) (E × Ticket)
returning t (Ok done) = Ok done
returning t (Err refusal) = Err (refusal, t)
