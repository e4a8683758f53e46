-- The keeper's ledger. It is fed the curve's meaning, the survey number and each call's arguments, and nothing else; it holds the terms and the
-- states of the blocks, and says what each call answers.
use Rattle.std.specs.Prelude.{ℕ, ◌+◌, ◌-◌, ◌/◌, Bool, cond, ◌&&◌, List, [], ◌∷◌, ◌++◌, length, replicate, Some, None, Ok, Err, Option, ◌==◌, nat_le, slice_set, slice_get}
use Rattle.curves.specs.Closes.{close_between}
use Rattle.curves.specs.Meaning.{Meaning}
use Rattle.sheets.specs.Blocks.{start_of, stop_of}
use Rattle.sheets.specs.Faults.{byte_of, number_of}
use Rattle.sheets.specs.Verdict.{Judgement, verdict}
use Rattle.sheets.specs.declared.assignment.Assignment.{Assignment}
use Rattle.surveys.specs.Books.{put_in, taken_out}
use Rattle.surveys.specs.States.{all_waiting, is_settled, moved}
use Rattle.surveys.specs.declared.act.Act.{Act}
use Rattle.surveys.specs.declared.act.Act.TheVariants.{Issue, GiveBack, Work, Settle, Recall}
use Rattle.surveys.specs.declared.state.State.{State}
use Rattle.surveys.specs.declared.state.State.TheVariants.{Waiting}
use Rattle.surveys.specs.declared.ticket.Ticket.{Ticket}

pub record Ledger : Type 0 where
  pub threshold : ℕ
  pub block_length : ℕ
  pub states : List State

-- the calls with their arguments; a work call has the largest modulus that its arithmetic carries, a settle call the bytes of the sheet
pub data Call : Type 0 where
  terms : (D n : ℕ) → Call
  issue : (b : ℕ) → Call
  give_back : Ticket → Call
  work : Ticket → (largest : ℕ) → Call
  settle : Ticket → (sheet : List ℕ) → Call
  recall : (b : ℕ) → Call

-- accepted, accepted with a ticket, refused with a number, or refused with a number, the byte of a record if any, and the ticket back
pub data Answer : Type 0 where
  accepted : Answer
  handed : Ticket → Answer
  refused : (number : ℕ) → Answer
  returned : (number : ℕ) → Option ℕ → Ticket → Answer

pub record Outcome : Type 0 where
  pub answer : Answer
  pub next : Ledger

-- how many blocks of the length n there are: N / n, rounded up
abbrev pub blocks_of : Meaning → (n : ℕ) → ℕ
blocks_of m n = (m.count + (n - 1)) / n

-- at the start D is 0, the block length 4,096, and every block waits
abbrev pub start : Meaning → Ledger
start m = record { threshold = 0; block_length = 4096; states = replicate (blocks_of m 4096) Waiting }

-- the state of a block; none where there is no such block
abbrev pub state_at : List State → (b : ℕ) → Option State
state_at states b = slice_get states b

-- the state that a call leads a block to; none where the call is refused there
abbrev pub led : Act → Option State → Option State
led act (Some s) = moved s act
led act None = None

abbrev pub moved_at : Ledger → Act → (b : ℕ) → Option State
moved_at l act b = led act (state_at l.states b)

-- the same for the block of a ticket, which must be of this survey number
abbrev pub moved_by : (number : ℕ) → Ledger → Act → Ticket → Option State
moved_by number l act t = cond (t.survey == number) (moved_at l act t.block) None

-- the block b as a sheet is asked for it
abbrev pub asked : (number : ℕ) → Ledger → (b : ℕ) → Assignment
asked number l b = record { survey = number; block = b; block_length = l.block_length; threshold = l.threshold }

-- the close indices of the block b
abbrev pub close_in : Meaning → Ledger → (b : ℕ) → List ℕ
close_in m l b = close_between m l.threshold (start_of m (asked 0 l b)) (stop_of m (asked 0 l b))

-- the close indices of the settled blocks among these, of which the first is block b
abbrev pub book_from : Meaning → Ledger → (b : ℕ) → List State → List ℕ
book_from m l b [] = []
book_from m l b (s ∷ ss) = cond (is_settled s) (close_in m l b) [] ++ book_from m l (b + 1) ss

-- the close indices of all settled blocks
abbrev pub book_of : Meaning → Ledger → List ℕ
book_of m l = book_from m l 0 l.states

-- ---- what is answered

abbrev pub with_state : Ledger → (b : ℕ) → State → Ledger
with_state l b s = record { threshold = l.threshold; block_length = l.block_length; states = slice_set l.states b s }

-- a refusal changes nothing
abbrev pub sent_back : Ledger → Answer → Outcome
sent_back l a = record { answer = a; next = l }

-- acceptance with an answer where the block moves, else a refusal
abbrev pub moves : Ledger → (b : ℕ) → Option State → (granted denied : Answer) → Outcome
moves l b (Some s) granted denied = record { answer = granted; next = with_state l b s }
moves l b None granted denied = sent_back l denied

-- the book has room for the block's close indices beside those that are booked
abbrev pub has_room : Meaning → Ledger → (booked b : ℕ) → Bool
has_room m l booked b = nat_le (booked + length (close_in m l b)) 512

-- a block that moves is entered where the book has room, else it is 12
abbrev pub enters : Meaning → Ledger → (booked : ℕ) → Ticket → Option State → Outcome
enters m l booked t (Some s) =
    cond (has_room m l booked t.block) (record { answer = accepted; next = with_state l t.block s }) (sent_back l (returned 12 None t))
enters m l booked t None = sent_back l (returned 11 None t)

-- the same behind a sheet that has to pass
abbrev pub passes_first : Ledger → Ticket → Judgement → Outcome → Outcome
passes_first l t (Ok hits) o = o
passes_first l t (Err refusal) o = sent_back l (returned (number_of refusal) (byte_of refusal) t)

abbrev pub settles : Meaning → Ledger → (booked : ℕ) → Ticket → Judgement → Option State → Outcome
settles m l booked t j (Some s) = passes_first l t j (enters m l booked t (Some s))
settles m l booked t j None = sent_back l (returned 11 None t)

-- a block length from 1 to 65,536 that makes at most 256 blocks
abbrev pub length_fits : Meaning → (n : ℕ) → Bool
length_fits m n = nat_le 1 n && (nat_le n 65536 && nat_le (blocks_of m n) 256)

abbrev pub new_terms : Meaning → (D n : ℕ) → Ledger
new_terms m D n = record { threshold = D; block_length = n; states = replicate (blocks_of m n) Waiting }

-- what is answered to a call where so many indices are booked, and what the ledger holds then
abbrev pub judge : Meaning → (number : ℕ) → Ledger → (booked : ℕ) → Call → Outcome
judge m number l booked (terms D n) =
    cond (all_waiting l.states)
    (cond (nat_le D m.modulus)
    (cond (length_fits m n) (record { answer = accepted; next = new_terms m D n }) (sent_back l (refused 5)))
    (sent_back l (refused 3)))
    (sent_back l (refused 6))
judge m number l booked (issue b) = moves l b (moved_at l Issue b) (handed (record { survey = number; block = b })) (refused 10)
judge m number l booked (give_back t) = moves l t.block (moved_by number l GiveBack t) accepted (returned 11 None t)
judge m number l booked (work t largest) = enters m l booked t (moved_by number l Work t)
judge m number l booked (settle t sheet) =
    settles m l booked t (verdict m (asked number l t.block) sheet) (moved_by number l Settle t)
judge m number l booked (recall b) = moves l b (moved_at l Recall b) accepted (refused 14)

-- the ledger's own answer: what is booked are the close indices of its settled blocks
abbrev pub step : Meaning → (number : ℕ) → Ledger → Call → Outcome
step m number l c = judge m number l (length (book_of m l)) c

-- ---- the book beside it

-- a book after a call that was accepted
abbrev pub booked_by : Meaning → Ledger → List ℕ → Call → List ℕ
booked_by m l book (terms D n) = []
booked_by m l book (issue b) = book
booked_by m l book (give_back t) = book
booked_by m l book (work t largest) = put_in l.block_length t.block (close_in m l t.block) book
booked_by m l book (settle t sheet) = put_in l.block_length t.block (close_in m l t.block) book
booked_by m l book (recall b) = taken_out l.block_length b book

-- a book after a call with this answer: a refusal changes nothing
abbrev pub book_after : Meaning → Ledger → List ℕ → Call → Answer → List ℕ
book_after m l book c accepted = booked_by m l book c
book_after m l book c (handed t) = booked_by m l book c
book_after m l book c (refused number) = book
book_after m l book c (returned number byte t) = book
