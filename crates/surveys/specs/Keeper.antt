-- What each call does to a survey, the histories of a survey, and the keeper's statement about all of them.
use Rattle.std.specs.Prelude.{◌≡◌, ℕ, ◌+◌, ◌<◌, ◌≤◌, ◌⊎◌, List, [], ◌∷◌, length, Some}
use Rattle.curves.specs.Meaning.{Meaning}
use Rattle.curves.specs.Windows.{Close}
use Rattle.sheets.specs.Blocks.{start_of, stop_of}
use Rattle.sheets.specs.Laws.{CleanRecordsPassExactlyWhereNoneIsClose}
use Rattle.surveys.specs.Ledger.{Ledger, Call, Answer, accepted, handed, refused, returned, terms, issue, give_back, work, settle, recall}
use Rattle.surveys.specs.Ledger.{start, judge, step, state_at, asked, book_after}
use Rattle.surveys.specs.States.{outs}
use Rattle.surveys.specs.Tables.{book_in, states_of}
use Rattle.surveys.specs.declared.state.State.TheVariants.{Settled}
use Rattle.surveys.specs.declared.table.Table.{Table}

-- a survey as its keeper sees it: what its curve means, its number and its table
pub record View : Type 0 where
  pub meaning : Meaning
  pub number : ℕ
  pub table : Table

-- the part of a table that the ledger has too
abbrev pub ledger_of : Table → Ledger
ledger_of t = record { threshold = t.threshold; block_length = t.block_length; states = states_of t }

-- a survey that was just put together
pub record Fresh (v : View) : Type 0 where
  pub ledger : ledger_of v.table ≡ start v.meaning
  pub book : book_in v.table ≡ []

abbrev pub Refuses : Answer → Type 0
Refuses accepted = ⊥
Refuses (handed t) = ⊥
Refuses (refused number) = Unit {0}
Refuses (returned number byte t) = Unit {0}

-- what a call does to any survey: from v with the answer a to w. The rule is the ledger's, with the survey's own number of booked indices
pub record Stepped (v : View) (c : Call) (a : Answer) (w : View) : Type 0 where
  pub meaning : w.meaning ≡ v.meaning
  pub number : w.number ≡ v.number
  pub answer : a ≡ (judge v.meaning v.number (ledger_of v.table) (length (book_in v.table)) c).answer
  pub ledger : ledger_of w.table ≡ (judge v.meaning v.number (ledger_of v.table) (length (book_in v.table)) c).next
  pub book : book_in w.table ≡ book_after v.meaning (ledger_of v.table) (book_in v.table) c a
  pub refusal_keeps_all : Refuses a → w ≡ v

-- ---- histories

pub record Entry : Type 0 where
  pub call : Call
  pub answer : Answer

-- a history of a survey since it was put together, the newest call first, and the survey that it leads to
pub data Run : List Entry → View → Type 0 where
  put_together : {v : View} → Fresh v → Run [] v
  then : {h : List Entry} {v w : View} {c : Call} {a : Answer} → Run h v → Stepped v c a w → Run (record { call = c; answer = a } ∷ h) w

-- the ledger, fed with the calls of a history
abbrev pub ledger_after : Meaning → (number : ℕ) → List Entry → Ledger
ledger_after m number [] = start m
ledger_after m number (e ∷ h) = (step m number (ledger_after m number h) e.call).next

-- every answer of a history is the ledger's
abbrev pub AllAnswered : Meaning → (number : ℕ) → List Entry → Type 0
AllAnswered m number [] = Unit {0}
AllAnswered m number (e ∷ h) = (e.answer ≡ (step m number (ledger_after m number h) e.call).answer) × AllAnswered m number h

-- ---- the book is exact

-- k is a close index of a block that the ledger has as settled
pub record Due (m : Meaning) (l : Ledger) (k : ℕ) : Type 0 where
  pub block : ℕ
  pub settled : state_at l.states block ≡ Some Settled
  pub from : start_of m (asked 0 l block) ≤ k
  pub below : k < stop_of m (asked 0 l block)
  pub close : Close m l.threshold k

abbrev pub Among : ℕ → List ℕ → Type 0
Among k [] = ⊥
Among k (j ∷ js) = (k ≡ j) ⊎ Among k js

abbrev pub Above : ℕ → List ℕ → Type 0
Above k [] = Unit {0}
Above k (j ∷ js) = (k < j) × Above k js

abbrev pub Rising : List ℕ → Type 0
Rising [] = Unit {0}
Rising (k ∷ ks) = Above k ks × Rising ks

-- a book names exactly the close indices of the settled blocks, rising, so each once
pub record Exact (m : Meaning) (l : Ledger) (book : List ℕ) : Type 0 where
  pub rising : Rising book
  pub due : (k : ℕ) → Among k book → Due m l k
  pub named : (k : ℕ) → Due m l k → Among k book

-- ---- tickets

-- 1 where a ticket was handed out
abbrev pub handed_out : Answer → ℕ
handed_out accepted = 0
handed_out (handed t) = 1
handed_out (refused number) = 0
handed_out (returned number byte t) = 0

abbrev pub one_accepted : Answer → ℕ
one_accepted accepted = 1
one_accepted (handed t) = 0
one_accepted (refused number) = 0
one_accepted (returned number byte t) = 0

-- 1 where a ticket was taken back: at each accepted give back, work or settle
abbrev pub taken : Call → Answer → ℕ
taken (terms D n) a = 0
taken (issue b) a = 0
taken (give_back t) a = one_accepted a
taken (work t largest) a = one_accepted a
taken (settle t sheet) a = one_accepted a
taken (recall b) a = 0

abbrev pub issued : List Entry → ℕ
issued [] = 0
issued (e ∷ h) = handed_out e.answer + issued h

abbrev pub taken_back : List Entry → ℕ
taken_back [] = 0
taken_back (e ∷ h) = taken e.call e.answer + taken_back h

-- ---- the statement

-- what the keeper can say of a survey that a history led to
pub record Kept (m : Meaning) (number : ℕ) (h : List Entry) (t : Table) : Type 0 where
  pub every_answer_is_the_ledgers : AllAnswered m number h
  pub terms_and_states_are_the_ledgers : ledger_of t ≡ ledger_after m number h
  pub the_book_is_exact : Exact m (ledger_after m number h) (book_in t)
  pub issued_are_taken_back_or_out : issued h ≡ taken_back h + outs (ledger_after m number h).states

-- of a survey over a curve of this meaning and with this number: clean records tell, and every history keeps the ledger, at every moment
pub record Statement (m : Meaning) (number : ℕ) : Type 0 where
  pub clean_records_pass_exactly_where_none_is_close : CleanRecordsPassExactlyWhereNoneIsClose m
  pub every_history_is_kept : (h : List Entry) (v : View) → v.meaning ≡ m → v.number ≡ number → Run h v → Kept m number h v.table
