-- What the judge answers to the bytes of a sheet.
use Rattle.std.specs.Prelude.{ℕ, zero, suc, ◌+◌, ◌-◌, ◌^◌, cond, List, [], ◌∷◌, ◌++◌, length, take, drop, Some, None, Ok, Err, Option, Result, nat_lt}
use Rattle.curves.specs.Meaning.{Meaning}
use Rattle.records.specs.Entries.{Entry, head, clean, hit, miss, end}
use Rattle.records.specs.Reading.{due}
use Rattle.records.specs.declared.fault.RecordFault.TheVariants.{Short}
use Rattle.sheets.specs.Blocks.{start_of}
use Rattle.sheets.specs.Tests.{Due, opening, going, points_of, first_fault}
use Rattle.sheets.specs.declared.assignment.Assignment.{Assignment}
use Rattle.sheets.specs.declared.fault.Fault.{Fault}
use Rattle.sheets.specs.declared.fault.Fault.TheVariants.{Record}
use Rattle.sheets.specs.declared.refusal.SheetRefusal.{SheetRefusal}
use Rattle.sheets.specs.declared.refusal.SheetRefusal.TheVariants.{TooLong, Faulty}

-- the hits of a sheet that passes, or why it does not
abbrev pub Judgement : Type 0
Judgement = Result (List ℕ) SheetRefusal

-- what is due behind an entry without a fault
abbrev pub after : Meaning → Assignment → Due → Entry → Due
after m a opening e = going (start_of m a) 0
after m a (going k count) e = going (k + points_of e) (count + 1)

-- one hit more before those of a judgement
abbrev pub with_hit : ℕ → Judgement → Judgement
with_hit k (Ok hits) = Ok (k ∷ hits)
with_hit k (Err refusal) = Err refusal

-- what an entry without a fault adds to the judgement of what is behind it: a hit its index; an end ends the sheet
abbrev pub passed_on : Entry → Judgement → Judgement
passed_on (head h) j = j
passed_on (clean c) j = j
passed_on (hit p) j = with_hit p.index j
passed_on (miss p) j = j
passed_on (end n) j = Ok []

-- the judgement at the byte `at`, where an entry and its first fault, if any, stand before what is behind it
abbrev pub judged_entry : (at : ℕ) → Option Fault → Entry → Judgement → Judgement
judged_entry at (Some fault) e j = Err (Faulty fault at)
judged_entry at None e j = passed_on e j

-- the judgement of the bytes from `at` on, where d is due, record by record; each has at least 8 bytes, so that as many turns as there are bytes are enough
abbrev pub judged_from : (turns : ℕ) → Meaning → Assignment → List ℕ → (at : ℕ) → Due → Judgement
judged_from zero m a s at d = Err (Faulty (Record Short) at)
judged_from (suc turns) m a s at d =
    elim (due s at) [
      | Ok x ↦ judged_entry at (first_fault m a d (length s - x.1) x.0) x.0 (judged_from turns m a s x.1 (after m a d x.0))
      | Err fault ↦ Err (Faulty (Record fault) at)
    ]

-- the judgement of a sheet of at most 2^22 bytes, from its head on
abbrev pub verdict : Meaning → Assignment → List ℕ → Judgement
verdict m a s = cond (nat_lt (2 ^ 22) (length s)) (Err TooLong) (judged_from (length s + 1) m a s 0 opening)

-- ---- as the judge hands it out

-- how many hits there are
abbrev pub counted : Judgement → Result ℕ SheetRefusal
counted (Ok hits) = Ok (length hits)
counted (Err refusal) = Err refusal

-- the 512 lent places: the hits from the first on, as many as there is room for, and what stood there behind them; a refusal keeps all
abbrev pub laid : List ℕ → List ℕ → List ℕ
laid hits places = take 512 hits ++ drop (length hits) places

abbrev pub lent : Judgement → List ℕ → List ℕ
lent (Ok hits) places = laid hits places
lent (Err refusal) places = places
