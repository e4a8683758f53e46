-- The record that is due at a place of a sheet.
use Rattle.std.specs.Prelude.{◌≡◌, ℕ, ◌+◌, ◌-◌, ◌≤◌, Bool, cond, ◌&&◌, ◌||◌, List, ◌++◌, length, take, drop, Some, None, Ok, Err, Option, Result, ◌==◌, nat_lt}
use Rattle.records.specs.Bytes.{Bytes, field}
use Rattle.records.specs.Entries.{Entry, head, clean, hit, miss, end, heading_in, clean_in, point_in, encode, size_of, FitsItsFields}
use Rattle.records.specs.declared.fault.RecordFault.{RecordFault}
use Rattle.records.specs.declared.fault.RecordFault.TheVariants.{Short, Form}
use Rattle.records.specs.declared.record.Record.{Record}
use Rattle.records.specs.declared.record.Record.TheVariants.{Head, Clean, Hit, Miss, End}

-- fewer than four bytes, or fewer than the stated length
abbrev pub is_short : List ℕ → Bool
is_short t = nat_lt (length t) 4 || nat_lt (length t) (field t 0 2)

-- what a body says, by the number of its kind and the length of the whole record: none where the kind is unknown or has another length
abbrev pub entry_of : (kind size : ℕ) → List ℕ → Option Entry
entry_of kind size body =
    cond (kind == 1 && size == 28) (Some (head (heading_in body)))
    (cond (kind == 2 && size == 40) (Some (clean (clean_in body)))
    (cond (kind == 3 && size == 16) (Some (hit (point_in body)))
    (cond (kind == 4 && size == 16) (Some (miss (point_in body)))
    (cond (kind == 5 && size == 8) (Some (end (field body 0 4))) None))))

-- what the record at the front of the bytes t says
abbrev pub entry_at_front : List ℕ → Option Entry
entry_at_front t = entry_of (field t 2 2) (field t 0 2) (take (field t 0 2 - 4) (drop 4 t))

abbrev pub ending_at : ℕ → Option Entry → Result (Entry × ℕ) RecordFault
ending_at at (Some e) = Ok (e, at)
ending_at at None = Err Form

-- the record due at the byte `at`: what it says, and the byte behind it
abbrev pub due : List ℕ → (at : ℕ) → Result (Entry × ℕ) RecordFault
due s at =
    let t = drop at s in
    cond (is_short t) (Err Short) (ending_at (at + field t 0 2) (entry_at_front t))

-- ---- of a record as the code has it

-- its body, a part of the sheet
abbrev pub body_in : Record → List ℕ
body_in (Head b) = b.now
body_in (Clean b) = b.now
body_in (Hit b) = b.now
body_in (Miss b) = b.now
body_in (End b) = b.now

-- what it says
abbrev pub says : Record → Entry
says (Head b) = head (heading_in b.now)
says (Clean b) = clean (clean_in b.now)
says (Hit b) = hit (point_in b.now)
says (Miss b) = miss (point_in b.now)
says (End b) = end (field b.now 0 4)

abbrev pub told : Option Record → Option Entry
told (Some r) = Some (says r)
told None = None

abbrev pub said : Result (Record × ℕ) RecordFault → Result (Entry × ℕ) RecordFault
said (Ok x) = Ok (says x.0, x.1)
said (Err fault) = Err fault

-- where there is a record of a length, it is at least 8 and the body is these bytes
abbrev pub HasTheBody : (size : ℕ) → List ℕ → Option Record → Type 0
HasTheBody size b (Some r) = (8 ≤ size) × (body_in r ≡ b)
HasTheBody size b None = Unit {0}

-- the body is the sheet's bytes from 4 after the record's start to its end
abbrev pub BodyIsTheSheets : List ℕ → (at : ℕ) → Result (Record × ℕ) RecordFault → Type 0
BodyIsTheSheets s at (Ok x) =
    (at + 8 ≤ x.1) × (x.1 ≤ length s) × (body_in x.0 ≡ take (x.1 - (at + 4)) (drop (at + 4) s))
BodyIsTheSheets s at (Err fault) = Unit {0}

-- ---- laws

-- where the bytes from `at` on begin with those of an entry whose numbers fit their fields, that entry is due
abbrev pub WhatIsEncodedIsRead : Type 0
WhatIsEncodedIsRead =
    (s t : List ℕ) (at : ℕ) (e : Entry) → FitsItsFields e → drop at s ≡ encode e ++ t → due s at ≡ Ok (e, at + size_of e)

-- what is read at a byte is encoded there, and nothing else
pub record Encoded (s : List ℕ) (at : ℕ) (e : Entry) (behind : ℕ) : Type 0 where
  pub stands : drop at s ≡ encode e ++ drop behind s
  pub ends : behind ≡ at + size_of e
  pub fits : FitsItsFields e

abbrev pub WhatIsReadIsEncoded : Type 0
WhatIsReadIsEncoded =
    (s : List ℕ) (at : ℕ) (e : Entry) (behind : ℕ) → Bytes s → due s at ≡ Ok (e, behind) → Encoded s at e behind
