-- What follows for every sheet.
use Rattle.std.specs.Prelude.{◌≡◌, ℕ, ◌+◌, ◌-◌, ◌<◌, ◌≤◌, Bool, true, false, ◌↔◌, List, length, drop, Some, None, Ok, Err, Option}
use Rattle.search.specs.declared.evidence.Evidence.{Evidence}
use Rattle.curves.specs.Closes.{close_between}
use Rattle.curves.specs.Meaning.{Meaning}
use Rattle.records.specs.Bytes.{Bytes}
use Rattle.records.specs.Entries.{Entry, size_of, CleanFits}
use Rattle.records.specs.Reading.{is_short, entry_at_front}
use Rattle.records.specs.declared.fault.RecordFault.TheVariants.{Short, Form}
use Rattle.sheets.specs.Blocks.{start_of, stop_of}
use Rattle.sheets.specs.Clean.{clean_passes}
use Rattle.sheets.specs.Faults.{fault_number}
use Rattle.sheets.specs.Rules.{InOrder, KeepsTheRules}
use Rattle.sheets.specs.Tests.{Due, fits_entry}
use Rattle.sheets.specs.Verdict.{verdict}
use Rattle.sheets.specs.declared.assignment.Assignment.{Assignment}
use Rattle.sheets.specs.declared.fault.Fault.{Fault}
use Rattle.sheets.specs.declared.fault.Fault.TheVariants.{Record, Head, Place, Reach, Numbers, Value, Closeness, End}
use Rattle.sheets.specs.declared.refusal.SheetRefusal.TheVariants.{Faulty}

-- ---- the hits of a sheet that passes are exactly the close indices of its block, rising

abbrev pub HitsAreTheCloseIndices : Meaning → Assignment → Type 0
HitsAreTheCloseIndices m a =
    (s hits : List ℕ) → verdict m a s ≡ Ok hits → hits ≡ close_between m a.threshold (start_of m a) (stop_of m a)

-- ---- over a stretch that the line covers without error, some clean record passes exactly when none of its points is close

-- the record of these numbers passes, and they fit their fields
pub record Passing (m : Meaning) (D s n : ℕ) (e : Evidence) : Type 0 where
  pub passes : clean_passes m D s n e ≡ true
  pub fits : CleanFits (record { from = s; points = n; evidence = e })

abbrev pub CleanRecordsPassExactlyWhereNoneIsClose : Meaning → Type 0
CleanRecordsPassExactlyWhereNoneIsClose m =
    (D s n : ℕ) → 1 ≤ n → s + n ≤ m.count → (m.line s n).reach ≡ n → (m.line s n).error ≡ 0 →
    ((e : Evidence) × Passing m D s n e) ↔ ((j : ℕ) → j < n → D ≤ m.value (s + j))

-- ---- a sheet passes exactly when it keeps the rules

abbrev pub PassesExactlyWhenTheRulesAreKept : Meaning → Assignment → Type 0
PassesExactlyWhenTheRulesAreKept m a = (s hits : List ℕ) → Bytes s → (verdict m a s ≡ Ok hits) ↔ KeepsTheRules m a s hits

-- ---- a fault is the least that fits where it is found, and all before it is in order

-- whether a fault fits the entry at the front of the bytes t, if there is one, where d is due
abbrev pub fits_some : Meaning → Assignment → Due → (t : List ℕ) → Option Entry → Fault → Bool
fits_some m a d t (Some e) fault = fits_entry m a d (length t - size_of e) e fault
fits_some m a d t None fault = false

-- the entry is unknown by its kind and length
abbrev pub is_unknown : Option Entry → Bool
is_unknown (Some e) = false
is_unknown None = true

-- whether a fault fits at the front of the bytes t, where d is due
abbrev pub fits_at : Meaning → Assignment → Due → (t : List ℕ) → Fault → Bool
fits_at m a d t (Record Short) = is_short t
fits_at m a d t (Record Form) = is_unknown (entry_at_front t)
fits_at m a d t Head = fits_some m a d t (entry_at_front t) Head
fits_at m a d t Place = fits_some m a d t (entry_at_front t) Place
fits_at m a d t Reach = fits_some m a d t (entry_at_front t) Reach
fits_at m a d t Numbers = fits_some m a d t (entry_at_front t) Numbers
fits_at m a d t Value = fits_some m a d t (entry_at_front t) Value
fits_at m a d t Closeness = fits_some m a d t (entry_at_front t) Closeness
fits_at m a d t End = fits_some m a d t (entry_at_front t) End

pub record LeastFault (m : Meaning) (a : Assignment) (s : List ℕ) (fault : Fault) (p : ℕ) : Type 0 where
  pub due : Due
  pub before : InOrder m a s p due
  pub fits : fits_at m a due (drop p s) fault ≡ true
  pub none_less : (other : Fault) → fault_number other < fault_number fault → fits_at m a due (drop p s) other ≡ false

abbrev pub AFaultIsTheLeastWhereAllBeforeIsInOrder : Meaning → Assignment → Type 0
AFaultIsTheLeastWhereAllBeforeIsInOrder m a =
    (s : List ℕ) (fault : Fault) (p : ℕ) → Bytes s → verdict m a s ≡ Err (Faulty fault p) → LeastFault m a s fault p
