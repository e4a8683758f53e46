-- What inner functions of the judge say of its judgement. Only they cite this file.
use Rattle.std.specs.Prelude.{◌≡◌, ℕ, suc, ◌+◌, ◌<◌, ◌≤◌, cond, not, List, [], ◌∷◌, length, Some, None, Ok, Err, Option, Result, ◌==◌}
use Rattle.curves.specs.Meaning.{Meaning}
use Rattle.records.specs.Entries.{Entry, head, clean, hit, miss, end}
use Rattle.records.specs.declared.clean.CleanStretch.{CleanStretch}
use Rattle.records.specs.declared.point.Point.{Point}
use Rattle.sheets.specs.Blocks.{start_of, stop_of}
use Rattle.sheets.specs.Clean.{reaches, vouched}
use Rattle.sheets.specs.Tests.{opening, going, points_of, is_elsewhere}
use Rattle.sheets.specs.Verdict.{Judgement, judged_from, laid, with_hit}
use Rattle.sheets.specs.declared.assignment.Assignment.{Assignment}
use Rattle.sheets.specs.declared.fault.Fault.{Fault}
use Rattle.sheets.specs.declared.fault.Fault.TheVariants.{Place, Reach, Numbers, Value}
use Rattle.sheets.specs.declared.refusal.SheetRefusal.{SheetRefusal}
use Rattle.sheets.specs.declared.turn.Turn.{Turn}
use Rattle.sheets.specs.declared.turn.Turn.TheVariants.{Over, Hit, On}

-- the first fault of a clean record where the index k is next and the block ends at t
abbrev pub clean_fault : Meaning → (D k t : ℕ) → CleanStretch → Option Fault
clean_fault m D k t c =
    cond (is_elsewhere k t c.from c.points) (Some Place)
    (cond (not (reaches m c.from c.points)) (Some Reach)
    (cond (not (vouched m D c.from c.points c.evidence)) (Some Numbers) None))

-- the first fault of a hit or a miss in its place and its value
abbrev pub point_fault : Meaning → (k t : ℕ) → Point → Option Fault
point_fault m k t p =
    cond (is_elsewhere k t p.index 1) (Some Place) (cond (not (p.value == m.value p.index)) (Some Value) None)

-- the judgement of what stands behind a head that ends at a byte
abbrev pub judged_behind : Meaning → Assignment → List ℕ → (byte : ℕ) → Judgement
judged_behind m a s byte = judged_from (length s) m a s byte (going (start_of m a) 0)

-- a head without a fault leaves the judgement to what stands behind it
abbrev pub Opened : Meaning → Assignment → List ℕ → Result ℕ SheetRefusal → Type 0
Opened m a s (Ok byte) =
    (judged_from (length s + 1) m a s 0 opening ≡ judged_behind m a s byte) × (1 ≤ byte) × (byte ≤ length s)
Opened m a s (Err refusal) = judged_from (length s + 1) m a s 0 opening ≡ Err refusal

-- what an entry without a fault brings, where the index k is next and the entry ends at a byte
abbrev pub turn_of : Entry → (k behind : ℕ) → Turn
turn_of (head h) k behind = On behind (k + points_of (head h))
turn_of (clean c) k behind = On behind (k + points_of (clean c))
turn_of (hit p) k behind = Hit behind
turn_of (miss p) k behind = On behind (k + points_of (miss p))
turn_of (end n) k behind = Over

-- reading goes on at a later byte of the sheet, with an index up to the end of the block
pub record GoesOn (m : Meaning) (a : Assignment) (s : List ℕ) (at end next : ℕ) : Type 0 where
  pub later : at + 8 ≤ end
  pub within : end ≤ length s
  pub below : next ≤ stop_of m a

-- the judgement from `at` on, where the index k is next behind `records` records, after one turn
abbrev pub Turned : (m : Meaning) (a : Assignment) (s : List ℕ) (at k records : ℕ) → Result Turn SheetRefusal → Type 0
Turned m a s at k records (Ok Over) = (turns : ℕ) → judged_from (suc turns) m a s at (going k records) ≡ Ok []
Turned m a s at k records (Ok (Hit behind)) =
    GoesOn m a s at behind (k + 1) ×
    ((turns : ℕ) → judged_from (suc turns) m a s at (going k records) ≡ with_hit k (judged_from turns m a s behind (going (k + 1) (records + 1))))
Turned m a s at k records (Ok (On behind next)) =
    GoesOn m a s at behind next ×
    ((turns : ℕ) → judged_from (suc turns) m a s at (going k records) ≡ judged_from turns m a s behind (going next (records + 1)))
Turned m a s at k records (Err refusal) = (turns : ℕ) → judged_from (suc turns) m a s at (going k records) ≡ Err refusal

-- what an answer tells of a judgement, with the places before and after it
abbrev pub Told : Judgement → List ℕ → List ℕ → Result ℕ SheetRefusal → Type 0
Told j before after (Ok count) = (hits : List ℕ) × (j ≡ Ok hits) × (count ≡ length hits) × (after ≡ laid hits before)
Told j before after (Err refusal) = j ≡ Err refusal

-- the hits so far before those of a judgement
abbrev pub with_hits : List ℕ → Judgement → Judgement
with_hits [] j = j
with_hits (k ∷ ks) j = with_hit k (with_hits ks j)

-- the sheet is read up to the byte `at`, `records` records behind the head that ended at `from`; k is the next index, and the hits so far
-- are laid into the places
pub record UnderWay (m : Meaning) (a : Assignment) (s : List ℕ) (from at k records count : ℕ) (before places : List ℕ) : Type 0 where
  pub within : at ≤ length s
  pub below : k ≤ stop_of m a
  pub few : records ≤ at
  pub fewer : count ≤ at
  pub turns : ℕ
  pub enough : length s < at + turns
  pub hits : List ℕ
  pub counts : count ≡ length hits
  pub laid_down : places ≡ laid hits before
  pub remains : judged_behind m a s from ≡ with_hits hits (judged_from turns m a s at (going k records))
