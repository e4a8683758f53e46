-- What is so where a judgement passes.
use Rattle.std.proofs.Common.{◌≡◌, ℕ, suc, ◌+◌, ◌-◌, ◌≤◌, Bool, true, false, cond, ◌&&◌, eqb, leb, List, [], ◌∷◌, length, Some, None, Ok, Err, Option, Result, refl}
use Rattle.std.proofs.lemmas.Bool.{and_parts, not-false, eqb-true, leb-true}
use Rattle.curves.specs.Meaning.{Meaning}
use Rattle.records.specs.Entries.{Entry, head, clean, hit, miss, end}
use Rattle.records.specs.Reading.{due}
use Rattle.records.specs.declared.fault.RecordFault.{RecordFault}
use Rattle.sheets.specs.Tests.{Due, opening, is_elsewhere, fits_entry, by_number, first_that, first_fault}
use Rattle.sheets.specs.Verdict.{Judgement, after, with_hit, passed_on, judged_entry, judged_from}
use Rattle.sheets.specs.declared.assignment.Assignment.{Assignment}
use Rattle.sheets.specs.declared.fault.Fault.{Fault}
use Rattle.sheets.specs.declared.fault.Fault.TheVariants.{Record, Head, Place, Reach, Numbers, Value, Closeness, End}
use Rattle.sheets.specs.declared.refusal.SheetRefusal.TheVariants.{TooLong, Faulty}

-- the entry that was due at a turn has no fault, and passes on the judgement of what is behind it
pub record Turned (m : Meaning) (a : Assignment) (s : List ℕ) (d : Due) (rest : Entry × ℕ → Judgement) (hits : List ℕ) : Type 0 where
  pub entry : Entry
  pub behind : ℕ
  pub free : first_fault m a d (length s - behind) entry ≡ None
  pub on : passed_on entry (rest (entry, behind)) ≡ Ok hits

faultless : (at : ℕ) (o : Option Fault) (e : Entry) (j : Judgement) (hits : List ℕ) → judged_entry at o e j ≡ Ok hits →
    (o ≡ None) × (passed_on e j ≡ Ok hits)
faultless at (Some fault) e j hits h = (cc, cc)
faultless at None e j hits h = (refl, h)

turned : (m : Meaning) (a : Assignment) (s : List ℕ) (d : Due) (at : ℕ) (rest : Entry × ℕ → Judgement) (hits : List ℕ)
    (r : Result (Entry × ℕ) RecordFault) →
    elim r as (λ _. Judgement) [
      | Ok x ↦ judged_entry at (first_fault m a d (length s - x.1) x.0) x.0 (rest x)
      | Err fault ↦ Err (Faulty (Record fault) at)
    ] ≡ Ok hits →
    Turned m a s d rest hits
turned m a s d at rest hits (Ok x) h =
    let p = faultless at _ x.0 (rest x) hits h in
    record { entry = x.0; behind = x.1; free = p.0; on = p.1 }
turned m a s d at rest hits (Err fault) h = cc

pub turn_passed : (m : Meaning) (a : Assignment) (s : List ℕ) (turns at : ℕ) (d : Due) (hits : List ℕ) →
    judged_from (suc turns) m a s at d ≡ Ok hits → Turned m a s d (λ x. judged_from turns m a s x.1 (after m a d x.0)) hits
turn_passed m a s turns at d hits h = turned m a s d at _ hits (due s at) h

-- none of these faults fits
abbrev NoneOf : (Fault → Bool) → List Fault → Type 0
NoneOf p [] = Unit {0}
NoneOf p (x ∷ xs) = (p x ≡ false) × NoneOf p xs

none_of : (p : Fault → Bool) (xs : List Fault) → first_that p xs ≡ None → NoneOf p xs
none_of p [] h = tt
none_of p (x ∷ xs) h = split (p x) (first_that p xs) h (none_of p xs)
  where
    split : (b : Bool) (others : Option Fault) → cond b (Some x) others ≡ None → (others ≡ None → NoneOf p xs) → (b ≡ false) × NoneOf p xs
    split true others h rest = (cc, rest (cc))
    split false others h rest = (refl, rest h)

-- where no first fault is found, none fits
pub none_fits : (m : Meaning) (a : Assignment) (d : Due) (behind : ℕ) (e : Entry) → first_fault m a d behind e ≡ None →
    (fault : Fault) → fits_entry m a d behind e fault ≡ false
none_fits m a d behind e free fault =
    let none = none_of (fits_entry m a d behind e) by_number free in
    elim fault as (λ x. fits_entry m a d behind e x ≡ false) [
      | Record r ↦ refl
      | Head ↦ none.0
      | Place ↦ none.1.0
      | Reach ↦ none.1.1.0
      | Numbers ↦ none.1.1.1.0
      | Value ↦ none.1.1.1.1.0
      | Closeness ↦ none.1.1.1.1.1.0
      | End ↦ none.1.1.1.1.1.1.0
    ]

-- a record in its place starts at k, and its points stay below t
pub placed : (k t from n : ℕ) → is_elsewhere k t from n ≡ false → (from ≡ k) × (1 ≤ n) × (from + n ≤ t)
placed k t from n h =
    let p = and_parts (eqb from k) (leb 1 n && leb (from + n) t) (not-false _ h) in
    let q = and_parts (leb 1 n) (leb (from + n) t) p.1 in
    (eqb-true from k p.0, leb-true 1 n q.0, leb-true (from + n) t q.1)

-- hits with one more in front are that one and those of the judgement behind it
pub in_front : (i : ℕ) (j : Judgement) (hits : List ℕ) → with_hit i j ≡ Ok hits → (others : List ℕ) × (j ≡ Ok others) × (hits ≡ i ∷ others)
in_front i (Ok others) hits h = (others, refl, cc)
in_front i (Err refusal) hits h = ([], cc, cc)

-- only a head passes first, and it adds nothing
pub head_passed : (m : Meaning) (a : Assignment) (behind : ℕ) (e : Entry) (j : Judgement) → first_fault m a opening behind e ≡ None →
    passed_on e j ≡ j
head_passed m a behind (head h) j free = refl
head_passed m a behind (clean c) j free = cc
head_passed m a behind (hit p) j free = cc
head_passed m a behind (miss p) j free = cc
head_passed m a behind (end n) j free = cc

pub not_too_long : (b : Bool) (j : Judgement) (hits : List ℕ) → cond b (Err TooLong) j ≡ Ok hits → j ≡ Ok hits
not_too_long true j hits h = cc
not_too_long false j hits h = h
