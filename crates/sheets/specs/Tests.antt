-- Which faults fit where a record is due.
use Rattle.std.specs.Prelude.{ℕ, ◌+◌, Bool, true, false, cond, not, ◌&&◌, List, [], ◌∷◌, Some, None, Option, ◌==◌, nat_le, nat_lt}
use Rattle.curves.specs.Meaning.{Meaning}
use Rattle.records.specs.Entries.{Entry, head, clean, hit, miss, end}
use Rattle.records.specs.declared.heading.Heading.{Heading}
use Rattle.sheets.specs.Blocks.{stop_of}
use Rattle.sheets.specs.Clean.{reaches, vouched}
use Rattle.sheets.specs.declared.assignment.Assignment.{Assignment}
use Rattle.sheets.specs.declared.fault.Fault.{Fault}
use Rattle.sheets.specs.declared.fault.Fault.TheVariants.{Record, Head, Place, Reach, Numbers, Value, Closeness, End}

-- what is due at a byte: the head; or, `count` records behind it, a record from the index k on, or the end
pub data Due : Type 0 where
  opening : Due
  going : (k count : ℕ) → Due

-- the first index of a record and how many it covers; a head and an end cover none
abbrev pub from_of : Entry → ℕ
from_of (head h) = 0
from_of (clean c) = c.from
from_of (hit p) = p.index
from_of (miss p) = p.index
from_of (end n) = 0

abbrev pub points_of : Entry → ℕ
points_of (head h) = 0
points_of (clean c) = c.points
points_of (hit p) = 1
points_of (miss p) = 1
points_of (end n) = 0

-- the heading that a sheet for this block must have
abbrev pub heading_for : Meaning → Assignment → Heading
heading_for m a = record { survey = a.survey; block = a.block; modulus = m.modulus; threshold = a.threshold }

-- 22: the head is missing or differs
abbrev pub is_not_the_head : Meaning → Assignment → Entry → Bool
is_not_the_head m a (head h) =
    not (h.survey == a.survey && (h.block == a.block && (h.modulus == m.modulus && h.threshold == a.threshold)))
is_not_the_head m a (clean c) = true
is_not_the_head m a (hit p) = true
is_not_the_head m a (miss p) = true
is_not_the_head m a (end n) = true

-- 22: a second head
abbrev pub is_a_head : Entry → Bool
is_a_head (head h) = true
is_a_head (clean c) = false
is_a_head (hit p) = false
is_a_head (miss p) = false
is_a_head (end n) = false

-- 23: it does not start at the next index k, covers none, or passes the index t behind the block
abbrev pub is_elsewhere : (k t from n : ℕ) → Bool
is_elsewhere k t from n = not (from == k && (nat_le 1 n && nat_le (from + n) t))

abbrev pub is_misplaced : (k t : ℕ) → Entry → Bool
is_misplaced k t (head h) = false
is_misplaced k t (clean c) = is_elsewhere k t c.from c.points
is_misplaced k t (hit p) = is_elsewhere k t p.index 1
is_misplaced k t (miss p) = is_elsewhere k t p.index 1
is_misplaced k t (end n) = false

-- 24: the line of a clean stretch reaches fewer points
abbrev pub is_beyond_the_line : Meaning → Entry → Bool
is_beyond_the_line m (head h) = false
is_beyond_the_line m (clean c) = not (reaches m c.from c.points)
is_beyond_the_line m (hit p) = false
is_beyond_the_line m (miss p) = false
is_beyond_the_line m (end n) = false

-- 25: its numbers do not vouch
abbrev pub is_not_vouched : Meaning → (D : ℕ) → Entry → Bool
is_not_vouched m D (head h) = false
is_not_vouched m D (clean c) = not (vouched m D c.from c.points c.evidence)
is_not_vouched m D (hit p) = false
is_not_vouched m D (miss p) = false
is_not_vouched m D (end n) = false

-- 26: the value of a hit or a miss is not the curve's
abbrev pub has_another_value : Meaning → Entry → Bool
has_another_value m (head h) = false
has_another_value m (clean c) = false
has_another_value m (hit p) = not (p.value == m.value p.index)
has_another_value m (miss p) = not (p.value == m.value p.index)
has_another_value m (end n) = false

-- 27: a hit is not close, or a miss is
abbrev pub is_on_the_wrong_side : (D : ℕ) → Entry → Bool
is_on_the_wrong_side D (head h) = false
is_on_the_wrong_side D (clean c) = false
is_on_the_wrong_side D (hit p) = nat_le D p.value
is_on_the_wrong_side D (miss p) = nat_lt p.value D
is_on_the_wrong_side D (end n) = false

-- 28: the end is early, miscounts, or is followed by bytes
abbrev pub is_a_wrong_end : (k t count behind : ℕ) → Entry → Bool
is_a_wrong_end k t count behind (head h) = false
is_a_wrong_end k t count behind (clean c) = false
is_a_wrong_end k t count behind (hit p) = false
is_a_wrong_end k t count behind (miss p) = false
is_a_wrong_end k t count behind (end n) = not (k == t && (n == count && behind == 0))

-- whether a fault fits an entry that stands where d is due, with `behind` bytes behind it; none in the form of a record does
abbrev pub fits_entry : Meaning → Assignment → Due → (behind : ℕ) → Entry → Fault → Bool
fits_entry m a d behind e (Record f) = false
fits_entry m a opening behind e Head = is_not_the_head m a e
fits_entry m a opening behind e Place = false
fits_entry m a opening behind e Reach = false
fits_entry m a opening behind e Numbers = false
fits_entry m a opening behind e Value = false
fits_entry m a opening behind e Closeness = false
fits_entry m a opening behind e End = false
fits_entry m a (going k count) behind e Head = is_a_head e
fits_entry m a (going k count) behind e Place = is_misplaced k (stop_of m a) e
fits_entry m a (going k count) behind e Reach = is_beyond_the_line m e
fits_entry m a (going k count) behind e Numbers = is_not_vouched m a.threshold e
fits_entry m a (going k count) behind e Value = has_another_value m e
fits_entry m a (going k count) behind e Closeness = is_on_the_wrong_side a.threshold e
fits_entry m a (going k count) behind e End = is_a_wrong_end k (stop_of m a) count behind e

-- the faults that an entry can have, by rising number
abbrev pub by_number : List Fault
by_number = Head ∷ Place ∷ Reach ∷ Numbers ∷ Value ∷ Closeness ∷ End ∷ []

abbrev pub first_that : (Fault → Bool) → List Fault → Option Fault
first_that p [] = None
first_that p (f ∷ fs) = cond (p f) (Some f) (first_that p fs)

-- the first fault of an entry, if it has one
abbrev pub first_fault : Meaning → Assignment → Due → (behind : ℕ) → Entry → Option Fault
first_fault m a d behind e = first_that (fits_entry m a d behind e) by_number
