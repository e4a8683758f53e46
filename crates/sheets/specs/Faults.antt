-- The refusals of a sheet: their numbers and bytes.
use Rattle.std.specs.Prelude.{ℕ, Some, None, Option}
use Rattle.records.specs.Faults.{number_of as record_number}
use Rattle.sheets.specs.declared.fault.Fault.{Fault}
use Rattle.sheets.specs.declared.fault.Fault.TheVariants.{Record, Head, Place, Reach, Numbers, Value, Closeness, End}
use Rattle.sheets.specs.declared.refusal.SheetRefusal.{SheetRefusal}
use Rattle.sheets.specs.declared.refusal.SheetRefusal.TheVariants.{TooLong, Faulty}

-- 20 the bytes end before a record that is due, in its first four or within its stated length; 21 its kind is unknown, or its length is not
-- the kind's; 22 the head is missing or repeated, or its survey, block, modulus or threshold differs; 23 a record does not start at the next
-- index, has no points or passes the block; 24 the line reaches fewer points than a clean record has; 25 its numbers do not vouch; 26 the value
-- of a hit or a miss is not the curve's; 27 a hit is not close, or a miss is; 28 the end is early, miscounts or is followed by bytes
abbrev pub fault_number : Fault → ℕ
fault_number (Record fault) = record_number fault
fault_number Head = 22
fault_number Place = 23
fault_number Reach = 24
fault_number Numbers = 25
fault_number Value = 26
fault_number Closeness = 27
fault_number End = 28

-- 19 the sheet has more than 2^22 bytes
abbrev pub number_of : SheetRefusal → ℕ
number_of TooLong = 19
number_of (Faulty fault byte) = fault_number fault

-- the byte at which the record that was due starts
abbrev pub byte_of : SheetRefusal → Option ℕ
byte_of TooLong = None
byte_of (Faulty fault byte) = Some byte
