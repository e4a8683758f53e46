-- The number of each fault in the form of a record.
use Rattle.std.specs.Prelude.{ℕ}
use Rattle.records.specs.declared.fault.RecordFault.{RecordFault}
use Rattle.records.specs.declared.fault.RecordFault.TheVariants.{Short, Form}

-- 20: the bytes end before a record that is due, in its first four or within its stated length; 21: its kind is unknown, or its length is not the kind's
abbrev pub number_of : RecordFault → ℕ
number_of Short = 20
number_of Form = 21
