use Rattle.std.proofs.Common.{arith, rules}
use Rattle.reports.proofs.Digits.{more_digits_more}
use Rattle.reports.proofs.numbers.read_number.Goals as goal

pub overflow_mul-number : goal.overflow_mul-number
overflow_mul-number c =
    let p = more_digits_more c.loop-byte.byte-index 12 (omega arith) in
    search rules

pub overflow_add-number : goal.overflow_add-number
overflow_add-number c =
    let p = more_digits_more c.loop-byte.byte-index 12 (omega arith) in
    search rules

pub returns-clause-below_ten_to_13 : goal.returns-clause-below_ten_to_13
returns-clause-below_ten_to_13 c =
    let p = more_digits_more c.loop-byte.byte-index 13 (omega arith) in
    search rules
