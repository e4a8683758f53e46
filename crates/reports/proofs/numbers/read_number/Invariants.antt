use Rattle.std.proofs.Common.{◌≡◌, ◌^◌, ◌<◌, drop}
use Rattle.reports.specs.Lines.{written}
use Rattle.reports.proofs.numbers.read_number.Given as goal

abbrev pub invariant-loop-byte : goal.invariant-loop-byte
invariant-loop-byte l =
    (l.number < 10 ^ l.byte-index)
    × (written l.number (drop l.byte-index l.field) ≡ written 0 l.field)
