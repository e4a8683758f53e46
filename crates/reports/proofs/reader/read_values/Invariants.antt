use Rattle.reports.proofs.Values.{SoFar}
use Rattle.reports.proofs.reader.read_values.Given as goal

abbrev pub invariant-loop-i : goal.invariant-loop-i
invariant-loop-i l = SoFar l.initial.fields l.i l.values l.fields
