use Rattle.std.proofs.Common.{arith}
use Rattle.sheets.proofs.Cleaned.{clean_records}
use Rattle.sheets.proofs.Exact.{hits_exact}
use Rattle.sheets.proofs.Kept.{passes_exactly}
use Rattle.sheets.proofs.Least.{fault_least}
use Rattle.sheets.proofs.judging.judge_lawfully.Goals as goal

pub returns-clause-hits_are_the_close_indices_of_the_block : goal.returns-clause-hits_are_the_close_indices_of_the_block
returns-clause-hits_are_the_close_indices_of_the_block g c =
    hits_exact (g.C.Curve.meaning c.args.curve.now) c.args.assignment (g.met.C.Curve.facts c.args.curve.now)

pub returns-clause-clean_records_pass_exactly_where_none_is_close : goal.returns-clause-clean_records_pass_exactly_where_none_is_close
returns-clause-clean_records_pass_exactly_where_none_is_close g c =
    clean_records (g.C.Curve.meaning c.args.curve.now) (g.met.C.Curve.facts c.args.curve.now)

pub returns-clause-passes_exactly_when_the_rules_are_kept : goal.returns-clause-passes_exactly_when_the_rules_are_kept
returns-clause-passes_exactly_when_the_rules_are_kept g c =
    passes_exactly (g.C.Curve.meaning c.args.curve.now) c.args.assignment (g.met.C.Curve.facts c.args.curve.now) (omega arith)

pub returns-clause-a_fault_is_the_least_where_all_before_is_in_order : goal.returns-clause-a_fault_is_the_least_where_all_before_is_in_order
returns-clause-a_fault_is_the_least_where_all_before_is_in_order g c =
    fault_least (g.C.Curve.meaning c.args.curve.now) c.args.assignment
