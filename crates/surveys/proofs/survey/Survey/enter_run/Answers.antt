use Rattle.surveys.specs.Keeper.{ledger_of}
use Rattle.surveys.proofs.Found.{run_lies_in_the_block, run_rises}
use Rattle.surveys.proofs.survey.Survey.enter_run.Goals as goal

pub enter-requires-clause-the_run_rises : goal.enter-requires-clause-the_run_rises
enter-requires-clause-the_run_rises g c =
    let s = c.args.self.now in
    run_rises (g.C.Curve.meaning s.curve) (ledger_of s.table) c.args.block c.args.run.now c.requires.the_close_indices

pub enter-requires-clause-the_run_lies_in_the_block : goal.enter-requires-clause-the_run_lies_in_the_block
enter-requires-clause-the_run_lies_in_the_block g c =
    let s = c.args.self.now in
    run_lies_in_the_block (g.C.Curve.meaning s.curve) (ledger_of s.table) c.args.block c.args.run.now c.requires.the_close_indices
