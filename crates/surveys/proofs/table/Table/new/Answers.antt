use Rattle.std.proofs.Common.{arith}
use Rattle.std.proofs.lemmas.List.{take-replicate}
use Rattle.surveys.specs.declared.state.State.TheVariants.{Waiting}
use Rattle.surveys.proofs.table.Table.new.Goals as goal

pub returns-clause-all_blocks_wait : goal.returns-clause-all_blocks_wait
returns-clause-all_blocks_wait c = take-replicate c.args.blocks 256 Waiting (omega arith)
