-- The states of a block, and what the calls do to them.
use Rattle.std.specs.Prelude.{ℕ, ◌+◌, Bool, true, false, List, [], ◌∷◌, Some, None, Option}
use Rattle.std.specs.List.{list_all}
use Rattle.surveys.specs.declared.act.Act.{Act}
use Rattle.surveys.specs.declared.act.Act.TheVariants.{Issue, GiveBack, Work, Settle, Recall}
use Rattle.surveys.specs.declared.state.State.{State}
use Rattle.surveys.specs.declared.state.State.TheVariants.{Waiting, Out, Settled}

-- the state that a call leads to, by the state that the block is in; none where the call is refused
abbrev pub moved : State → Act → Option State
moved Waiting Issue = Some Out
moved Waiting GiveBack = None
moved Waiting Work = None
moved Waiting Settle = None
moved Waiting Recall = None
moved Out Issue = None
moved Out GiveBack = Some Waiting
moved Out Work = Some Settled
moved Out Settle = Some Settled
moved Out Recall = None
moved Settled Issue = None
moved Settled GiveBack = None
moved Settled Work = None
moved Settled Settle = None
moved Settled Recall = Some Waiting

abbrev pub is_waiting : State → Bool
is_waiting Waiting = true
is_waiting Out = false
is_waiting Settled = false

abbrev pub is_settled : State → Bool
is_settled Waiting = false
is_settled Out = false
is_settled Settled = true

abbrev pub all_waiting : List State → Bool
all_waiting states = list_all is_waiting states

-- 1 for a block that is out
abbrev pub one_out : State → ℕ
one_out Waiting = 0
one_out Out = 1
one_out Settled = 0

-- how many blocks are out
abbrev pub outs : List State → ℕ
outs [] = 0
outs (s ∷ ss) = one_out s + outs ss
