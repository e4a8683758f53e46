-- A call that moves a block finds it, in a state that it moves.
use Rattle.std.proofs.Common.{◌≡◌, ℕ, ◌<◌, Bool, true, false, cond, eqb, List, length, get_or, Some, None, Option, sym, refl, ap, ◌∙◌, subst, arith, length-take}
use Rattle.std.proofs.lemmas.Option.{get_or_from_slice_get, slice_get_within}
use Rattle.surveys.specs.Keeper.{ledger_of}
use Rattle.surveys.specs.Ledger.{state_at, led, moved_by}
use Rattle.surveys.specs.States.{moved, is_settled}
use Rattle.surveys.specs.Tables.{states_of}
use Rattle.surveys.specs.declared.act.Act.{Act}
use Rattle.surveys.specs.declared.act.Act.TheVariants.{Issue, GiveBack, Work, Settle, Recall}
use Rattle.surveys.specs.declared.state.State.{State}
use Rattle.surveys.specs.declared.state.State.TheVariants.{Waiting, Out, Settled}
use Rattle.surveys.specs.declared.table.Table.{Table}
use Rattle.surveys.specs.declared.ticket.Ticket.{Ticket}

-- a block with a state is one of the list
pub there : (xs : List State) (b : ℕ) (s : State) → state_at xs b ≡ Some s → (b < length xs) × (get_or xs b Waiting ≡ s)
there xs b s e = (slice_get_within xs b s e, get_or_from_slice_get xs b s Waiting e)

-- the state that a call found a block in
pub record Found (xs : List State) (b : ℕ) (act : Act) (s : State) : Type 0 where
  pub was : State
  pub at : state_at xs b ≡ Some was
  pub moves : moved was act ≡ Some s

found_by : (xs : List State) (b : ℕ) (act : Act) (s : State) (o : Option State) → state_at xs b ≡ o → Some s ≡ led act o → Found xs b act s
found_by xs b act s None at e = let z : ◌≡◌ {A = ℕ} 0 1 = cc in absurd (omega arith)
found_by xs b act s (Some was) at e = record { was = was; at = at; moves = sym e }

pub found : (xs : List State) (b : ℕ) (act : Act) (s : State) → Some s ≡ led act (state_at xs b) → Found xs b act s
found xs b act s e = found_by xs b act s (state_at xs b) refl e

-- only a recall moves a settled block
unsettled : (was s : State) (act : Act) → (act ≡ Recall → ⊥) → moved was act ≡ Some s → is_settled was ≡ false
unsettled Waiting s act h e = refl
unsettled Out s act h e = refl
unsettled Settled s Issue h e = cc
unsettled Settled s GiveBack h e = cc
unsettled Settled s Work h e = cc
unsettled Settled s Settle h e = cc
unsettled Settled s Recall h e = absurd (h refl)

-- an act other than a recall that moves a block finds it there, and not settled
pub block_is_ready : (t : Table) (b : ℕ) (act : Act) (s : State) → (act ≡ Recall → ⊥) → Some s ≡ led act (state_at (states_of t) b) →
    (b < t.blocks) × (is_settled (get_or (states_of t) b Waiting) ≡ false)
block_is_ready t b act s other e =
    let f = found (states_of t) b act s e in
    let at = there (states_of t) b f.was f.at in
    (omega (arith, at.0, length-take t.blocks t.states), ap is_settled at.1 ∙ unsettled f.was s act other f.moves)

-- a block that moves is there
pub block_is_there : (t : Table) (b : ℕ) (act : Act) (s : State) → Some s ≡ led act (state_at (states_of t) b) → b < t.blocks
block_is_there t b act s e =
    let f = found (states_of t) b act s e in
    omega (arith, (there (states_of t) b f.was f.at).0, length-take t.blocks t.states)

of_this_survey : (mine : Bool) (s : State) (o : Option State) → Some s ≡ cond mine o None → Some s ≡ o
of_this_survey true s o e = e
of_this_survey false s o e = cc

-- the same of the block of a ticket, which b is
pub ticket_is_ready : (number : ℕ) (t : Table) (k : Ticket) (b : ℕ) (act : Act) (s : State) → (act ≡ Recall → ⊥) →
    Some s ≡ moved_by number (ledger_of t) act k → b ≡ k.block → (b < t.blocks) × (is_settled (get_or (states_of t) b Waiting) ≡ false)
ticket_is_ready number t k b act s other e same =
    let P : ℕ → Type 0 = λ i. (i < t.blocks) × (is_settled (get_or (states_of t) i Waiting) ≡ false) in
    subst P (sym same)
    (block_is_ready t k.block act s other (of_this_survey (eqb k.survey number) s (led act (state_at (states_of t) k.block)) e))

-- settling is no recall
pub settle_is_no_recall : Settle ≡ Recall → ⊥
settle_is_no_recall e = let z : ◌≡◌ {A = ℕ} 0 1 = cc in omega arith
