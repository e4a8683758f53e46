-- The states of blocks in a list.
use Rattle.std.proofs.Common.{◌≡◌, ℕ, zero, suc, ◌<◌, List, [], ◌∷◌, length, take, set, refl, ap, arith}
use Rattle.std.proofs.lemmas.List.{length-take}
use Rattle.surveys.specs.Tables.{states_of}
use Rattle.surveys.specs.declared.state.State.{State}
use Rattle.surveys.specs.declared.table.Table.{Table}

front_set : (n : ℕ) (xs : List State) (b : ℕ) (s : State) → take n (set xs b s) ≡ set (take n xs) b s
front_set zero xs b s = refl
front_set (suc n) [] b s = refl
front_set (suc n) (x ∷ xs) zero s = refl
front_set (suc n) (x ∷ xs) (suc b) s = ap (λ (ys : List State). x ∷ ys) (front_set n xs b s)

-- ---- the states of a table

pub block_is_there : (t : Table) (b : ℕ) → length t.states ≡ 256 → b < t.blocks → b < length (states_of t)
block_is_there t b all h = omega (arith, t.few_blocks, length-take t.blocks t.states)

pub one_is_set : (t : Table) (b : ℕ) (s : State) → take t.blocks (set t.states b s) ≡ set (states_of t) b s
one_is_set t b s = front_set t.blocks t.states b s
