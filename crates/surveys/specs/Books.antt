-- The book: the close indices of the settled blocks, rising.
use Rattle.std.specs.Prelude.{ℕ, ◌+◌, ◌*◌, ◌/◌, Bool, true, cond, ◌&&◌, ltb, List, [], ◌∷◌, ◌++◌, nat_le, nat_lt, slice_index_or}
use Rattle.std.specs.List.{list_all}
use Rattle.surveys.specs.States.{is_settled}
use Rattle.surveys.specs.declared.state.State.{State}
use Rattle.surveys.specs.declared.state.State.TheVariants.{Waiting}

-- the list rises
abbrev pub rises : List ℕ → Bool
rises [] = true
rises (k ∷ ks) = list_all (ltb k) ks && rises ks

-- each of the book lies in a settled block; n is the block length
abbrev pub lies_settled : (n : ℕ) → List State → List ℕ → Bool
lies_settled n states book = list_all (λ k. is_settled (slice_index_or states (k / n) Waiting)) book

-- whether the index k lies in the block b of the length n
abbrev pub is_in_block : (n b k : ℕ) → Bool
is_in_block n b k = nat_le (b * n) k && nat_lt k (b * n + n)

-- those of a list below an index, and those from it on
abbrev pub below : ℕ → List ℕ → List ℕ
below s [] = []
below s (k ∷ ks) = cond (nat_lt k s) (k ∷ below s ks) (below s ks)

abbrev pub from : ℕ → List ℕ → List ℕ
from s [] = []
from s (k ∷ ks) = cond (nat_le s k) (k ∷ from s ks) (from s ks)

-- a book with the indices of the block b put in between those before it and the others
abbrev pub put_in : (n b : ℕ) → List ℕ → List ℕ → List ℕ
put_in n b indices book = below (b * n) book ++ (indices ++ from (b * n) book)

-- a book without those of the block b
abbrev pub taken_out : (n b : ℕ) → List ℕ → List ℕ
taken_out n b book = below (b * n) book ++ from (b * n + n) book
