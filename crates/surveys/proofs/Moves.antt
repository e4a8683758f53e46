-- What the move of a block does to the book of a ledger.
use Rattle.std.proofs.Common.{◌≡◌, ℕ, zero, suc, ◌+◌, ◌*◌, ◌<◌, ◌≤◌, Bool, false, cond, ltb, leb, List, [], ◌∷◌, ◌++◌, set, Some, sym, refl, ap, ◌∙◌, inl, inr, ⊎_elim, append_assoc, arith}
use Rattle.std.proofs.lemmas.Bool.{cond-true, cond-false, lt-ltb, le-ltb, le-leb, lt-leb}
use Rattle.curves.specs.Meaning.{Meaning}
use Rattle.surveys.specs.Books.{below, from, put_in, taken_out}
use Rattle.surveys.specs.Keeper.{Among}
use Rattle.surveys.specs.Ledger.{Ledger, state_at, close_in, book_from, book_of, with_state}
use Rattle.surveys.specs.States.{is_settled}
use Rattle.surveys.specs.declared.state.State.{State}
use Rattle.surveys.specs.declared.state.State.TheVariants.{Waiting, Settled}
use Rattle.surveys.proofs.Exact.{given, given_settled, blocks_follow, book_behind}
use Rattle.surveys.proofs.Members.{in_either, close_in_bounds}

-- each of a list
abbrev All : (ℕ → Type 0) → List ℕ → Type 0
All P xs = (k : ℕ) → Among k xs → P k

-- a list whose first part is below s, and whose second is not, parts there
parts_at : (s : ℕ) (xs ys : List ℕ) → All (λ k. k < s) xs → All (λ k. s ≤ k) ys →
    (below s (xs ++ ys) ≡ xs) × (from s (xs ++ ys) ≡ ys)
parts_at s [] [] low high = (refl, refl)
parts_at s [] (y ∷ ys) low high =
    let r = parts_at s [] ys low (λ k h. high k (inr h)) in
    let late = high y (inl refl) in
    (cond-false (ltb y s) _ _ (le-ltb y s late) ∙ r.0, cond-true (leb s y) _ _ (le-leb s y late) ∙ ap (λ zs. y ∷ zs) r.1)
parts_at s (x ∷ xs) ys low high =
    let r = parts_at s xs ys (λ k h. low k (inr h)) high in
    let early = low x (inl refl) in
    (cond-true (ltb x s) _ _ (lt-ltb x s early) ∙ ap (λ zs. x ∷ zs) r.0, cond-false (leb s x) _ _ (lt-leb s x early) ∙ r.1)

-- the book of the blocks from b on, with the block c at the place i among them: whatever its state, it is what is before, what c gives, and
-- what is behind
record Parted (m : Meaning) (l : Ledger) (b : ℕ) (ss : List State) (i c : ℕ) : Type 0 where
  before : List ℕ
  behind : List ℕ
  low : All (λ k. k < c * l.block_length) before
  high : All (λ k. c * l.block_length + l.block_length ≤ k) behind
  whole : (s : State) → book_from m l b (set ss i s) ≡ before ++ (given m l c s ++ behind)

parted : (m : Meaning) (l : Ledger) (b : ℕ) (ss : List State) (i c : ℕ) (old : State) → c ≡ b + i → state_at ss i ≡ Some old →
    Parted m l b ss i c
parted m l b [] i c old at is = absurd (let z : ◌≡◌ {A = ℕ} 0 1 = cc in omega arith)
parted m l b (s ∷ ss) zero c old at is =
    let here : b ≡ c = omega arith in
    record {
      before = [];
      behind = book_from m l (b + 1) ss;
      low = λ k h. elim h [ ];
      high = λ k h. rw (← here) (book_behind m l b k ss h);
      whole = λ x. ap (λ d. given m l d x ++ book_from m l (b + 1) ss) here;
    }
parted m l b (s ∷ ss) (suc i) c old at is =
    let p = parted m l (b + 1) ss i c old (omega arith) is in
    record {
      before = given m l b s ++ p.before;
      behind = p.behind;
      low = λ k h. ⊎_elim
          (λ (here : Among k (given m l b s)).
          omega (arith, (close_in_bounds m l b k (given_settled m l b k s here).1).1, blocks_follow b c l.block_length (omega arith)))
          (p.low k)
          (in_either k (given m l b s) p.before h);
      high = p.high;
      whole = λ x. ap (λ zs. given m l b s ++ zs) (p.whole x) ∙ sym (append_assoc (given m l b s) p.before _);
    }

set_same : (ss : List State) (b : ℕ) (s : State) → state_at ss b ≡ Some s → set ss b s ≡ ss
set_same [] b s is = refl
set_same (x ∷ ss) zero s is = let e : s ≡ x = cc in ap (λ y. y ∷ ss) e
set_same (x ∷ ss) (suc b) s is = ap (λ ys. x ∷ ys) (set_same ss b s is)

-- the close indices do not depend on the states
other_states : (m : Meaning) (l : Ledger) (c : ℕ) (s : State) (b : ℕ) (ss : List State) →
    book_from m (with_state l c s) b ss ≡ book_from m l b ss
other_states m l c s b [] = refl
other_states m l c s b (x ∷ ss) = ap (λ zs. given m l b x ++ zs) (other_states m l c s (b + 1) ss)

-- ---- the block b moves from a state to another

module _ (m : Meaning) (l : Ledger) (b : ℕ) (old : State) (is : state_at l.states b ≡ Some old) where
  parts : Parted m l 0 l.states b b
  parts = parted m l 0 l.states b b old (omega arith) is

  book_after_it : (s : State) → book_of m (with_state l b s) ≡ parts.before ++ (given m l b s ++ parts.behind)
  book_after_it s = other_states m l b s 0 (set l.states b s) ∙ parts.whole s

  book_before_it : (settled : Bool) → is_settled old ≡ settled →
      book_of m l ≡ parts.before ++ (cond settled (close_in m l b) [] ++ parts.behind)
  book_before_it settled was =
      sym (ap (book_from m l 0) (set_same l.states b old is)) ∙ parts.whole old
      ∙ ap (λ x. parts.before ++ (cond x (close_in m l b) [] ++ parts.behind)) was

  -- between states that are not settled it leaves the book alone
  pub book_stays : (s : State) → is_settled old ≡ false → is_settled s ≡ false → book_of m l ≡ book_of m (with_state l b s)
  book_stays s was becomes = book_before_it (is_settled s) (was ∙ sym becomes) ∙ sym (book_after_it s)

  -- settled, it is put in
  pub book_put_in : is_settled old ≡ false → put_in l.block_length b (close_in m l b) (book_of m l) ≡ book_of m (with_state l b Settled)
  book_put_in was =
      let s = b * l.block_length in
      let r = parts_at s parts.before parts.behind parts.low (λ k h. omega (arith, parts.high k h)) in
      rw (book_before_it false was, r.0, r.1) (sym (book_after_it Settled))

-- no longer settled, it is taken out
pub book_taken_out : (m : Meaning) (l : Ledger) (b : ℕ) → state_at l.states b ≡ Some Settled →
    taken_out l.block_length b (book_of m l) ≡ book_of m (with_state l b Waiting)
book_taken_out m l b is =
    let s = b * l.block_length in
    let t = b * l.block_length + l.block_length in
    let p = parts m l b Settled is in
    let own = close_in m l b in
    let first = parts_at s p.before (own ++ p.behind) p.low
    (λ k h. ⊎_elim (λ (a : Among k own). (close_in_bounds m l b k a).0) (λ (a : Among k p.behind). omega (arith, p.high k a))
    (in_either k own p.behind h)) in
    let second = parts_at t (p.before ++ own) p.behind
    (λ k h. ⊎_elim (λ (a : Among k p.before). omega (arith, p.low k a)) (λ (a : Among k own). (close_in_bounds m l b k a).1)
    (in_either k p.before own h)) p.high in
    let whole = book_before_it m l b Settled is _ refl in
    rw (ap (below s) whole ∙ first.0, ap (from t) (whole ∙ sym (append_assoc p.before own p.behind)) ∙ second.1)
    (sym (book_after_it m l b Settled is Waiting))
