-- Booked indices lie in settled blocks.
use Rattle.std.proofs.Common.{◌≡◌, ℕ, ◌+◌, ◌*◌, ◌/◌, ◌<◌, ◌≤◌, Bool, true, false, ltb, leb, ◌≢◌, List, ◌++◌, length, get_or, set, ap, ◌∙◌, subst, ⊎_elim, add-mul, one-mul, div-mul-le_self, arith}
use native.Mathlib.Nat.{div-eq_of_lt-le, lt-div-mul-add}
use Rattle.std.proofs.lemmas.List.{get_or-set_same, get_or-set_other}
use Rattle.std.proofs.lemmas.Bool.{and_parts, cases_lt, both_ways, leb-true, ltb-true, le-leb}
use Rattle.std.specs.List.{list_all}
use Rattle.surveys.specs.Books.{rises, lies_settled, is_in_block, below, from, put_in, taken_out}
use Rattle.surveys.specs.States.{is_settled}
use Rattle.surveys.specs.declared.state.State.{State}
use Rattle.surveys.specs.declared.state.State.TheVariants.{Waiting, Settled}
use Rattle.surveys.proofs.Rising.{pass_by, pass_by_two, pass_joined, rise_joined, below_passes, below_passes_too, below_rises, from_passes, from_passes_too, from_rises}

pub lies_settled_by : (n : ℕ) (states states' : List State) (book book' : List ℕ) → states ≡ states' → book ≡ book' →
    lies_settled n states' book' ≡ true → lies_settled n states book ≡ true
lies_settled_by n states states' book book' e f h =
    ap (λ (xs : List State). lies_settled n xs book) e ∙ ap (λ (ks : List ℕ). lies_settled n states' ks) f ∙ h

-- ---- one state changes

-- another block is settled still
other_settled : (states : List State) (b j : ℕ) (s : State) → j ≢ b →
    is_settled (get_or states j Waiting) ≡ true → is_settled (get_or (set states b s) j Waiting) ≡ true
other_settled states b j s other h = ap is_settled (get_or-set_other states b j s Waiting other) ∙ h

-- a settled block is not one that is not settled
settled_is_other : (states : List State) (b j : ℕ) → is_settled (get_or states b Waiting) ≡ false →
    is_settled (get_or states j Waiting) ≡ true → j ≢ b
settled_is_other states b j unsettled settled e =
    both_ways (is_settled (get_or states b Waiting)) unsettled (subst (λ i. is_settled (get_or states i Waiting) ≡ true) e settled)

-- whatever a block that is not settled turns to, the book lies in settled ones
pub lies_settled_still : (n : ℕ) (states : List State) (b : ℕ) (s : State) (book : List ℕ) →
    is_settled (get_or states b Waiting) ≡ false → lies_settled n states book ≡ true → lies_settled n (set states b s) book ≡ true
lies_settled_still n states b s book unsettled =
    pass_by (λ k. is_settled (get_or states (k / n) Waiting)) (λ k. is_settled (get_or (set states b s) (k / n) Waiting))
    (λ k settled. other_settled states b (k / n) s (settled_is_other states b (k / n) unsettled settled) settled) book

-- ---- the block of an index

in_its_block : (n b k : ℕ) → b * n ≤ k → k < b * n + n → k / n ≡ b
in_its_block n b k low high = div-eq_of_lt-le n low (omega (arith, add-mul b 1 n, one-mul n))

before_its_block : (n b k : ℕ) → k < b * n → k / n ≢ b
before_its_block n b k h e =
    let m : k / n * n ≤ k = div-mul-le_self k n in
    let f : k / n * n ≡ b * n = ap (λ (j : ℕ). j * n) e in
    omega arith

past_its_block : (n b k : ℕ) → 1 ≤ n → b * n + n ≤ k → k / n ≢ b
past_its_block n b k some h e =
    let m : k < k / n * n + n = lt-div-mul-add (omega arith) in
    let f : k / n * n ≡ b * n = ap (λ (j : ℕ). j * n) e in
    omega arith

-- ---- a run put in

-- of a block that is not settled nothing is booked, so what is not before it is past it
past_the_block : (n : ℕ) (states : List State) (b : ℕ) (book : List ℕ) → is_settled (get_or states b Waiting) ≡ false →
    lies_settled n states book ≡ true → list_all (leb (b * n + n)) (from (b * n) book) ≡ true
past_the_block n states b book unsettled lies =
    pass_by_two (leb (b * n)) (λ k. is_settled (get_or states (k / n) Waiting)) (leb (b * n + n))
    (λ k low settled.
    ⊎_elim
    (λ (high : k < b * n + n).
    absurd (settled_is_other states b (k / n) unsettled settled (in_its_block n b k (leb-true (b * n) k low) high)))
    (λ (high : b * n + n ≤ k). le-leb (b * n + n) k high)
    (cases_lt k (b * n + n)))
    (from (b * n) book) (from_passes (b * n) book)
    (from_passes_too (λ k. is_settled (get_or states (k / n) Waiting)) (b * n) book lies)

module _ (n : ℕ) (states : List State) (b : ℕ) (run book : List ℕ)
    (unsettled : is_settled (get_or states b Waiting) ≡ false)
    (inside : list_all (is_in_block n b) run ≡ true)
    (lies : lies_settled n states book ≡ true) where
  pub put_in_rises : rises run ≡ true → rises book ≡ true → rises (put_in n b run book) ≡ true
  put_in_rises run_Up up =
      let s = b * n in
      let high = pass_by (is_in_block n b) (λ k. ltb k (s + n)) (λ k h. (and_parts (leb s k) (ltb k (s + n)) h).1) run inside in
      let low = pass_by (is_in_block n b) (leb s) (λ k h. (and_parts (leb s k) (ltb k (s + n)) h).0) run inside in
      let rest = rise_joined (s + n) run (from s book) run_Up (from_rises s book up) high (past_the_block n states b book unsettled lies) in
      rise_joined s (below s book) (run ++ from s book) (below_rises s book up) rest (below_passes s book)
      (pass_joined (leb s) run (from s book) low (from_passes s book))

  pub put_in_lies_settled : b < length states → lies_settled n (set states b Settled) (put_in n b run book) ≡ true
  put_in_lies_settled there =
      let s = b * n in
      let p : ℕ → Bool = λ k. is_settled (get_or (set states b Settled) (k / n) Waiting) in
      let old = lies_settled_still n states b Settled book unsettled lies in
      let new = pass_by (is_in_block n b) p
      (λ k h.
      let in_it = and_parts (leb s k) (ltb k (s + n)) h in
      ap (λ j. is_settled (get_or (set states b Settled) j Waiting))
      (in_its_block n b k (leb-true s k in_it.0) (ltb-true k (s + n) in_it.1))
      ∙ ap is_settled (get_or-set_same states b Settled Waiting there))
      run inside in
      pass_joined p (below s book) (run ++ from s book) (below_passes_too p s book old)
      (pass_joined p run (from s book) new (from_passes_too p s book old))

-- ---- a block taken out

pub taken_out_rises : (n b : ℕ) (book : List ℕ) → rises book ≡ true → rises (taken_out n b book) ≡ true
taken_out_rises n b book up =
    let s = b * n in
    rise_joined s (below s book) (from (s + n) book) (below_rises s book up) (from_rises (s + n) book up) (below_passes s book)
    (pass_by (leb (s + n)) (leb s) (λ k h. le-leb s k (omega (arith, leb-true (s + n) k h))) (from (s + n) book) (from_passes (s + n) book))

pub taken_out_lies_settled : (n : ℕ) (states : List State) (b : ℕ) (s : State) (book : List ℕ) → 1 ≤ n →
    lies_settled n states book ≡ true → lies_settled n (set states b s) (taken_out n b book) ≡ true
taken_out_lies_settled n states b s book some lies =
    let first = b * n in
    let p : ℕ → Bool = λ k. is_settled (get_or states (k / n) Waiting) in
    let q : ℕ → Bool = λ k. is_settled (get_or (set states b s) (k / n) Waiting) in
    pass_joined q (below first book) (from (first + n) book)
    (pass_by_two (λ k. ltb k first) p q
    (λ k h settled. other_settled states b (k / n) s (before_its_block n b k (ltb-true k first h)) settled)
    (below first book) (below_passes first book) (below_passes_too p first book lies))
    (pass_by_two (leb (first + n)) p q
    (λ k h settled. other_settled states b (k / n) s (past_its_block n b k some (leb-true (first + n) k h)) settled)
    (from (first + n) book) (from_passes (first + n) book) (from_passes_too p (first + n) book lies))
