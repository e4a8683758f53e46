-- The book of a ledger, block by block: it is exact.
use Rattle.std.proofs.Common.{◌≡◌, ℕ, zero, suc, ◌+◌, ◌*◌, ◌≤◌, cond, List, [], ◌∷◌, Some, refl, subst, ⊎_elim, mul-le-mul_right, suc-mul, arith}
use Rattle.curves.specs.Meaning.{Meaning}
use Rattle.surveys.specs.Keeper.{Among, Rising, Exact}
use Rattle.surveys.specs.Ledger.{Ledger, state_at, close_in, book_from, book_of}
use Rattle.surveys.specs.States.{is_settled}
use Rattle.surveys.specs.declared.state.State.{State}
use Rattle.surveys.specs.declared.state.State.TheVariants.{Waiting, Out, Settled}
use Rattle.surveys.proofs.Members.{in_either, in_first, in_second, rising_together}
use Rattle.surveys.proofs.Members.{close_in_rises, close_in_bounds, close_in_within, within_close_in}

-- what a block gives to the book
abbrev pub given : Meaning → Ledger → (b : ℕ) → State → List ℕ
given m l b s = cond (is_settled s) (close_in m l b) []

-- a later block begins behind the end of an earlier one
pub blocks_follow : (b c n : ℕ) → b + 1 ≤ c → b * n + n ≤ c * n
blocks_follow b c n h = let next : suc b ≤ c = omega arith in omega (arith, suc-mul b n, mul-le-mul_right n next)

module _ (m : Meaning) (l : Ledger) where
  pub given_settled : (b k : ℕ) (s : State) → Among k (given m l b s) → (s ≡ Settled) × Among k (close_in m l b)
  given_settled b k Waiting h = elim h [ ]
  given_settled b k Out h = elim h [ ]
  given_settled b k Settled h = (refl, h)

  -- k is close in a settled block, which stands at a place among the blocks from b on
  record Found (b : ℕ) (ss : List State) (k : ℕ) : Type 0 where
    place : ℕ
    block : ℕ
    is : block ≡ b + place
    settled : state_at ss place ≡ Some Settled
    among : Among k (close_in m l block)

  -- every booked index is found in such a block, and all close indices of such a block are booked
  found : (b : ℕ) (ss : List State) (k : ℕ) → Among k (book_from m l b ss) → Found b ss k
  found b [] k h = elim h [ ]
  found b (s ∷ ss) k h =
      ⊎_elim
      (λ (here : Among k (given m l b s)).
      let g = given_settled b k s here in
      record { place = 0; block = b; is = omega arith; settled = rw g.0; among = g.1 })
      (λ (behind : Among k (book_from m l (b + 1) ss)).
      let f = found (b + 1) ss k behind in
      record { place = suc f.place; block = f.block; is = omega (arith, f.is); settled = f.settled; among = f.among })
      (in_either k (given m l b s) _ h)

  booked : (b : ℕ) (ss : List State) (k i c : ℕ) → c ≡ b + i → state_at ss i ≡ Some Settled → Among k (close_in m l c) →
      Among k (book_from m l b ss)
  booked b [] k i c at settled h = absurd (let z : ◌≡◌ {A = ℕ} 0 1 = cc in omega arith)
  booked b (s ∷ ss) k zero c at settled h =
      let here : c ≡ b = omega arith in
      let e : s ≡ Settled = cc in
      in_first k (given m l b s) _ (rw e (subst (λ d. Among k (close_in m l d)) here h))
  booked b (s ∷ ss) k (suc i) c at settled h = in_second k (given m l b s) _ (booked (b + 1) ss k i c (omega arith) settled h)

  -- the blocks behind b give indices behind those of b
  pub book_behind : (b k : ℕ) (ss : List State) → Among k (book_from m l (b + 1) ss) → b * l.block_length + l.block_length ≤ k
  book_behind b k ss h =
      let f = found (b + 1) ss k h in
      omega (arith, f.is, blocks_follow b f.block l.block_length (omega (arith, f.is)), (close_in_bounds m l f.block k f.among).0)

  given_rises : (b : ℕ) (s : State) → Rising (given m l b s)
  given_rises b Waiting = tt
  given_rises b Out = tt
  given_rises b Settled = close_in_rises m l b

  book_rises : (b : ℕ) (ss : List State) → Rising (book_from m l b ss)
  book_rises b [] = tt
  book_rises b (s ∷ ss) =
      rising_together (given m l b s) (book_from m l (b + 1) ss) (given_rises b s) (book_rises (b + 1) ss)
      (λ j k here behind. omega (arith, (close_in_bounds m l b j (given_settled b j s here).1).1, book_behind b k ss behind))

  pub book_is_exact : Exact m l (book_of m l)
  book_is_exact = record {
    rising = book_rises 0 l.states;
    due = λ k h.
        let f = found 0 l.states k h in
        let e : f.place ≡ f.block = omega (arith, f.is) in
        let w = close_in_within m l f.block k f.among in
        record { block = f.block; settled = rw e at f.settled; from = w.from; below = w.below; close = w.close };
    named = λ k d.
        booked 0 l.states k d.block d.block (omega arith) d.settled
        (within_close_in m l d.block k (record { from = d.from; below = d.below; close = d.close }));
  }
