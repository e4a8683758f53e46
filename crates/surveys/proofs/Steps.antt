-- What a call does to the book and to the number of blocks that are out.
use Rattle.std.proofs.Common.{◌≡◌, ℕ, zero, suc, ◌+◌, true, eqb, leb, List, [], ◌∷◌, set, replicate, Some, None, Ok, Err, Option, sym, refl, arith}
use Rattle.std.proofs.lemmas.Bool.{cond_both}
use Rattle.curves.specs.Meaning.{Meaning}
use Rattle.sheets.specs.Verdict.{Judgement, verdict}
use Rattle.surveys.specs.Keeper.{handed_out, taken}
use Rattle.surveys.specs.Ledger.{Ledger, Call, Answer, Outcome, accepted, handed, refused, returned, terms, issue, give_back, work, settle, recall}
use Rattle.surveys.specs.Ledger.{asked, state_at, led, moved_by, with_state, book_from, book_of, book_after}
use Rattle.surveys.specs.Ledger.{sent_back, moves, has_room, enters, passes_first, settles, length_fits, blocks_of, new_terms, judge}
use Rattle.surveys.specs.States.{all_waiting, moved, one_out, outs}
use Rattle.surveys.specs.declared.act.Act.{Act}
use Rattle.surveys.specs.declared.act.Act.TheVariants.{Issue, GiveBack, Work, Settle, Recall}
use Rattle.surveys.specs.declared.state.State.{State}
use Rattle.surveys.specs.declared.state.State.TheVariants.{Waiting, Out, Settled}
use Rattle.surveys.specs.declared.ticket.Ticket.{Ticket}
use Rattle.surveys.proofs.Moves.{book_stays, book_put_in, book_taken_out}

-- ---- states

-- of blocks that wait none is out, and nothing is booked
pub while_all_wait : (m : Meaning) (l : Ledger) (b : ℕ) (ss : List State) → all_waiting ss ≡ true →
    (outs ss ≡ 0) × (book_from m l b ss ≡ [])
while_all_wait m l b [] wait = (refl, refl)
while_all_wait m l b (Waiting ∷ ss) wait = let r = while_all_wait m l (b + 1) ss wait in (omega arith, r.1)
while_all_wait m l b (Out ∷ ss) wait = (cc, cc)
while_all_wait m l b (Settled ∷ ss) wait = (cc, cc)

pub new_blocks_wait : (n : ℕ) → all_waiting (replicate n Waiting) ≡ true
new_blocks_wait zero = refl
new_blocks_wait (suc n) = new_blocks_wait n

outs_move : (ss : List State) (b : ℕ) (old new : State) → state_at ss b ≡ Some old →
    outs (set ss b new) + one_out old ≡ outs ss + one_out new
outs_move [] b old new is = cc
outs_move (s ∷ ss) zero old new is = let e : s ≡ old = cc in rw e (omega arith)
outs_move (s ∷ ss) (suc b) old new is = omega (arith, outs_move ss b old new is)

-- what holds of where an act leads a block, by the state of the block
led_by : (P : Option State → Type 0) (act : Act) (x : Option State) → P None → (x ≡ Some Waiting → P (moved Waiting act)) →
    (x ≡ Some Out → P (moved Out act)) → (x ≡ Some Settled → P (moved Settled act)) → P (led act x)
led_by P act None none waiting out settled = none
led_by P act (Some Waiting) none waiting out settled = waiting refl
led_by P act (Some Out) none waiting out settled = out refl
led_by P act (Some Settled) none waiting out settled = settled refl

-- ---- steps

-- the book and the blocks out follow what is answered to the call
pub record Follows (m : Meaning) (l : Ledger) (c : Call) (o : Outcome) : Type 0 where
  pub book : book_after m l (book_of m l) c o.answer ≡ book_of m o.next
  pub tickets : handed_out o.answer + outs l.states ≡ taken c o.answer + outs o.next.states

module _ (m : Meaning) (number : ℕ) (l : Ledger) (booked : ℕ) where
  -- where a block moves
  move_follows : (c : Call) (a : Answer) (b : ℕ) (old new : State) → state_at l.states b ≡ Some old →
      book_after m l (book_of m l) c a ≡ book_of m (with_state l b new) → handed_out a + one_out old ≡ taken c a + one_out new →
      Follows m l c (record { answer = a; next = with_state l b new })
  move_follows c a b old new is book tickets =
      record { book = book; tickets = omega (arith, outs_move l.states b old new is) }

  -- where a ticket is shown, which is good only for a block that is out
  by_ticket : (P : Option State → Type 0) (act : Act) (t : Ticket) → P None → P (moved Waiting act) →
      (state_at l.states t.block ≡ Some Out → P (moved Out act)) → P (moved Settled act) → P (moved_by number l act t)
  by_ticket P act t none waiting out settled =
      cond_both (eqb t.survey number) _ _ P
      (λ e. led_by P act (state_at l.states t.block) none (λ is. waiting) out (λ is. settled)) (λ e. none)

  -- behind a sheet that has to pass
  passing_follows : (t : Ticket) (sheet : List ℕ) (j : Judgement) (o : Outcome) → Follows m l (settle t sheet) o →
      Follows m l (settle t sheet) (passes_first l t j o)
  passing_follows t sheet (Ok hits) o follows = follows
  passing_follows t sheet (Err refusal) o follows = record { book = refl; tickets = refl }

  pub judge_follows : (c : Call) → Follows m l c (judge m number l booked c)
  judge_follows (terms D n) =
      let new = new_terms m D n in
      let P = Follows m l (terms D n) in
      cond_both (all_waiting l.states) _ _ P
      (λ wait. cond_both (leb D m.modulus) _ _ P
      (λ e. cond_both (length_fits m n) _ _ P
      (λ fits.
      let old_ones = while_all_wait m l 0 l.states wait in
      let new_ones = while_all_wait m new 0 new.states (new_blocks_wait (blocks_of m n)) in
      record { book = sym new_ones.1; tickets = omega arith })
      (λ fits. record { book = refl; tickets = refl }))
      (λ e. record { book = refl; tickets = refl }))
      (λ wait. record { book = refl; tickets = refl })
  judge_follows (issue b) =
      let granted = handed (record { survey = number; block = b }) in
      let no : Follows m l (issue b) (sent_back l (refused 10)) = record { book = refl; tickets = refl } in
      led_by (λ x. Follows m l (issue b) (moves l b x granted (refused 10))) Issue (state_at l.states b) no
      (λ is. move_follows (issue b) granted b Waiting Out is (book_stays m l b Waiting is Out refl refl) refl) (λ is. no) (λ is. no)
  judge_follows (give_back t) =
      let no : Follows m l (give_back t) (sent_back l (returned 11 None t)) = record { book = refl; tickets = refl } in
      by_ticket (λ x. Follows m l (give_back t) (moves l t.block x accepted (returned 11 None t))) GiveBack t no no
      (λ is. move_follows (give_back t) accepted t.block Out Waiting is (book_stays m l t.block Out is Waiting refl refl) refl) no
  judge_follows (work t largest) =
      let no : Follows m l (work t largest) (sent_back l (returned 11 None t)) = record { book = refl; tickets = refl } in
      by_ticket (λ x. Follows m l (work t largest) (enters m l booked t x)) Work t no no
      (λ is. cond_both (has_room m l booked t.block) _ _ (Follows m l (work t largest))
      (λ e. move_follows (work t largest) accepted t.block Out Settled is (book_put_in m l t.block Out is refl) refl)
      (λ e. record { book = refl; tickets = refl }))
      no
  judge_follows (settle t sheet) =
      let no : Follows m l (settle t sheet) (sent_back l (returned 11 None t)) = record { book = refl; tickets = refl } in
      let j = verdict m (asked number l t.block) sheet in
      by_ticket (λ x. Follows m l (settle t sheet) (settles m l booked t j x)) Settle t no no
      (λ is. passing_follows t sheet j _
      (cond_both (has_room m l booked t.block) _ _ (Follows m l (settle t sheet))
      (λ e. move_follows (settle t sheet) accepted t.block Out Settled is (book_put_in m l t.block Out is refl) refl)
      (λ e. record { book = refl; tickets = refl })))
      no
  judge_follows (recall b) =
      let no : Follows m l (recall b) (sent_back l (refused 14)) = record { book = refl; tickets = refl } in
      led_by (λ x. Follows m l (recall b) (moves l b x accepted (refused 14))) Recall (state_at l.states b) no (λ is. no) (λ is. no)
      (λ is. move_follows (recall b) accepted b Settled Waiting is (book_taken_out m l b is) refl)
