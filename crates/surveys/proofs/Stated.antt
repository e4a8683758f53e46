-- The keeper's statement, by recursion on a history.
use Rattle.std.proofs.Common.{◌≡◌, ℕ, ◌+◌, List, length, sym, ap, ◌∙◌, arith}
use Rattle.curves.specs.Meaning.{Meaning, Facts}
use Rattle.sheets.proofs.Cleaned.{clean_records}
use Rattle.surveys.specs.Keeper.{View, Entry, Run, put_together, then, Statement}
use Rattle.surveys.specs.Keeper.{AllAnswered, ledger_of, ledger_after, handed_out, taken, issued, taken_back}
use Rattle.surveys.specs.Ledger.{Outcome, blocks_of, book_of, book_after, judge, start, step}
use Rattle.surveys.specs.States.{outs}
use Rattle.surveys.specs.Tables.{book_in}
use Rattle.surveys.proofs.Exact.{book_is_exact}
use Rattle.surveys.proofs.Steps.{while_all_wait, new_blocks_wait, judge_follows}

-- a survey keeps with its history: its ledger is the history's, and its book that ledger's
record Keeps (m : Meaning) (number : ℕ) (h : List Entry) (v : View) : Type 0 where
  answered : AllAnswered m number h
  ledger : ledger_of v.table ≡ ledger_after m number h
  book : book_in v.table ≡ book_of m (ledger_after m number h)
  tickets : issued h ≡ taken_back h + outs (ledger_after m number h).states

keeps : (m : Meaning) (number : ℕ) {h : List Entry} {v : View} → v.meaning ≡ m → v.number ≡ number → Run h v → Keeps m number h v
keeps m number p q (put_together fresh) =
    let none = while_all_wait m (start m) 0 (start m).states (new_blocks_wait (blocks_of m 4096)) in
    record {
      answered = tt;
      ledger = fresh.ledger ∙ ap start p;
      book = fresh.book ∙ sym none.1;
      tickets = omega arith;
    }
keeps m number p q (then {h} {v} {w} {c} {a} run s) =
    let k = keeps m number (sym s.meaning ∙ p) (sym s.number ∙ q) run in
    let l = ledger_after m number h in
    let f = judge_follows m number l (length (book_of m l)) c in
    let same : judge v.meaning v.number (ledger_of v.table) (length (book_in v.table)) c ≡ step m number l c = cc in
    let answer = s.answer ∙ ap (λ (o : Outcome). o.answer) same in
    let after : book_after v.meaning (ledger_of v.table) (book_in v.table) c a
    ≡ book_after m l (book_of m l) c (step m number l c).answer = cc in
    record {
      answered = (answer, k.answered);
      ledger = s.ledger ∙ ap (λ (o : Outcome). o.next) same;
      book = s.book ∙ after ∙ f.book;
      tickets = omega (arith, f.tickets, k.tickets, ap handed_out answer, ap (taken c) answer);
    }

pub statement : (m : Meaning) (number : ℕ) → Facts m → Statement m number
statement m number facts = record {
  clean_records_pass_exactly_where_none_is_close = clean_records m facts;
  every_history_is_kept = λ h v p q run.
      let k = keeps m number p q run in
      record {
        every_answer_is_the_ledgers = k.answered;
        terms_and_states_are_the_ledgers = k.ledger;
        the_book_is_exact = rw k.book (book_is_exact m (ledger_after m number h));
        issued_are_taken_back_or_out = k.tickets;
      };
}
