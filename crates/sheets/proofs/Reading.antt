-- A record that was read, where only the word for a fault is changed on the way.
use Rattle.std.proofs.Common.{◌≡◌, ℕ, ◌+◌, ◌≤◌, List, length, Ok, Err, Result, sym, ap, ◌∙◌, subst}
use Rattle.std.specs.Result.{MatchResult, is_ok}
use Rattle.std.proofs.lemmas.Bool.{false≢true}
use Rattle.records.specs.Reading.{BodyIsTheSheets, due, said, says}
use Rattle.records.specs.declared.fault.RecordFault.{RecordFault}
use Rattle.records.specs.declared.record.Record.{Record}

-- what is read at a byte
pub record Read (s : List ℕ) (at : ℕ) (record_there : Record) (behind : ℕ) : Type 0 where
  pub due_is : Ok (says record_there, behind) ≡ due s at
  pub later : at + 8 ≤ behind
  pub within : behind ≤ length s

pub read : {D : Type 0} (Q : RecordFault → Type 0) (s : List ℕ) (at : ℕ) (r : Result (Record × ℕ) RecordFault) (q : Result (Record × ℕ) D)
    (x : Record) (b : ℕ) → MatchResult r (λ y. q ≡ Ok y) Q → is_ok q ≡ is_ok r → q ≡ Ok (x, b) → said r ≡ due s at →
    BodyIsTheSheets s at r → Read s at x b
read Q s at (Ok y) q x b kept variant is due_is body =
    let e : y ≡ (x, b) = cc in
    let P : Record × ℕ → Type 0 = λ z. Read s at z.0 z.1 in
    subst P e (record { due_is = due_is; later = body.0; within = body.1 })
read Q s at (Err fault) q x b kept variant is due_is body = absurd (false≢true (sym variant ∙ ap is_ok is))
