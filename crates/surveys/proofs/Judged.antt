-- The hits of a sheet that passes are the close indices of its block.
use Rattle.std.proofs.Common.{◌≡◌, ℕ, ◌≤◌, List, ◌++◌, length, take, drop, Ok, Err, refl, ap, ◌∙◌, subst, arith}
use Rattle.std.proofs.lemmas.List.{take_all, take_at}
use Rattle.curves.specs.Closes.{close_between}
use Rattle.curves.specs.Meaning.{Meaning}
use Rattle.sheets.specs.Blocks.{start_of, stop_of}
use Rattle.sheets.specs.Laws.{HitsAreTheCloseIndices}
use Rattle.sheets.specs.Verdict.{Judgement, counted, laid, lent, verdict}
use Rattle.sheets.specs.declared.assignment.Assignment.{Assignment}
use Rattle.surveys.specs.Ledger.{Ledger, asked, close_in}

-- so many indices, which stand in the first places where they are no more than 512
pub record LaidOut (indices : List ℕ) (count : ℕ) (places : List ℕ) : Type 0 where
  pub counts : count ≡ length indices
  pub stand : count ≤ 512 → take count places ≡ indices

laid_hits : (hits zeros : List ℕ) → length hits ≤ 512 → take (length hits) (laid hits zeros) ≡ hits
laid_hits hits zeros few =
    ap (λ h. take (length hits) (h ++ drop (length hits) zeros)) (take_all 512 hits few)
    ∙ take_at hits (drop (length hits) zeros) (length hits) refl

judged_by : (m : Meaning) (a : Assignment) (s places zeros : List ℕ) (count : ℕ) (v : Judgement) → verdict m a s ≡ v → Ok count ≡ counted v →
    places ≡ lent v zeros → HitsAreTheCloseIndices m a → LaidOut (close_between m a.threshold (start_of m a) (stop_of m a)) count places
judged_by m a s places zeros count (Err refusal) is counts lays law = let z : ◌≡◌ {A = ℕ} 0 1 = cc in absurd (omega arith)
judged_by m a s places zeros count (Ok hits) is counts lays law =
    let n : count ≡ length hits = cc in
    let closes = law s hits is in
    record {
      counts = n ∙ ap length closes;
      stand = λ few.
          ap (λ i. take i places) n ∙ ap (take (length hits)) lays ∙ laid_hits hits zeros (omega arith) ∙ closes;
    }

pub judged_is_laid_out : (m : Meaning) (number : ℕ) (l : Ledger) (b : ℕ) (a : Assignment) (s places zeros : List ℕ) (count : ℕ) →
    a ≡ asked number l b → Ok count ≡ counted (verdict m a s) → places ≡ lent (verdict m a s) zeros → HitsAreTheCloseIndices m a →
    LaidOut (close_in m l b) count places
judged_is_laid_out m number l b a s places zeros count asks counts lays law =
    let P : Assignment → Type 0 = λ x. LaidOut (close_between m x.threshold (start_of m x) (stop_of m x)) count places in
    subst P asks (judged_by m a s places zeros count (verdict m a s) refl counts lays law)
