-- A line that is too long prints the same whatever else it holds.
use Rattle.std.proofs.Common.{◌≡◌, ℕ, ◌<◌, ◌≤◌, ltb, List, length, take, Err, sym, ap, ◌∙◌, ⊎_elim, arith}
use Rattle.std.proofs.lemmas.List.{take_all, length-take-le}
use Rattle.std.proofs.lemmas.Bool.{cases_lt, cond-true, lt-ltb}
use Rattle.reports.specs.Lines.{reading}
use Rattle.reports.specs.Output.{output, answer_text}
use Rattle.reports.specs.declared.refusal.LineRefusal.TheVariants.{Letter}

too_long : (s : List ℕ) → 1024 < length s → reading s ≡ Err Letter
too_long s h = cond-true (ltb 1024 (length s)) _ _ (lt-ltb 1024 (length s) h)

pub the_first_1025_tell : (n : ℕ) (s : List ℕ) → output n (take 1025 s) ≡ output n s
the_first_1025_tell n s =
    ⊎_elim
    (λ (l : 1024 < length s).
    let t : length (take 1025 s) ≡ 1025 = length-take-le 1025 s (omega arith) in
    ap (answer_text n) (too_long (take 1025 s) (omega arith) ∙ sym (too_long s l)))
    (λ (l : length s ≤ 1024). ap (output n) (take_all 1025 s (omega arith)))
    (cases_lt 1024 (length s))
