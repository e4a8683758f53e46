-- How many of a list that rises lie below an index: as many as stand before the point where they stop doing so.
use Rattle.std.proofs.Common.{◌≡◌, ℕ, zero, suc, ◌<◌, ◌≤◌, Bool, true, false, ltb, List, [], ◌∷◌, length, get_or, sym, ap, ◌∙◌, arith}
use Rattle.std.proofs.lemmas.Bool.{and_parts, cond-true, cond-false, ltb-true}
use Rattle.std.specs.List.Sorted.{IsNonDecreasingBy, IsPartitionPoint}
use Rattle.std.specs.List.{list_all}
use Rattle.surveys.specs.Books.{rises, below}

passes_at : (p : ℕ → Bool) (xs : List ℕ) (j d : ℕ) → list_all p xs ≡ true → j < length xs → p (get_or xs j d) ≡ true
passes_at p [] j d h i = absurd (omega arith)
passes_at p (x ∷ xs) zero d h i = (and_parts (p x) (list_all p xs) h).0
passes_at p (x ∷ xs) (suc j) d h i = passes_at p xs j d (and_parts (p x) (list_all p xs) h).1 (omega arith)

pub rises_in_order : (xs : List ℕ) → rises xs ≡ true → IsNonDecreasingBy (λ k. k) xs
rises_in_order [] h i j d a b = absurd (omega arith)
rises_in_order (x ∷ xs) h zero zero d a b = omega arith
rises_in_order (x ∷ xs) h zero (suc j) d a b =
    let above = passes_at (ltb x) xs j d (and_parts (list_all (ltb x) xs) (rises xs) h).0 (omega arith) in
    omega (arith, ltb-true x (get_or xs j d) above)
rises_in_order (x ∷ xs) h (suc i) zero d a b = absurd (omega arith)
rises_in_order (x ∷ xs) h (suc i) (suc j) d a b =
    rises_in_order xs (and_parts (list_all (ltb x) xs) (rises xs) h).1 i j d (omega arith) (omega arith)

pub below_end_at_the_point : (s : ℕ) (xs : List ℕ) (i : ℕ) → i ≤ length xs →
    IsPartitionPoint (λ y. ltb y s ≡ true) (λ y. ltb y s ≡ false) xs i → i ≡ length (below s xs)
below_end_at_the_point s [] i h p = omega arith
below_end_at_the_point s (x ∷ xs) zero h p =
    below_end_at_the_point s xs zero (omega arith) (λ k d a b. absurd (omega arith), λ k d a b. p.1 (suc k) d (omega arith) (omega arith))
    ∙ ap length (sym (cond-false (ltb x s) (x ∷ below s xs) (below s xs) (p.1 zero x (omega arith) (omega arith))))
below_end_at_the_point s (x ∷ xs) (suc i) h p =
    ap suc (below_end_at_the_point s xs i (omega arith)
    (λ k d a b. p.0 (suc k) d (omega arith) (omega arith), λ k d a b. p.1 (suc k) d (omega arith) (omega arith)))
    ∙ ap length (sym (cond-true (ltb x s) (x ∷ below s xs) (below s xs) (p.0 zero x (omega arith) (omega arith))))
