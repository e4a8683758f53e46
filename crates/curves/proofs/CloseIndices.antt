-- The close indices of a stretch, from its front on.
use Rattle.std.proofs.Common.{◌≡◌, ℕ, zero, suc, ◌+◌, ◌-◌, ◌<◌, ◌≤◌, ltb, [], ◌∷◌, sym, ap, ◌∙◌, add-zero, suc-add, zero-add, arith}
use Rattle.std.proofs.lemmas.Bool.{cond-true, cond-false, lt-ltb, le-ltb}
use Rattle.curves.specs.Closes.{close_among, close_between}
use Rattle.curves.specs.Meaning.{Meaning}

-- n indices that are not close add none
far_among : (m : Meaning) (D n q s : ℕ) → ((j : ℕ) → j < n → D ≤ m.value (s + j)) →
    close_among m D s (n + q) ≡ close_among m D (s + n) q
far_among m D zero q s far = rw (zero-add, add-zero)
far_among m D (suc n) q s far =
    let here : D ≤ m.value s = rw add-zero at (far 0 (omega arith)) in
    let next : (j : ℕ) → s + suc j ≡ s + 1 + j = λ j. omega arith in
    ap (close_among m D s) (suc-add n q)
    ∙ cond-false (ltb (m.value s) D) _ _ (le-ltb (m.value s) D here)
    ∙ far_among m D n q (s + 1) (λ j h. rw next at (far (suc j) (omega arith)))
    ∙ ap (λ i. close_among m D i q) (sym (next n))

pub far_between : (m : Meaning) (D k n t : ℕ) → k + n ≤ t → ((j : ℕ) → j < n → D ≤ m.value (k + j)) →
    close_between m D k t ≡ close_between m D (k + n) t
far_between m D k n t within far =
    let z : t - k ≡ n + (t - (k + n)) = omega arith in
    ap (close_among m D k) z ∙ far_among m D n (t - (k + n)) k far

pub close_first : (m : Meaning) (D k t : ℕ) → k < t → m.value k < D → close_between m D k t ≡ k ∷ close_between m D (k + 1) t
close_first m D k t below close =
    let z : t - k ≡ suc (t - (k + 1)) = omega arith in
    ap (close_among m D k) z ∙ cond-true (ltb (m.value k) D) _ _ (lt-ltb (m.value k) D close)

pub none_at_the_end : (m : Meaning) (D k t : ℕ) → k ≡ t → close_between m D k t ≡ []
none_at_the_end m D k t e = let z : t - k ≡ 0 = omega arith in ap (close_among m D k) z
