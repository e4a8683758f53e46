-- The close indices that are left of a range: the least one comes first, and none is left where there is none.
use Rattle.std.proofs.Common.{◌≡◌, ℕ, ◌+◌, ◌-◌, ◌<◌, ◌≤◌, [], ◌∷◌, None, sym, ap, ◌∙◌, ⊎_elim, arith}
use Rattle.std.proofs.lemmas.Bool.{cases_lt}
use Rattle.curves.specs.Closes.{close_among, close_between}
use Rattle.curves.specs.Meaning.{Meaning}
use Rattle.curves.proofs.CloseIndices.{far_between, close_first, none_at_the_end}
use Rattle.scan.specs.Nexts.{LeastClose, NextClose}

module _ (m : Meaning) (D s t : ℕ) where
  pub least_first : (k : ℕ) → LeastClose m D s t k → close_between m D s t ≡ k ∷ close_between m D (k + 1) t
  least_first k least =
      let n : k ≡ s + (k - s) = omega (arith, least.from) in
      far_between m D s (k - s) t (omega (arith, least.from, least.below)) (λ j h. least.before (s + j) (omega arith) (omega (arith, least.from)))
      ∙ ap (λ i. close_between m D i t) (sym n)
      ∙ close_first m D k t least.below least.close

  pub none_is_left : t ≤ m.count → NextClose m D s t None → close_between m D s t ≡ []
  none_is_left within none =
      ⊎_elim
      (λ (h : s < t).
      let n : t ≡ s + (t - s) = omega arith in
      far_between m D s (t - s) t (omega arith) (λ j b. none (s + j) (omega arith) (omega arith) (omega arith))
      ∙ none_at_the_end m D (s + (t - s)) t (sym n))
      (λ (h : t ≤ s). let z : t - s ≡ 0 = omega arith in ap (close_among m D s) z)
      (cases_lt s t)
