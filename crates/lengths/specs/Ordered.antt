-- An order that is the order of the units is total over the units.
-- The proofs here serve the law of an impl, which may cite nothing of its crate but specs/.
use Rattle.std.proofs.Common.{◌≡◌, ℕ, ◌-◌, ◌<◌, Bool, T, ltb, ◌⊎◌, sym, subst, inl, inr, eq-zero-or-pos, arith, lt→ltb}

module _ {X : Type 0} (units : X → ℕ) (before : X → X → Bool) (ordered : (x y : X) → before x y ≡ ltb (units x) (units y)) where
  before_if_less : (x y : X) → units x < units y → T (before x y)
  before_if_less x y h = subst T (sym (ordered x y)) (lt→ltb (units x) (units y) h)

  pub total_over_units : (x y : X) → T (before x y) ⊎ ((units x ≡ units y) ⊎ T (before y x))
  total_over_units x y =
      elim (eq-zero-or-pos (units y - units x)) [
        | inr p ↦ inl (before_if_less x y (omega arith))
        | inl z ↦ elim (eq-zero-or-pos (units x - units y)) [ inl w ↦ inr (inl (omega arith)) | inr q ↦ inr (inr (before_if_less y x (omega arith))) ]
      ]
