-- Many steps of one kind at once, and the configurations that they reach.
use Rattle.std.proofs.Common.{◌≡◌, ℕ, zero, suc, ◌+◌, ◌-◌, ◌*◌, ◌<◌, ◌≤◌, Bool, true, false, refl, ap, ◌∙◌, subst, arith}
use Rattle.std.proofs.lemmas.Bool.{le-leb, lt-leb}
use Rattle.search.proofs.Complete.{by_next}
use Rattle.search.specs.Configurations.{Config, next, first_from, config_for}
use Rattle.search.specs.Walk.{Shares, Towards}

pub config_path : {x x' y y' u u' v v' : ℕ} → x ≡ x' → y ≡ y' → u ≡ u' → v ≡ v' →
    ◌≡◌ {A = Config} (record { x = x; y = y; u = u; v = v }) (record { x = x'; y = y'; u = u'; v = v' })
config_path p q r s = λ i. record { x = p i; y = q i; u = r i; v = s i }

pub arrive : (M a k : ℕ) (c : Config) → Towards M a k c → k ≤ c.u + c.v → config_for M a k ≡ c
arrive M a k c t l = t.is ∙ go t.f
  where
    go : (f : ℕ) → first_from f k c ≡ c
    go zero = refl
    go (suc f) = ap (λ (b : Bool). elim b as (λ _. Config) [ true ↦ c | false ↦ first_from f k (next c) ]) (le-leb k (c.u + c.v) l)

pub onward : (M a k : ℕ) (c : Config) → 1 ≤ c.u → 1 ≤ c.v → Towards M a k c → c.u + c.v < k → Towards M a k (next c)
onward M a k c h z t l = go t.f t.left t.is
  where
    go : (f : ℕ) → k ≤ c.u + c.v + f → config_for M a k ≡ first_from f k c → Towards M a k (next c)
    go zero e p = absurd (omega arith)
    go (suc f) e p =
        record {
          f = f;
          left = by_next (λ d. k ≤ d.u + d.v + f) c (λ _. omega arith) (λ _. omega arith);
          is = p ∙ ap (λ (b : Bool). elim b as (λ _. Config) [ true ↦ c | false ↦ first_from f k (next c) ]) (lt-leb k (c.u + c.v) l);
        }

-- p steps with x > y, and p with x ≤ y
abbrev pub lowered : Config → ℕ → Config
lowered c p = record { x = c.x - p * c.y; y = c.y; u = c.u; v = c.v + p * c.u }

abbrev pub raised : Config → ℕ → Config
raised c p = record { x = c.x; y = c.y - p * c.x; u = c.u + p * c.v; v = c.v }

next_lowered : (c : Config) (p : ℕ) → suc p * c.y < c.x → next (lowered c p) ≡ lowered c (suc p)
next_lowered c p l =
    by_next (λ d. d ≡ lowered c (suc p)) (lowered c p)
    (λ _. config_path (omega arith) refl refl (omega arith))
    (λ (e : c.x - p * c.y ≤ c.y). absurd (omega arith))

next_raised : (c : Config) (p : ℕ) → suc p * c.x ≤ c.y → next (raised c p) ≡ raised c (suc p)
next_raised c p l =
    by_next (λ d. d ≡ raised c (suc p)) (raised c p)
    (λ (e : c.y - p * c.x < c.x). absurd (omega arith))
    (λ _. config_path refl (omega arith) (omega arith) refl)

module _ (M a : ℕ) (c : Config) (h : 1 ≤ c.u) (z : 1 ≤ c.v) (beyond : (k : ℕ) → c.u + c.v ≤ k → Towards M a k c) where
  step_l : (p : ℕ) → suc p * c.y < c.x → (k : ℕ) → c.u + (c.v + p * c.u) < k → Towards M a k (lowered c p) → Towards M a k (lowered c (suc p))
  step_l p l k e t = subst (Towards M a k) (next_lowered c p l) (onward M a k (lowered c p) h (omega arith) t e)

  pub along_l : (p : ℕ) → p * c.y < c.x → (k : ℕ) → c.u + (c.v + p * c.u) ≤ k → Towards M a k (lowered c p)
  along_l zero l k e = subst (Towards M a k) (config_path (omega arith) refl refl (omega arith)) (beyond k (omega arith))
  along_l (suc p) l k e = step_l p l k (omega arith) (along_l p (omega arith) k (omega arith))

  pub onto_l : (p : ℕ) → suc p * c.y < c.x → (k : ℕ) → c.u + (c.v + p * c.u) < k → Towards M a k (lowered c (suc p))
  onto_l p l k e = step_l p l k e (along_l p (omega arith) k (omega arith))

  step_r : (p : ℕ) → suc p * c.x ≤ c.y → (k : ℕ) → c.u + p * c.v + c.v < k → Towards M a k (raised c p) → Towards M a k (raised c (suc p))
  step_r p l k e t = subst (Towards M a k) (next_raised c p l) (onward M a k (raised c p) (omega arith) z t e)

  pub along_r : (p : ℕ) → p * c.x ≤ c.y → (k : ℕ) → c.u + p * c.v + c.v ≤ k → Towards M a k (raised c p)
  along_r zero l k e = subst (Towards M a k) (config_path refl (omega arith) (omega arith) refl) (beyond k (omega arith))
  along_r (suc p) l k e = step_r p l k (omega arith) (along_r p (omega arith) k (omega arith))

  pub onto_r : (p : ℕ) → suc p * c.x ≤ c.y → (k : ℕ) → c.u + p * c.v + c.v < k → Towards M a k (raised c (suc p))
  onto_r p l k e = step_r p l k e (along_r p (omega arith) k (omega arith))

pub shares_l : (M a x y u v q : ℕ) → q * y ≤ x → Shares M a x y u v → Shares M a (x - q * y) y u (v + q * u)
shares_l M a x y u v q l s =
    let m : (x - q * y) + q * y ≡ x = omega arith in
    record {
      x_is = record { i = s.x_is.i + q * s.y_is.j; j = s.x_is.j + q * s.y_is.i; is = omega (arith, s.x_is.is, ap (λ n. q * n) s.y_is.is) };
      y_is = s.y_is;
      whole = omega (arith, s.whole, ap (λ n. u * n) m);
    }

pub shares_r : (M a x y u v q : ℕ) → q * x ≤ y → Shares M a x y u v → Shares M a x (y - q * x) (u + q * v) v
shares_r M a x y u v q l s =
    let m : (y - q * x) + q * x ≡ y = omega arith in
    record {
      x_is = s.x_is;
      y_is = record { i = s.y_is.i + q * s.x_is.j; j = s.y_is.j + q * s.x_is.i; is = omega (arith, s.y_is.is, ap (λ n. q * n) s.x_is.is) };
      whole = omega (arith, s.whole, ap (λ n. v * n) m);
    }
