-- The test of five numbers passes exactly where they vouch.
use Rattle.std.proofs.Common.{◌≡◌, ℕ, ◌+◌, ◌*◌, Bool, true, ◌&&◌, T, eqb, ltb, leb, pos, ◌-ℤ◌, subst, ltb-true, lt-ltb, eq-eqb, eqb-true, le-leb, leb-true}
use Rattle.std.proofs.lemmas.Bool.{and_parts, and_from, true_from_ne_false}
use Rattle.std.proofs.lemmas.Float.{T_from_true}
use Rattle.std.specs.Cmp.{both_ways}
use Rattle.grid.specs.Residue.{residue}
use Rattle.search.specs.Points.{distance}
use Rattle.search.specs.Configurations.{gap}
use Rattle.search.specs.Vouching.{Vouches, Within, Fills, Clears, config_of, is_within, is_filling, is_clear, vouching}
use Rattle.search.specs.declared.evidence.Evidence.{Evidence}

within_tested : (M n : ℕ) (e : Evidence) → is_within M n e ≡ true → Within M n e
within_tested M n e h =
    let a = and_parts (leb 1 e.u) _ h in
    let b = and_parts (leb e.u n) _ a.1 in
    let c = and_parts (leb 1 e.v) _ b.1 in
    let d = and_parts (leb e.v n) _ c.1 in
    let f = and_parts (leb n (e.u + e.v)) _ d.1 in
    let g = and_parts (leb e.x M) _ f.1 in
    let i = and_parts (leb e.y M) (ltb e.r n) g.1 in
    record {
      u_from = leb-true _ _ a.0;
      u_to = leb-true _ _ b.0;
      v_from = leb-true _ _ c.0;
      v_to = leb-true _ _ d.0;
      enough = leb-true _ _ f.0;
      x_to = leb-true _ _ g.0;
      y_to = leb-true _ _ i.0;
      r_below = ltb-true _ _ i.1;
    }

within_passes : (M n : ℕ) (e : Evidence) → Within M n e → is_within M n e ≡ true
within_passes M n e w =
    and_from _ _ (le-leb _ _ w.u_from)
    (and_from _ _ (le-leb _ _ w.u_to)
    (and_from _ _ (le-leb _ _ w.v_from)
    (and_from _ _ (le-leb _ _ w.v_to)
    (and_from _ _ (le-leb _ _ w.enough)
    (and_from _ _ (le-leb _ _ w.x_to) (and_from _ _ (le-leb _ _ w.y_to) (lt-ltb _ _ w.r_below)))))))

filling_tested : (M a : ℕ) (e : Evidence) → is_filling M a e ≡ true → Fills M a e
filling_tested M a e h =
    let p = and_parts (eqb (residue M (pos e.x)) (residue M (pos (e.v * a)))) _ h in
    let q = and_parts (eqb (residue M (pos e.y)) (residue M (pos 0 -ℤ pos (e.u * a)))) (eqb (e.u * e.x + e.v * e.y) M) p.1 in
    record { x_is = eqb-true _ _ p.0; y_is = eqb-true _ _ q.0; whole = eqb-true _ _ q.1 }

filling_passes : (M a : ℕ) (e : Evidence) → Fills M a e → is_filling M a e ≡ true
filling_passes M a e f = and_from _ _ (eq-eqb _ _ f.x_is) (and_from _ _ (eq-eqb _ _ f.y_is) (eq-eqb _ _ f.whole))

clear_tested : (M a b D n : ℕ) (e : Evidence) → is_clear M a b D n e ≡ true → Clears M a b D n e
clear_tested M a b D n e h =
    let p = and_parts (leb D (distance M a b e.r)) (ltb (distance M a b e.r) (gap n (config_of e) e.r)) h in
    record { far = leb-true _ _ p.0; inside = ltb-true _ _ p.1 }

clear_passes : (M a b D n : ℕ) (e : Evidence) → Clears M a b D n e → is_clear M a b D n e ≡ true
clear_passes M a b D n e c = and_from _ _ (le-leb _ _ c.far) (lt-ltb _ _ c.inside)

pub vouching_vouches : (M a b D n : ℕ) (e : Evidence) → vouching M a b D n e ≡ true → Vouches M a b D n e
vouching_vouches M a b D n e h =
    let p = and_parts (is_within M n e) (is_filling M a e && is_clear M a b D n e) h in
    let q = and_parts (is_filling M a e) (is_clear M a b D n e) p.1 in
    record { within = within_tested M n e p.0; fills = filling_tested M a e q.0; clears = clear_tested M a b D n e q.1 }

pub vouches_passes : (M a b D n : ℕ) (e : Evidence) → Vouches M a b D n e → vouching M a b D n e ≡ true
vouches_passes M a b D n e v =
    and_from _ _ (within_passes M n e v.within) (and_from _ _ (filling_passes M a e v.fills) (clear_passes M a b D n e v.clears))

-- what is true exactly where the numbers vouch is the test
pub tells_the_test : (r : Bool) (M a b D n : ℕ) (e : Evidence) → (T r → Vouches M a b D n e) × (Vouches M a b D n e → T r) →
    r ≡ vouching M a b D n e
tells_the_test r M a b D n e h =
    both_ways r (vouching M a b D n e) (λ t. vouches_passes M a b D n e (h.0 (T_from_true r t)))
    (λ t. true_from_ne_false r (λ f. subst T f (h.1 (vouching_vouches M a b D n e t))))
