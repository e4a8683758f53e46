-- A batch of steps with x > y, which shorten x.
use Rattle.std.proofs.Common.{◌≡◌, ℕ, zero, suc, ◌+◌, ◌-◌, ◌*◌, ◌<◌, ◌≤◌, min, ◌⊎◌, sym, ap, ◌∙◌, subst, subst₂, inl, inr, ⊎_elim, mul-le-mul_right, arith}
use Rattle.std.proofs.lemmas.Bool.{cases_lt}
use Rattle.search.proofs.Batching.{less_one, few_added}
use Rattle.search.proofs.Sound.{gap_is, nearest}
use Rattle.search.proofs.Complete.{up_x}
use Rattle.search.proofs.Reach.{arrive, lowered, along_l, onto_l, shares_l}
use Rattle.search.specs.Points.{distance}
use Rattle.search.specs.Configurations.{gap}
use Rattle.search.specs.Walk.{ShortensX, MovesX, Spot, Holds, Towards, Walks, Hits, Goes, placed, shorter_x}
use Rattle.search.specs.declared.evidence.Evidence.{Evidence}

-- where b lies: in an x gap or in a y gap
abbrev pub Inside : Spot → Type 0
Inside s = ((s.r < s.u) × (s.d < s.x)) ⊎ ((s.u ≤ s.r) × (s.d < s.y))

pub inside_is : (M a b D n : ℕ) (s : Spot) → Walks M a b D n s → s.u + s.v < n → Inside s × (s.r < s.u + s.v)
inside_is M a b D n s w l =
    let g = gap_is (min n (s.u + s.v)) (placed s) s.r in (
      ⊎_elim
          (λ (z : s.r < s.u). inl (z, omega (arith, g, w.held.inside, w.d_is)))
          (λ (z : s.u ≤ s.r). inr (z, omega (arith, g, w.held.inside, w.held.below, w.d_is)))
          (cases_lt s.r s.u),
      omega (arith, w.held.below),
    )

pub goes_l : (M a b D n : ℕ) (s : Spot) (q r d : ℕ) → Walks M a b D n s → s.u + s.v < n → ShortensX n s q →
    r < n → r < s.u + (s.v + q * s.u) → d ≡ distance M a b r → D ≤ d →
    distance M a b r < gap (min n (s.u + (s.v + q * s.u))) (lowered (placed s) q) r →
    Goes M a b D n s (record { u = s.u; v = s.v + q * s.u; x = s.x - q * s.y; y = s.y; r = r; d = d })
goes_l M a b D n s zero r d w l t e f g z i = absurd (omega (arith, t.some))
goes_l M a b D n s (suc p) r d w l t e f g z i =
    let m : p * s.u < n - (s.u + s.v) = less_one s.u (n - (s.u + s.v)) p t.few in
    record {
      walks = record {
        u_from = w.u_from;
        u_to = w.u_to;
        v_from = omega (arith, w.v_from);
        v_to = omega arith;
        x_to = omega (arith, w.x_to);
        y_to = w.y_to;
        held = record {
          shares = shares_l M a s.x s.y s.u s.v (suc p) (omega (arith, t.within)) w.held.shares;
          enough = omega arith;
          below = omega arith;
          inside = i;
        };
        d_is = g;
        far = z;
        to_n = onto_l M a (placed s) w.u_from w.v_from w.beyond p t.within n (omega arith);
        beyond = λ k o. along_l M a (placed s) w.u_from w.v_from w.beyond (suc p) t.within k o;
      };
      more = omega (arith, w.u_from);
    }

-- b's point stays
stay : (M a b D n : ℕ) (s : Spot) (q : ℕ) → Walks M a b D n s → s.u + s.v < n → ShortensX n s q →
    (s.u ≤ s.r) ⊎ (s.d < s.x - q * s.y) →
    Goes M a b D n s (record { u = s.u; v = s.v + q * s.u; x = s.x - q * s.y; y = s.y; r = s.r; d = s.d })
stay M a b D n s q w l t o =
    let i = inside_is M a b D n s w l in
    goes_l M a b D n s q s.r s.d w l t (omega arith) (omega arith) w.d_is w.far
    (omega (arith, i, o, gap_is (min n (s.u + (s.v + q * s.u))) (lowered (placed s) q) s.r, w.d_is))

pub in_batch : (s : Spot) (q i : ℕ) → q * s.y < s.x → MovesX s q i → i ≤ q
in_batch s q i h m =
    ⊎_elim (λ (z : q < i). absurd (omega (arith, mul-le-mul_right s.y z, m.to, m.passed))) (λ z. z) (cases_lt q i)

pub some_move : (s : Spot) (q i : ℕ) → s.d < s.x → MovesX s q i → 1 ≤ i
some_move s q zero h m = absurd (omega (arith, m.from))
some_move s q (suc i) h m = omega arith

moved_to : (M a b D n : ℕ) (s : Spot) (q i : ℕ) → 0 < M → Walks M a b D n s → ShortensX n s q → MovesX s q i →
    distance M a b (s.r + s.v + i * s.u) ≡ s.d - (s.x - i * s.y)
moved_to M a b D n s q i h w t m =
    let e : s.r + s.v + i * s.u ≡ s.r + (s.v + i * s.u) = omega arith in
    let z : i * s.y ≤ q * s.y = mul-le-mul_right s.y (in_batch s q i t.within m) in
    ap (distance M a b) e
    ∙ up_x M a b (s.x - i * s.y) s.y s.u (s.v + i * s.u) s.r h
    (shares_l M a s.x s.y s.u s.v i (omega (arith, t.within)) w.held.shares)
    (omega (arith, m.from, w.d_is))
    ∙ ap (λ d. d - (s.x - i * s.y)) (sym w.d_is)

moves : (M a b D n : ℕ) (s : Spot) (q i : ℕ) → 0 < M → Walks M a b D n s → s.u + s.v < n → ShortensX n s q → MovesX s q i →
    s.r + s.v + i * s.u < n → D ≤ s.d - (s.x - i * s.y) →
    Goes M a b D n s (record { u = s.u; v = s.v + q * s.u; x = s.x - q * s.y; y = s.y; r = s.r + s.v + i * s.u; d = s.d - (s.x - i * s.y) })
moves M a b D n s q i h w l t m o f =
    let p = inside_is M a b D n s w l in
    let j : 1 ≤ i = some_move s q i (omega (arith, p, m.left)) m in
    let z = in_batch s q i t.within m in
    let y : i * s.y ≤ q * s.y = mul-le-mul_right s.y z in
    let u : i * s.u ≤ q * s.u = mul-le-mul_right s.u z in
    let b' : 1 * s.u ≤ i * s.u = mul-le-mul_right s.u j in
    let k = s.r + s.v + i * s.u in
    let e = moved_to M a b D n s q i h w t m in
    goes_l M a b D n s q k (s.d - (s.x - i * s.y)) w l t o (omega (arith, m.left)) (sym e) f
    (omega (arith, e, m.to, m.from, t.within, gap_is (min n (s.u + (s.v + q * s.u))) (lowered (placed s) q) k))

-- it would move past n, so it stays
late : (M a b D n : ℕ) (s : Spot) (q i : ℕ) → Walks M a b D n s → s.u + s.v < n → ShortensX n s q → MovesX s q i →
    n ≤ s.r + s.v + i * s.u →
    Goes M a b D n s (record { u = s.u; v = s.v + q * s.u; x = s.x - q * s.y; y = s.y; r = s.r; d = s.d })
late M a b D n s zero i w l t m o = absurd (omega (arith, t.some))
late M a b D n s (suc p) i w l t m o =
    let j = inside_is M a b D n s w l in
    let few : p * s.u < n - (s.u + s.v) = less_one s.u (n - (s.u + s.v)) p t.few in
    let z = in_batch s (suc p) i t.within m in
    let e : i ≡ suc p =
    ⊎_elim (λ (c : i < suc p). absurd (omega (arith, few, o, m.left, mul-le-mul_right s.u c))) (λ (c : suc p ≤ i). omega arith) (cases_lt i (suc p)) in
    goes_l M a b D n s (suc p) s.r s.d w l t (omega arith) (omega arith) w.d_is w.far
    (omega (
      arith,
      w.d_is,
      m.to,
      m.left,
      o,
      ap (λ n. n * s.u) e,
      ap (λ n. n * s.y) e,
      t.within,
      gap_is (min n (s.u + (s.v + suc p * s.u))) (lowered (placed s) (suc p)) s.r,
    ))

-- the new point is close: k is the least such index, where t steps lead to the configuration for k
hit_at : (M a b D n : ℕ) (s : Spot) (q i t : ℕ) → 0 < M → Walks M a b D n s → ShortensX n s q → MovesX s q i →
    s.r + s.v + i * s.u < n → s.d - (s.x - i * s.y) < D → t * s.y ≤ s.x →
    Towards M a (s.r + s.v + i * s.u) (lowered (placed s) t) →
    s.r + s.v + i * s.u ≤ s.u + (s.v + t * s.u) →
    s.d < gap (s.r + s.v + i * s.u) (lowered (placed s) t) s.r →
    Hits M a b D n (s.r + s.v + i * s.u) (s.d - (s.x - i * s.y)) (record { u = s.u; v = s.v + t * s.u; x = s.x - t * s.y; y = s.y; r = s.r })
hit_at M a b D n s q i t h w c m o f y z e g =
    let k = s.r + s.v + i * s.u in
    let held : Holds M a b k (lowered (placed s) t) s.r =
    record {
      shares = shares_l M a s.x s.y s.u s.v t y w.held.shares;
      enough = e;
      below = omega (arith, w.v_from);
      inside = omega (arith, g, w.d_is);
    } in
    record {
      from = omega (arith, w.v_from);
      below = o;
      value = sym (moved_to M a b D n s q i h w c m);
      close = f;
      least = λ j lt. omega (arith, w.far, w.d_is, nearest M a b k (lowered (placed s) t) s.r h held j lt);
      config = arrive M a k (lowered (placed s) t) z e;
      held = held;
    }

hit_first : (M a b D n : ℕ) (s : Spot) (q t : ℕ) → 0 < M → Walks M a b D n s → ShortensX n s q → MovesX s q (suc t) →
    s.r + s.v + suc t * s.u < n → s.d - (s.x - suc t * s.y) < D → s.r ≡ 0 →
    Hits M a b D n (s.r + s.v + suc t * s.u) (s.d - (s.x - suc t * s.y)) (record { u = s.u; v = s.v + t * s.u; x = s.x - t * s.y; y = s.y; r = s.r })
hit_first M a b D n s q t h w c m o f z =
    let y : suc t * s.y ≤ q * s.y = mul-le-mul_right s.y (in_batch s q (suc t) c.within m) in
    let k = s.r + s.v + suc t * s.u in
    hit_at M a b D n s q (suc t) t h w c m o f (omega (arith, c.within))
    (along_l M a (placed s) w.u_from w.v_from w.beyond t (omega (arith, c.within)) k (omega arith))
    (omega arith)
    (omega (arith, m.to, c.within, w.u_from, gap_is k (lowered (placed s) t) s.r))

hit_later : (M a b D n : ℕ) (s : Spot) (q t : ℕ) → 0 < M → Walks M a b D n s → s.u + s.v < n → ShortensX n s q → MovesX s q t →
    s.r + s.v + t * s.u < n → s.d - (s.x - t * s.y) < D → 0 < s.r →
    Hits M a b D n (s.r + s.v + t * s.u) (s.d - (s.x - t * s.y)) (record { u = s.u; v = s.v + t * s.u; x = s.x - t * s.y; y = s.y; r = s.r })
hit_later M a b D n s q zero h w l c m o f z =
    absurd (omega (arith, m.from, m.left, inside_is M a b D n s w l))
hit_later M a b D n s q (suc t) h w l c m o f z =
    let y : suc t * s.y ≤ q * s.y = mul-le-mul_right s.y (in_batch s q (suc t) c.within m) in
    let k = s.r + s.v + suc t * s.u in
    hit_at M a b D n s q (suc t) (suc t) h w c m o f (omega (arith, c.within))
    (onto_l M a (placed s) w.u_from w.v_from w.beyond t (omega (arith, c.within)) k (omega arith))
    (omega (arith, m.left))
    (omega (arith, m.to, m.left, c.within, gap_is k (lowered (placed s) (suc t)) s.r))

-- ---- the same in the numbers that the code has: what is left of x, and the distance w after the move

pub small_l : (n : ℕ) (s : Spot) (q : ℕ) → ShortensX n s q → q * s.u < n + s.u
small_l n s q t = omega (arith, few_added (n - (s.u + s.v)) s.u q q t.few (omega arith))

pub stays_l : (M a b D n : ℕ) (s : Spot) (q x : ℕ) → Walks M a b D n s → s.u + s.v < n → ShortensX n s q → x ≡ s.x - q * s.y →
    (s.u ≤ s.r) ⊎ (s.d < x) →
    Goes M a b D n s (record { u = s.u; v = s.v + q * s.u; x = x; y = s.y; r = s.r; d = s.d })
stays_l M a b D n s q x w l t e o =
    subst (λ z. Goes M a b D n s (record { u = s.u; v = s.v + q * s.u; x = z; y = s.y; r = s.r; d = s.d })) (sym e)
    (stay M a b D n s q w l t (⊎_elim inl (λ (h : s.d < x). inr (omega arith)) o))

pub moves_l : (s : Spot) (q i w : ℕ) → s.r < s.u → s.x - q * s.y ≤ s.d → w + s.x ≡ s.d + i * s.y → w < s.y → MovesX s q i
moves_l s q i w h p z l = record { left = h; passed = omega arith; from = omega arith; to = omega arith }

pub value_l : (n : ℕ) (s : Spot) (q i w : ℕ) → ShortensX n s q → MovesX s q i → w + s.x ≡ s.d + i * s.y → w ≡ s.d - (s.x - i * s.y)
value_l n s q i w t m z =
    omega (arith, mul-le-mul_right s.y (in_batch s q i t.within m), t.within)

pub small_move_l : (n : ℕ) (s : Spot) (q i : ℕ) → ShortensX n s q → MovesX s q i → (i * s.u < n + s.u) × (i * s.y ≤ s.x)
small_move_l n s q i t m =
    let z = in_batch s q i t.within m in
    (omega (arith, mul-le-mul_right s.u z, small_l n s q t), omega (arith, mul-le-mul_right s.y z, t.within))

pub late_l : (M a b D n : ℕ) (s : Spot) (q i x : ℕ) → Walks M a b D n s → s.u + s.v < n → ShortensX n s q → MovesX s q i → x ≡ s.x - q * s.y →
    n ≤ s.r + s.v + i * s.u →
    Goes M a b D n s (record { u = s.u; v = s.v + q * s.u; x = x; y = s.y; r = s.r; d = s.d })
late_l M a b D n s q i x w l t m e o =
    subst (λ z. Goes M a b D n s (record { u = s.u; v = s.v + q * s.u; x = z; y = s.y; r = s.r; d = s.d })) (sym e)
    (late M a b D n s q i w l t m o)

pub moved_l : (M a b D n : ℕ) (s : Spot) (q i x w : ℕ) → 0 < M → Walks M a b D n s → s.u + s.v < n → ShortensX n s q → MovesX s q i → x ≡ s.x - q * s.y →
    w + s.x ≡ s.d + i * s.y → s.r + s.v + i * s.u < n → D ≤ w →
    Goes M a b D n s (record { u = s.u; v = s.v + q * s.u; x = x; y = s.y; r = s.r + s.v + i * s.u; d = w })
moved_l M a b D n s q i x w h k l t m e z o f =
    let v = value_l n s q i w t m z in
    subst₂ (λ p d. Goes M a b D n s (record { u = s.u; v = s.v + q * s.u; x = p; y = s.y; r = s.r + s.v + i * s.u; d = d })) (sym e) (sym v)
    (moves M a b D n s q i h k l t m o (omega (arith, v)))

pub hits_l : (M a b D n : ℕ) (s : Spot) (q i t w : ℕ) → 0 < M → Walks M a b D n s → s.u + s.v < n → ShortensX n s q → MovesX s q i →
    w + s.x ≡ s.d + i * s.y → s.r + s.v + i * s.u < n → w < D → 1 ≤ i →
    ((s.r ≡ 0) × (t ≡ i - 1)) ⊎ ((0 < s.r) × (t ≡ i)) →
    Hits M a b D n (s.r + s.v + i * s.u) w (shorter_x s t)
hits_l M a b D n s q i t w h k l c m z o f j e =
    let v = value_l n s q i w c m z in
    subst (λ d. Hits M a b D n (s.r + s.v + i * s.u) d (shorter_x s t)) (sym v)
    (⊎_elim
    (λ (p : (s.r ≡ 0) × (t ≡ i - 1)).
    let q' : suc t ≡ i = omega arith in
    subst (λ j. Hits M a b D n (s.r + s.v + j * s.u) (s.d - (s.x - j * s.y)) (shorter_x s t)) q'
    (hit_first M a b D n s q t h k c (subst (MovesX s q) (sym q') m) (subst (λ j. s.r + s.v + j * s.u < n) (sym q') o)
    (subst (λ j. s.d - (s.x - j * s.y) < D) (sym q') (omega (arith, v))) p.0))
    (λ (p : (0 < s.r) × (t ≡ i)).
    subst (λ j. Hits M a b D n (s.r + s.v + i * s.u) (s.d - (s.x - i * s.y)) (shorter_x s j)) (sym p.1)
    (hit_later M a b D n s q i h k l c m o (omega (arith, v)) p.0))
    e)

-- a hit in the numbers that were answered
pub told : {M a b D n k w W : ℕ} {e E : Evidence} → Hits M a b D n k w e → W ≡ w → E ≡ e → Hits M a b D n k W E
told {M} {a} {b} {D} {n} {k} h p q = subst₂ (λ d f. Hits M a b D n k d f) (sym p) (sym q) h
