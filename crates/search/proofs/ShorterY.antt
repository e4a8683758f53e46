-- A batch of steps with x ≤ y, which shorten y.
use Rattle.std.proofs.Common.{◌≡◌, ℕ, zero, suc, ◌+◌, ◌-◌, ◌*◌, ◌/◌, ◌<◌, ◌≤◌, min, ◌⊎◌, sym, refl, ap, ◌∙◌, subst, subst₂, inl, inr, ⊎_elim, mul-le-mul_right, div-mul-le_self, add-one, arith}
use native.Mathlib.Nat.{lt-div-mul-add}
use Rattle.std.proofs.lemmas.Bool.{cases_lt}
use Rattle.std.proofs.Math.Nat.{le-mul_of_pos_right}
use Rattle.search.proofs.Batching.{less_one}
use Rattle.search.proofs.Distances.{distance_is, distance_at}
use Rattle.search.proofs.Sound.{gap_is, nearest}
use Rattle.search.proofs.ShorterX.{inside_is}
use Rattle.search.proofs.Reach.{arrive, raised, along_r, onto_r, shares_r}
use Rattle.search.specs.Points.{distance}
use Rattle.search.specs.Configurations.{gap}
use Rattle.search.specs.Walk.{ShortensY, MovesY, ClosesY, Spot, Shares, Holds, Towards, Walks, Hits, HitsOn, Goes, placed, shorter_y}
use Rattle.search.specs.declared.place.Hit.{Hit}
use Rattle.search.specs.declared.stretch.Stretch.{Stretch}

-- t times v indices on, a point lies t·x higher
pub up_many : (M a b x y u v r t : ℕ) → 0 < M → Shares M a x y u v → t * x ≤ distance M a b r → distance M a b (r + t * v) ≡ distance M a b r - t * x
up_many M a b x y u v r t h s l =
    let d = distance_is M a b r h in
    distance_at M a b (r + t * v) (distance M a b r - t * x) (omega (arith, d.0))
    (record { i = d.1.i + t * s.x_is.j; j = d.1.j + t * s.x_is.i; is = omega (arith, d.1.is, ap (λ n. t * n) s.x_is.is) })

pub goes_r : (M a b D n : ℕ) (s : Spot) (q r d : ℕ) → Walks M a b D n s → s.u + s.v < n → ShortensY n s q →
    r < n → r < s.u + q * s.v + s.v → d ≡ distance M a b r → D ≤ d →
    distance M a b r < gap (min n (s.u + q * s.v + s.v)) (raised (placed s) q) r →
    Goes M a b D n s (record { u = s.u + q * s.v; v = s.v; x = s.x; y = s.y - q * s.x; r = r; d = d })
goes_r M a b D n s zero r d w l t e f g z i = absurd (omega (arith, t.some))
goes_r M a b D n s (suc p) r d w l t e f g z i =
    let m : p * s.v < n - (s.u + s.v) = less_one s.v (n - (s.u + s.v)) p t.few in
    record {
      walks = record {
        u_from = omega (arith, w.u_from);
        u_to = omega arith;
        v_from = w.v_from;
        v_to = w.v_to;
        x_to = w.x_to;
        y_to = omega (arith, w.y_to);
        held = record {
          shares = shares_r M a s.x s.y s.u s.v (suc p) t.within w.held.shares;
          enough = omega arith;
          below = omega arith;
          inside = i;
        };
        d_is = g;
        far = z;
        to_n = onto_r M a (placed s) w.u_from w.v_from w.beyond p t.within n (omega arith);
        beyond = λ k o. along_r M a (placed s) w.u_from w.v_from w.beyond (suc p) t.within k o;
      };
      more = omega (arith, w.v_from);
    }

stay : (M a b D n : ℕ) (s : Spot) (q : ℕ) → Walks M a b D n s → s.u + s.v < n → ShortensY n s q → s.r < s.u →
    Goes M a b D n s (record { u = s.u + q * s.v; v = s.v; x = s.x; y = s.y - q * s.x; r = s.r; d = s.d })
stay M a b D n s q w l t o =
    let i = inside_is M a b D n s w l in
    goes_r M a b D n s q s.r s.d w l t (omega arith) (omega arith) w.d_is w.far
    (omega (arith, i, o, gap_is (min n (s.u + q * s.v + s.v)) (raised (placed s) q) s.r, w.d_is))

in_room : (n : ℕ) (s : Spot) (q t : ℕ) → s.r < n → MovesY n s q t → s.r + t * s.v < n
in_room n s q t h m =
    omega (arith, mul-le-mul_right s.v m.room, div-mul-le_self (n - 1 - s.r) s.v)

-- the gap after the last move, as numbers: p is q − 1
last_gap : (n u v x y r d p t g m : ℕ) → u ≤ r → r < u + v → u + v < n → d < y → u + v + p * v < n → suc p * x ≤ y → t ≤ suc p → t * x ≤ d →
    (t ≡ suc p) ⊎ ((n ≤ r + t * v + v) ⊎ (d < t * x + x)) →
    m ≡ min n (u + suc p * v + v) →
    ((r + t * v + v < m) × (g ≡ x)) ⊎ (((m ≤ r + t * v + v) × (u + suc p * v ≤ r + t * v) × (g ≡ y - suc p * x)) ⊎ ((m ≤ r + t * v + v) × (r + t * v < u + suc p * v) × (g ≡ x + (y - suc p * x)))) →
    d - t * x < g
last_gap n u v x y r d p t g m h1 h2 h3 h4 h5 h6 h7 h8 full e gs =
    ⊎_elim
    (λ (z : t < p).
    let tv = mul-le-mul_right v z in
    omega arith)
    (λ (z : p ≤ t).
    ⊎_elim
    (λ (c : t < suc p).
    let i : t ≡ p = omega arith in
    let tv = ap (λ n. n * v) i in
    let tx = ap (λ n. n * x) i in
    omega arith)
    (λ (c : suc p ≤ t).
    let i : t ≡ suc p = omega arith in
    let tv = ap (λ n. n * v) i in
    let tx = ap (λ n. n * x) i in
    omega arith)
    (cases_lt t (suc p)))
    (cases_lt t p)

full_of : (n : ℕ) (s : Spot) (q t : ℕ) → 1 ≤ s.v → s.r < n → MovesY n s q t → (t ≡ q) ⊎ ((n ≤ s.r + t * s.v + s.v) ⊎ (s.d < t * s.x + s.x))
full_of n s q t h l m =
    ⊎_elim (λ e. inl e)
    (λ o. inr (⊎_elim (λ (e : t ≡ (n - 1 - s.r) / s.v). inl (omega (arith, ap (λ k. k * s.v) e, lt-div-mul-add {a = n - 1 - s.r} h))) (λ e. inr e) o))
    m.full

move : (M a b D n : ℕ) (s : Spot) (q t : ℕ) → 0 < M → Walks M a b D n s → s.u + s.v < n → ShortensY n s q → MovesY n s q t →
    D ≤ s.d - t * s.x →
    Goes M a b D n s (record { u = s.u + q * s.v; v = s.v; x = s.x; y = s.y - q * s.x; r = s.r + t * s.v; d = s.d - t * s.x })
move M a b D n s zero t h w l c m f = absurd (omega (arith, c.some))
move M a b D n s (suc p) t h w l c m f =
    let i = inside_is M a b D n s w l in
    let few : p * s.v < n - (s.u + s.v) = less_one s.v (n - (s.u + s.v)) p c.few in
    let tv : t * s.v ≤ suc p * s.v = mul-le-mul_right s.v m.few in
    let e = up_many M a b s.x s.y s.u s.v s.r t h w.held.shares (omega (arith, m.within, w.d_is)) in
    let N = min n (s.u + suc p * s.v + s.v) in
    let g = gap_is N (raised (placed s) (suc p)) (s.r + t * s.v) in
    let z = last_gap n s.u s.v s.x s.y s.r s.d p t (gap N (raised (placed s) (suc p)) (s.r + t * s.v)) N
    m.right i.1 l (omega (arith, i, m.right)) (omega arith) c.within m.few m.within (full_of n s (suc p) t w.v_from (omega arith) m) refl g in
    goes_r M a b D n s (suc p) (s.r + t * s.v) (s.d - t * s.x) w l c (in_room n s (suc p) t (omega arith) m) (omega arith)
    (ap (λ d. d - t * s.x) w.d_is ∙ sym e) f
    (omega (arith, z, e, w.d_is))

-- a move on the way is close: the g-th one before is not, and i steps lead to the configuration for k
hit_at : (M a b D n : ℕ) (s : Spot) (g i : ℕ) → 0 < M → Walks M a b D n s →
    suc g * s.x ≤ s.d → s.r + suc g * s.v < n → s.d - suc g * s.x < D → D ≤ s.d - g * s.x → i * s.x ≤ s.y →
    Towards M a (s.r + suc g * s.v) (raised (placed s) i) →
    s.r + suc g * s.v ≤ s.u + i * s.v + s.v →
    s.d - g * s.x < gap (s.r + suc g * s.v) (raised (placed s) i) (s.r + g * s.v) →
    Hits M a b D n (s.r + suc g * s.v) (s.d - suc g * s.x) (record { u = s.u + i * s.v; v = s.v; x = s.x; y = s.y - i * s.x; r = s.r + g * s.v })
hit_at M a b D n s g i h w hx o f far y z e gp =
    let k = s.r + suc g * s.v in
    let up = up_many M a b s.x s.y s.u s.v s.r (suc g) h w.held.shares (omega (arith, w.d_is)) in
    let at = up_many M a b s.x s.y s.u s.v s.r g h w.held.shares (omega (arith, w.d_is)) in
    let held : Holds M a b k (raised (placed s) i) (s.r + g * s.v) =
    record {
      shares = shares_r M a s.x s.y s.u s.v i y w.held.shares;
      enough = e;
      below = omega (arith, w.v_from);
      inside = omega (arith, gp, at, w.d_is);
    } in
    record {
      from = omega (arith, w.v_from);
      below = o;
      value = ap (λ d. d - suc g * s.x) w.d_is ∙ sym up;
      close = f;
      least = λ j lt. omega (arith, far, at, w.d_is, nearest M a b k (raised (placed s) i) (s.r + g * s.v) h held j lt);
      config = arrive M a k (raised (placed s) i) z e;
      held = held;
    }

in_moves : (D : ℕ) (s : Spot) (t g : ℕ) → t * s.x ≤ s.d → ClosesY D s t g → suc g ≤ t
in_moves D s t g h c =
    ⊎_elim (λ (z : g < t). z) (λ (z : t ≤ g). absurd (omega (arith, mul-le-mul_right s.x z, c.not_yet, c.met))) (cases_lt g t)

hit_first : (M a b D n : ℕ) (s : Spot) (q t g : ℕ) → 0 < M → Walks M a b D n s → s.u + s.v < n → ShortensY n s q → MovesY n s q t → ClosesY D s t g →
    s.r ≡ s.u →
    Hits M a b D n (s.r + suc g * s.v) (s.d - suc g * s.x) (record { u = s.u + g * s.v; v = s.v; x = s.x; y = s.y - g * s.x; r = s.r + g * s.v })
hit_first M a b D n s q t g h w l c m o e =
    let i = inside_is M a b D n s w l in
    let z = in_moves D s t g m.within o in
    let gv : suc g * s.v ≤ t * s.v = mul-le-mul_right s.v z in
    let gx : suc g * s.x ≤ t * s.x = mul-le-mul_right s.x z in
    let k = s.r + suc g * s.v in
    hit_at M a b D n s g g h w (omega (arith, m.within)) (omega (arith, in_room n s q t (omega arith) m)) (omega (arith, o.now_is, m.within)) (omega (arith, o.not_yet))
    (omega (arith, i, m.within))
    (along_r M a (placed s) w.u_from w.v_from w.beyond g (omega (arith, i, m.within)) k (omega arith))
    (omega arith)
    (omega (arith, i, m.within, gap_is k (raised (placed s) g) (s.r + g * s.v)))

hit_later : (M a b D n : ℕ) (s : Spot) (q t g : ℕ) → 0 < M → Walks M a b D n s → s.u + s.v < n → ShortensY n s q → MovesY n s q t → ClosesY D s t g →
    s.u < s.r →
    Hits M a b D n (s.r + suc g * s.v) (s.d - suc g * s.x) (record { u = s.u + suc g * s.v; v = s.v; x = s.x; y = s.y - suc g * s.x; r = s.r + g * s.v })
hit_later M a b D n s q t g h w l c m o e =
    let i = inside_is M a b D n s w l in
    let z = in_moves D s t g m.within o in
    let gv : suc g * s.v ≤ t * s.v = mul-le-mul_right s.v z in
    let gx : suc g * s.x ≤ t * s.x = mul-le-mul_right s.x z in
    let k = s.r + suc g * s.v in
    hit_at M a b D n s g (suc g) h w (omega (arith, m.within)) (omega (arith, in_room n s q t (omega arith) m)) (omega (arith, o.now_is, m.within)) (omega (arith, o.not_yet))
    (omega (arith, i, m.within, m.right))
    (onto_r M a (placed s) w.u_from w.v_from w.beyond g (omega (arith, i, m.within, m.right)) k (omega arith))
    (omega arith)
    (omega (arith, i, m.within, gap_is k (raised (placed s) (suc g)) (s.r + g * s.v)))

-- ---- the same in the numbers that the code has: what is left of y, and the distance w after the moves

pub stays_r : (M a b D n : ℕ) (s : Spot) (q y : ℕ) → Walks M a b D n s → s.u + s.v < n → ShortensY n s q → y ≡ s.y - q * s.x → s.r < s.u →
    Goes M a b D n s (record { u = s.u + q * s.v; v = s.v; x = s.x; y = y; r = s.r; d = s.d })
stays_r M a b D n s q y w l t e o =
    subst (λ z. Goes M a b D n s (record { u = s.u + q * s.v; v = s.v; x = s.x; y = z; r = s.r; d = s.d })) (sym e)
    (stay M a b D n s q w l t o)

pub moved_r : (M a b D n : ℕ) (s : Spot) (q t y w : ℕ) → 0 < M → Walks M a b D n s → s.u + s.v < n → ShortensY n s q → MovesY n s q t →
    y ≡ s.y - q * s.x → w ≡ s.d - t * s.x → D ≤ w →
    Goes M a b D n s (record { u = s.u + q * s.v; v = s.v; x = s.x; y = y; r = s.r + t * s.v; d = w })
moved_r M a b D n s q t y w h k l c m e f z =
    subst₂ (λ p d. Goes M a b D n s (record { u = s.u + q * s.v; v = s.v; x = s.x; y = p; r = s.r + t * s.v; d = d })) (sym e) (sym f)
    (move M a b D n s q t h k l c m (omega arith))

-- the numbers of a hit stay small
pub near_r : (M a b D n : ℕ) (s : Spot) (q t g : ℕ) → Walks M a b D n s → s.u + s.v < n → MovesY n s q t → ClosesY D s t g →
    (g < n) × (s.r + (g + 1) * s.v < n) × ((g + 1) * s.x ≤ s.d) × (s.d ≤ s.y)
near_r M a b D n s q t g w l m o =
    let i = inside_is M a b D n s w l in
    let z = in_moves D s t g m.within o in
    let r = in_room n s q t (omega arith) m in (
      omega (arith, mul-le-mul_right s.v z, r, le-mul_of_pos_right g w.v_from),
      omega (arith, mul-le-mul_right s.v z, r),
      omega (arith, mul-le-mul_right s.x z, m.within),
      omega (arith, i, m.right),
    )

pub hits_r : (M a b D n : ℕ) (s : Spot) (q t g i : ℕ) → 0 < M → Walks M a b D n s → s.u + s.v < n → ShortensY n s q → MovesY n s q t → ClosesY D s t g →
    ((s.r ≡ s.u) × (i ≡ g)) ⊎ ((s.u < s.r) × (i ≡ g + 1)) →
    Hits M a b D n (s.r + (g + 1) * s.v) (s.d - (g + 1) * s.x) (shorter_y s i (s.r + g * s.v))
hits_r M a b D n s q t g i h w l c m o z =
    let step = sym (add-one g) in
    ⊎_elim
    (λ (e : (s.r ≡ s.u) × (i ≡ g)).
    subst₂ (λ k j. Hits M a b D n (s.r + k * s.v) (s.d - k * s.x) (shorter_y s j (s.r + g * s.v))) step (sym e.1)
    (hit_first M a b D n s q t g h w l c m o e.0))
    (λ (e : (s.u < s.r) × (i ≡ g + 1)).
    subst₂ (λ k j. Hits M a b D n (s.r + k * s.v) (s.d - k * s.x) (shorter_y s j (s.r + g * s.v))) step (step ∙ sym e.1)
    (hit_later M a b D n s q t g h w l c m o e.0))
    z

-- a hit that was answered
pub hit_told : (t : Stretch) {h k : Hit} → HitsOn t k → h ≡ k → HitsOn t h
hit_told t w e = subst (HitsOn t) (sym e) w
