-- The configuration for n shares out the circle, and some r below n has b in its gap.
use Rattle.std.proofs.Common.{◌≡◌, ℕ, zero, suc, ◌+◌, ◌-◌, ◌*◌, ◌<◌, ◌≤◌, Bool, true, false, ltb, leb, refl, ap, subst, ⊎_elim, below_more, arith}
use Rattle.std.proofs.lemmas.Bool.{cases_lt, ltb-true, ltb-false, leb-true, leb-false}
use Rattle.search.proofs.Distances.{distance_is, distance_at}
use Rattle.search.proofs.Sound.{gap_is}
use Rattle.search.specs.Walk.{Shares, Holds}
use Rattle.search.specs.Points.{distance}
use Rattle.search.specs.Configurations.{Config, start, next, first_from, config_for, gap}

-- an index of least value, the first or the last such
abbrev pub First : (f : ℕ → ℕ) (n : ℕ) → Type 0
First f n = (r : ℕ) × (r < n) × ((k : ℕ) → k < n → f r ≤ f k) × ((k : ℕ) → k < r → f r < f k)

abbrev pub Last : (f : ℕ → ℕ) (n : ℕ) → Type 0
Last f n = (r : ℕ) × (r < n) × ((k : ℕ) → k < n → f r ≤ f k) × ((k : ℕ) → k < n → r < k → f r < f k)

-- std's `below_more` for the next number as suc n
pub below_suc : {P : ℕ → Type 0} (n : ℕ) → ((k : ℕ) → k < n → P k) → P n → (k : ℕ) → k < suc n → P k
below_suc {P} n f g k l = below_more P n f g k (omega arith)

pub first : (f : ℕ → ℕ) (n : ℕ) → First f (suc n)
first f zero = (0, omega arith, λ k l. subst (λ m. f 0 ≤ f m) (zero_is k l) (omega arith), λ k l. absurd (omega arith))
  where
    zero_is : (k : ℕ) → k < 1 → 0 ≡ k
    zero_is k l = omega arith
first f (suc n) =
    let (r, l, p, q) = first f n in
    ⊎_elim
    (λ (lt : f (suc n) < f r). (
      suc n,
      omega arith,
      below_suc {P = λ k. f (suc n) ≤ f k} (suc n) (λ k m. omega (arith, p k m)) (omega arith),
      λ k m. omega (arith, p k m),
    ))
    (λ (le : f r ≤ f (suc n)).
    (r, omega arith, below_suc {P = λ k. f r ≤ f k} (suc n) p le, q))
    (cases_lt (f (suc n)) (f r))

pub last : (f : ℕ → ℕ) (n : ℕ) → Last f (suc n)
last f zero = (0, omega arith, λ k l. subst (λ m. f 0 ≤ f m) (zero_is k l) (omega arith), λ k l z. absurd (omega arith))
  where
    zero_is : (k : ℕ) → k < 1 → 0 ≡ k
    zero_is k l = omega arith
last f (suc n) =
    let (r, l, p, q) = last f n in
    ⊎_elim
    (λ (lt : f r < f (suc n)). (
      r,
      omega arith,
      below_suc {P = λ k. f r ≤ f k} (suc n) p (omega arith),
      below_suc {P = λ k. r < k → f r < f k} (suc n) q (λ z. lt),
    ))
    (λ (le : f (suc n) ≤ f r). (
      suc n,
      omega arith,
      below_suc {P = λ k. f (suc n) ≤ f k} (suc n) (λ k m. omega (arith, p k m)) (omega arith),
      λ k m z. absurd (omega arith),
    ))
    (cases_lt (f r) (f (suc n)))

-- v indices on, a point lies x higher
pub up_x : (M a b x y u v r : ℕ) → 0 < M → Shares M a x y u v → x ≤ distance M a b r → distance M a b (r + v) ≡ distance M a b r - x
up_x M a b x y u v r h s l =
    let d = distance_is M a b r h in
    distance_at M a b (r + v) (distance M a b r - x) (omega (arith, d.0))
    (record { i = d.1.i + s.x_is.j; j = d.1.j + s.x_is.i; is = omega (arith, d.1.is, s.x_is.is) })

-- u indices back, a point lies y higher
pub up_y : (M a b x y u v r k : ℕ) → 0 < M → Shares M a x y u v → r ≡ k + u → y ≤ distance M a b r → distance M a b k ≡ distance M a b r - y
up_y M a b x y u v r k h s e l =
    let d = distance_is M a b r h in
    distance_at M a b k (distance M a b r - y) (omega (arith, d.0))
    (record { i = d.1.i + s.y_is.j; j = d.1.j + s.y_is.i; is = omega (arith, d.1.is, s.y_is.is, ap (λ n. n * a) e) })

pub record Fine (M a n : ℕ) (c : Config) : Type 0 where
  pub shares : Shares M a c.x c.y c.u c.v
  pub u_from : 1 ≤ c.u
  pub u_to : c.u ≤ n
  pub v_from : 1 ≤ c.v
  pub v_to : c.v ≤ n

held_first : (M a b n : ℕ) (c : Config) → 0 < M → Fine M a n c → n ≤ c.u + c.v → 0 < c.x → (r : First (distance M a b) n) → distance M a b r.0 < gap n c r.0
held_first M a b n c h s e z (r, l, p, q) =
    let w = distance M a b r in
    ⊎_elim (λ lt. lt)
    (λ (ge : gap n c r ≤ w).
    absurd (⊎_elim
    (λ g. omega (arith, z, g, up_x M a b c.x c.y c.u c.v r h s.shares (omega (arith, g)), p (r + c.v) g.0))
    (λ o. ⊎_elim
    (λ g. omega (
      arith,
      s.u_from,
      g,
      up_y M a b c.x c.y c.u c.v r (r - c.u) h s.shares (omega (arith, g)) (omega (arith, g)),
      q (r - c.u) (omega (arith, s.u_from, g)),
    ))
    (λ g.
    let m = up_x M a b c.x c.y c.u c.v r h s.shares (omega (arith, g)) in
    omega (
      arith,
      z,
      g,
      m,
      up_y M a b c.x c.y c.u c.v (r + c.v) (r + c.v - c.u) h s.shares (omega (arith, g, s.u_to)) (omega (arith, g, m)),
      p (r + c.v - c.u) (omega (arith, g, s.v_to, s.u_to, s.v_from)),
    ))
    o)
    (gap_is n c r)))
    (cases_lt w (gap n c r))

held_last : (M a b n : ℕ) (c : Config) → 0 < M → Fine M a n c → n ≤ c.u + c.v → c.x ≡ 0 → (r : Last (distance M a b) n) → distance M a b r.0 < gap n c r.0
held_last M a b n c h s e z (r, l, p, q) =
    let w = distance M a b r in
    ⊎_elim (λ lt. lt)
    (λ (ge : gap n c r ≤ w).
    absurd (⊎_elim
    (λ g. omega (arith, z, g, up_x M a b c.x c.y c.u c.v r h s.shares (omega (arith, g)), q (r + c.v) g.0 (omega (arith, s.v_from))))
    (λ o. ⊎_elim
    (λ g. omega (
      arith,
      g,
      some_y,
      up_y M a b c.x c.y c.u c.v r (r - c.u) h s.shares (omega (arith, g)) (omega (arith, g)),
      p (r - c.u) (omega (arith, g, l)),
    ))
    (λ g.
    let m = up_x M a b c.x c.y c.u c.v r h s.shares (omega (arith, g)) in
    omega (
      arith,
      z,
      g,
      m,
      some_y,
      up_y M a b c.x c.y c.u c.v (r + c.v) (r + c.v - c.u) h s.shares (omega (arith, g, s.u_to)) (omega (arith, g, m)),
      p (r + c.v - c.u) (omega (arith, g, s.v_to, s.u_to, s.v_from)),
    ))
    o)
    (gap_is n c r)))
    (cases_lt w (gap n c r))
  where
    none_left : (y : ℕ) → c.u * c.x + c.v * y ≡ M → 0 < y
    none_left zero f = omega (arith, ap (λ n. c.u * n) z)
    none_left (suc y) f = omega arith

    some_y : 0 < c.y
    some_y = none_left c.y s.shares.whole

pub held : (M a b n : ℕ) (c : Config) → 0 < M → 0 < n → Fine M a n c → n ≤ c.u + c.v → (r : ℕ) × Holds M a b n c r
held M a b zero c h z s e = absurd (omega arith)
held M a b (suc n) c h z s e =
    ⊎_elim
    (λ (l : 0 < c.x).
    let f = first (distance M a b) n in
    (f.0, record { shares = s.shares; enough = e; below = f.1; inside = held_first M a b (suc n) c h s e l f }))
    (λ (l : c.x ≤ 0).
    let f = last (distance M a b) n in
    (f.0, record { shares = s.shares; enough = e; below = f.1; inside = held_last M a b (suc n) c h s e (omega arith) f }))
    (cases_lt 0 c.x)

-- the two ways of a step
pub by_next : (P : Config → Type 0) (c : Config) →
    (c.y < c.x → P (record { x = c.x - c.y; y = c.y; u = c.u; v = c.u + c.v })) →
    (c.x ≤ c.y → P (record { x = c.x; y = c.y - c.x; u = c.u + c.v; v = c.v })) →
    P (next c)
by_next P c f g = go (ltb c.y c.x) refl
  where
    go : (t : Bool) → ltb c.y c.x ≡ t → P (elim t [ true ↦ record { x = c.x - c.y; y = c.y; u = c.u; v = c.u + c.v } | false ↦ record { x = c.x; y = c.y - c.x; u = c.u + c.v; v = c.v } ])
    go true e = f (ltb-true c.y c.x e)
    go false e = g (ltb-false c.y c.x e)

pub fine_start : (M a n : ℕ) → a ≤ M → 1 ≤ n → Fine M a n (start M a)
fine_start M a n l h =
    record {
      shares = record { x_is = record { i = 0; j = 0; is = omega arith }; y_is = record { i = 0; j = 1; is = omega arith }; whole = omega arith };
      u_from = omega arith;
      u_to = h;
      v_from = omega arith;
      v_to = h;
    }

pub fine_next : (M a n : ℕ) (c : Config) → Fine M a n c → c.u + c.v < n → Fine M a n (next c)
fine_next M a n c s l =
    by_next (Fine M a n) c
    (λ d.
    let m : (c.x - c.y) + c.y ≡ c.x = omega arith in
    record {
      shares = record {
        x_is = record {
          i = s.shares.x_is.i + s.shares.y_is.j;
          j = s.shares.x_is.j + s.shares.y_is.i;
          is = omega (arith, s.shares.x_is.is, s.shares.y_is.is);
        };
        y_is = s.shares.y_is;
        whole = omega (arith, s.shares.whole, ap (λ n. c.u * n) m);
      };
      u_from = s.u_from;
      u_to = s.u_to;
      v_from = omega (arith, s.v_from);
      v_to = omega arith;
    })
    (λ d.
    let m : (c.y - c.x) + c.x ≡ c.y = omega arith in
    record {
      shares = record {
        x_is = s.shares.x_is;
        y_is = record {
          i = s.shares.y_is.i + s.shares.x_is.j;
          j = s.shares.y_is.j + s.shares.x_is.i;
          is = omega (arith, s.shares.x_is.is, s.shares.y_is.is);
        };
        whole = omega (arith, s.shares.whole, ap (λ n. c.v * n) m);
      };
      u_from = omega (arith, s.u_from);
      u_to = omega arith;
      v_from = s.v_from;
      v_to = s.v_to;
    })

-- a step raises u + v
pub next_more : (c : Config) → 1 ≤ c.u → 1 ≤ c.v → c.u + c.v < (next c).u + (next c).v
next_more c h l = by_next (λ d. c.u + c.v < d.u + d.v) c (λ _. omega arith) (λ _. omega arith)

-- the two ways of a test n ≤ m
pub by_leb : (m n : ℕ) (P : Config → Type 0) (c d : Config) → (m ≤ n → P c) → (n < m → P d) → P (elim (leb m n) [ true ↦ c | false ↦ d ])
by_leb m n P c d f g = go (leb m n) refl
  where
    go : (t : Bool) → leb m n ≡ t → P (elim t [ true ↦ c | false ↦ d ])
    go true e = f (leb-true m n e)
    go false e = g (leb-false m n e)

pub record Enough (M a n : ℕ) (c : Config) : Type 0 where
  pub fine : Fine M a n c
  pub enough : n ≤ c.u + c.v

pub fine_from : (M a n f : ℕ) (c : Config) → Fine M a n c → n ≤ c.u + c.v + f → Enough M a n (first_from f n c)
fine_from M a n zero c s l = record { fine = s; enough = omega arith }
fine_from M a n (suc f) c s l =
    by_leb n (c.u + c.v) (Enough M a n) c (first_from f n (next c))
    (λ e. record { fine = s; enough = e })
    (λ e. fine_from M a n f (next c) (fine_next M a n c s e) (omega (arith, next_more c s.u_from s.v_from)))

pub fine_for : (M a n : ℕ) → a ≤ M → 1 ≤ n → Enough M a n (config_for M a n)
fine_for M a n l h = fine_from M a n n (start M a) (fine_start M a n l h) (omega arith)
