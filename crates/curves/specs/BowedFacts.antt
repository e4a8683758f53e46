-- The facts of a bowed curve.
-- Proofs only: the law of its impl rests on them, and a law may cite nothing of its crate but specs/.
use Rattle.std.specs.Prelude.{◌≡◌, ℕ, suc, ◌+◌, ◌-◌, ◌*◌, ◌^◌, ◌<◌, ◌≤◌, ℤ, pos, negsuc, ◌+ℤ◌, ◌-ℤ◌, ◌*ℤ◌, neg_ℤ, unsigned_abs, refl}
use Rattle.std.proofs.Common.{ap, ◌∙◌, add_assoc, mul-add, mul-le-mul_left, arith}
use Rattle.std.proofs.Math.Nat.{mod-le}
use borrow.Author.Differences.{up, down}
use Rattle.std.proofs.lemmas.Int.{ints}
use Rattle.grid.specs.Residue.{residue}
use Rattle.grid.proofs.Congruence.{residue_below}
use Rattle.curves.specs.Meaning.{Facts}
use Rattle.curves.specs.Kinds.{pairs, bow, widest, bowed_value, bowed_meaning}
use Rattle.curves.specs.Residues.{Alike, residue_alike, alike_residues, residue_at_most}
use Rattle.curves.specs.Bows.{pairs_add, pairs_rise, widest_within, widest_some, widest_most}

-- ---- what is left of the value at s + j where the line through s is taken away: the bend c2·j(j − 1)/2

-- a value, read over the natural numbers
value_balance : (M n w i k x y : ℕ) (c1 c2 : ℤ) → pos w +ℤ pos (i * M) ≡ ((pos n +ℤ (c1 *ℤ pos x)) +ℤ (c2 *ℤ pos y)) +ℤ pos (k * M) →
    w + i * M + down c1 * x + down c2 * y ≡ n + up c1 * x + up c2 * y + k * M
value_balance M n w i k x y c1 c2 e = omega (arith, ints)

-- the slope, read so
slope_balance : (M a i k s : ℕ) (c1 c2 : ℤ) → pos a +ℤ pos (i * M) ≡ neg_ℤ (c1 +ℤ (c2 *ℤ pos s)) +ℤ pos (k * M) →
    a + i * M + up c1 + up c2 * s ≡ k * M + down c1 + down c2 * s
slope_balance M a i k s c1 c2 e = omega (arith, ints)

-- the difference of the values w at s + j and z at s, where P and Q are the pairs among s + j and s things, and P = Q + S
difference_balance : (M n w z s j P Q S u1 d1 u2 d2 wi wk zi zk : ℕ) →
    P ≡ Q + S →
    w + wi * M + d1 * (s + j) + d2 * P ≡ n + u1 * (s + j) + u2 * P + wk * M →
    z + zi * M + d1 * s + d2 * Q ≡ n + u1 * s + u2 * Q + zk * M →
    w + wi * M + zk * M + d1 * j + d2 * S ≡ z + zi * M + wk * M + u1 * j + u2 * S
difference_balance M n w z s j P Q S u1 d1 u2 d2 wi wk zi zk split one two =
    let up_split : u2 * P ≡ u2 * Q + u2 * S = ap (λ x. u2 * x) split ∙ mul-add u2 Q S in
    let down_split : d2 * P ≡ d2 * Q + d2 * S = ap (λ x. d2 * x) split ∙ mul-add d2 Q S in
    let up_steps : u1 * (s + j) ≡ u1 * s + u1 * j = mul-add u1 s j in
    let down_steps : d1 * (s + j) ≡ d1 * s + d1 * j = mul-add d1 s j in
    omega arith

-- the line's part is taken away, where S = s·j + R and R is the pairs among j things
bend_balance : (M w z a s j S R u1 d1 u2 d2 wi wk zi zk ai ak : ℕ) →
    S ≡ s * j + R →
    w + wi * M + zk * M + d1 * j + d2 * S ≡ z + zi * M + wk * M + u1 * j + u2 * S →
    a + ai * M + u1 + u2 * s ≡ ak * M + d1 + d2 * s →
    w + j * a + (wi + zk + j * ai) * M + d2 * R ≡ z + u2 * R + (wk + zi + j * ak) * M
bend_balance M w z a s j S R u1 d1 u2 d2 wi wk zi zk ai ak split difference slope =
    let up_split : u2 * S ≡ u2 * (s * j) + u2 * R = ap (λ x. u2 * x) split ∙ mul-add u2 (s * j) R in
    let down_split : d2 * S ≡ d2 * (s * j) + d2 * R = ap (λ x. d2 * x) split ∙ mul-add d2 (s * j) R in
    omega (arith, ap (λ x. j * x) slope)

-- and back over the signed numbers
bend_alike : (M w z x e R i k : ℕ) (c2 : ℤ) → w + x + i * M + down c2 * R ≡ z + up c2 * R + k * M →
    Alike M ((pos w -ℤ (pos z -ℤ pos x)) +ℤ pos e) ((c2 *ℤ pos R) +ℤ pos e)
bend_alike M w z x e R i k c2 balance = record { i = i; j = k; is = omega (arith, ints) }

left_over : (M n : ℕ) (c1 c2 : ℤ) (s j e : ℕ) → 0 < M →
    Alike M
    ((pos (bowed_value M n c1 c2 (s + j)) -ℤ (pos (bowed_value M n c1 c2 s) -ℤ pos (j * residue M (neg_ℤ (c1 +ℤ (c2 *ℤ pos s)))))) +ℤ pos e)
    ((c2 *ℤ pos (pairs j)) +ℤ pos e)
left_over M n c1 c2 s j e h =
    let p = residue_alike M ((pos n +ℤ (c1 *ℤ pos (s + j))) +ℤ (c2 *ℤ pos (pairs (s + j)))) h in
    let q = residue_alike M ((pos n +ℤ (c1 *ℤ pos s)) +ℤ (c2 *ℤ pos (pairs s))) h in
    let t = residue_alike M (neg_ℤ (c1 +ℤ (c2 *ℤ pos s))) h in
    let a : ℕ = residue M (neg_ℤ (c1 +ℤ (c2 *ℤ pos s))) in
    let w : ℕ = bowed_value M n c1 c2 (s + j) in
    let z : ℕ = bowed_value M n c1 c2 s in
    bend_alike M w z (j * a) e (pairs j) (p.i + q.j + j * t.i) (p.j + q.i + j * t.j) c2
    (bend_balance M w z a s j (s * j + pairs j) (pairs j) (up c1) (down c1) (up c2) (down c2) p.i p.j q.i q.j t.i t.j refl
    (difference_balance M n w z s j (pairs (s + j)) (pairs s) (s * j + pairs j) (up c1) (down c1) (up c2) (down c2) p.i p.j q.i q.j
    (pairs_add s j ∙ add_assoc (pairs s) (s * j) (pairs j))
    (value_balance M n w p.i p.j (s + j) (pairs (s + j)) c1 c2 p.is)
    (value_balance M n z q.i q.j s (pairs s) c1 c2 q.is))
    (slope_balance M a t.i t.j s c1 c2 t.is))

-- a bend of at most e, raised by e, is from 0 to 2e
bend_within : (M R e : ℕ) (c2 : ℤ) → 0 < M → unsigned_abs c2 * R ≤ e → residue M ((c2 *ℤ pos R) +ℤ pos e) ≤ 2 * e
bend_within M R e (pos n) h k = omega (arith, mod-le (n * R + e) M)
bend_within M R e (negsuc n) h k =
    let a : Alike M ((negsuc n *ℤ pos R) +ℤ pos e) (pos (e - suc n * R)) =
    record { i = 0; j = 0; is = omega (arith, ints) } in
    let b : residue M ((negsuc n *ℤ pos R) +ℤ pos e) ≤ e - suc n * R = residue_at_most M (e - suc n * R) _ h a in
    omega arith

-- ---- the facts

pub bowed_facts : (M N n : ℕ) (c1 c2 : ℤ) (g : ℕ) → 2 ≤ M → M ≤ 2 ^ 40 → 1 ≤ N → N ≤ 2 ^ 20 → g < M →
    Facts (bowed_meaning M N n c1 c2 g)
bowed_facts M N c0 c1 c2 g low high some few small =
    let h : 0 < M = omega arith in
    record {
      modulus_low = low;
      modulus_high = high;
      count_low = some;
      count_high = few;
      value_below = λ k _. residue_below M ((pos c0 +ℤ (c1 *ℤ pos k)) +ℤ (c2 *ℤ pos (pairs k))) h;
      line_facts = λ s n from to.
          let m : ℕ = widest (unsigned_abs c2) g n in
          record {
            reach_low = widest_some (unsigned_abs c2) g n from;
            reach_high = widest_most (unsigned_abs c2) g n;
            slope_below = residue_below M (neg_ℤ (c1 +ℤ (c2 *ℤ pos s))) h;
            offset_below = residue_below M ((pos c0 +ℤ (c1 *ℤ pos s)) +ℤ (c2 *ℤ pos (pairs s))) h;
            error_below = omega (arith, widest_within (unsigned_abs c2) g n);
            near = λ j u.
                let size : unsigned_abs c2 * pairs j ≤ bow (unsigned_abs c2) m = mul-le-mul_left (unsigned_abs c2) (pairs_rise j (m - 1) (omega arith)) in
                rw (alike_residues M _ _ h (left_over M c0 c1 c2 s j (bow (unsigned_abs c2) m) h))
                (bend_within M (pairs j) (bow (unsigned_abs c2) m) c2 h size);
          };
    }
