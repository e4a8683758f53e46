-- The pairs among some things, the bow of some points, and the widest stretch whose bow is within a tolerance.
-- The proofs here serve the law of an impl, which may cite nothing of its crate but specs/.
use Rattle.std.specs.Prelude.{◌≡◌, ℕ, zero, suc, ◌+◌, ◌-◌, ◌*◌, ◌<◌, ◌≤◌, true, false, leb, nat_le, refl}
use Rattle.std.proofs.Common.{sym, ap, subst, ◌∙◌, mul-le-mul_left, arith, le-leb}
use Rattle.std.proofs.Math.Decide.{dec_le}
use Rattle.std.proofs.lemmas.Bool.{cond_both, leb-true, leb-false, lt-leb}
use Rattle.curves.specs.Kinds.{pairs, bow, widest}

-- ---- pairs

-- a further thing makes a pair with each of those before
pub pairs_suc : (k : ℕ) → pairs (suc k) ≡ pairs k + k
pairs_suc zero = refl
pairs_suc (suc k) =
    let e : suc (suc k) - 1 ≡ suc k = omega arith in
    let f : suc k - 1 ≡ k = omega arith in
    omega (arith, ap (λ n. suc (suc k) * n) e, ap (λ n. suc k * n) f)

pub pairs_add : (s j : ℕ) → pairs (s + j) ≡ pairs s + s * j + pairs j
pairs_add s zero =
    let e : s + 0 ≡ s = omega arith in
    let f : pairs (s + 0) ≡ pairs s = ap (λ n. pairs n) e in
    omega arith
pairs_add s (suc j) =
    let e : s + suc j ≡ suc (s + j) = omega arith in
    let f : pairs (s + suc j) ≡ pairs (suc (s + j)) = ap (λ n. pairs n) e in
    omega (arith, pairs_suc (s + j), pairs_suc j, pairs_add s j)

pub pairs_rise : (j k : ℕ) → j ≤ k → pairs j ≤ pairs k
pairs_rise j k h =
    let e : k ≡ j + (k - j) = omega arith in
    let f : pairs k ≡ pairs (j + (k - j)) = ap (λ n. pairs n) e in
    omega (arith, pairs_add j (k - j))

-- ---- bows

pub bow_rises : (size m n : ℕ) → m ≤ n → bow size m ≤ bow size n
bow_rises size m n h = mul-le-mul_left size (pairs_rise (m - 1) (n - 1) (omega arith))

-- ---- the widest stretch

-- all of a stretch whose bow is within the tolerance
pub widest_whole : (size g n : ℕ) → bow size n ≤ g → widest size g n ≡ n
widest_whole size g zero h = refl
widest_whole size g (suc n) h = let e : leb (bow size (suc n)) g ≡ true = le-leb (bow size (suc n)) g h in rw e refl

-- one point less of a stretch whose bow is not
widest_less : (size g n : ℕ) → g < bow size (suc n) → widest size g (suc n) ≡ widest size g n
widest_less size g n h = let e : leb (bow size (suc n)) g ≡ false = lt-leb (bow size (suc n)) g h in rw e refl

-- points whose bow is beyond the tolerance, and all after them, are not in the widest stretch
widest_skips : (size g a d : ℕ) → g < bow size (suc a) → widest size g (a + d) ≡ widest size g a
widest_skips size g a zero h = let e : a + 0 ≡ a = omega arith in ap (λ n. widest size g n) e
widest_skips size g a (suc d) h =
    let e : a + suc d ≡ suc (a + d) = omega arith in
    let far : g < bow size (suc (a + d)) = omega (arith, bow_rises size (suc a) (suc (a + d)) (omega arith)) in
    ap (λ n. widest size g n) e ∙ widest_less size g (a + d) far ∙ widest_skips size g a d h

pub widest_below : (size g m n : ℕ) → 1 ≤ m → m ≤ n → g < bow size m → widest size g (m - 1) ≡ widest size g n
widest_below size g m n from to far =
    let e : suc (m - 1) ≡ m = omega arith in
    let f : (m - 1) + (n - (m - 1)) ≡ n = omega arith in
    let h : g < bow size (suc (m - 1)) = rw e far in
    sym (widest_skips size g (m - 1) (n - (m - 1)) h) ∙ ap (λ k. widest size g k) f

-- its bow is within the tolerance, it has a point where the stretch has one, and no more points than the stretch
pub widest_within : (size g n : ℕ) → bow size (widest size g n) ≤ g
widest_within size g zero = omega arith
widest_within size g (suc n) =
    let P : ℕ → Type 0 = λ m. bow size m ≤ g in
    cond_both (nat_le (bow size (suc n)) g) (suc n) (widest size g n) P
    (λ e. leb-true (bow size (suc n)) g e)
    (λ _. widest_within size g n)

pub widest_some : (size g n : ℕ) → 1 ≤ n → 1 ≤ widest size g n
widest_some size g zero h = absurd (omega arith)
widest_some size g (suc zero) h =
    let flat : bow size 1 ≤ g = omega arith in
    omega (arith, widest_whole size g 1 flat)
widest_some size g (suc (suc n)) h =
    let P : ℕ → Type 0 = λ m. 1 ≤ m in
    cond_both (nat_le (bow size (suc (suc n))) g) (suc (suc n)) (widest size g (suc n)) P
    (λ _. omega arith)
    (λ _. widest_some size g (suc n) (omega arith))

pub widest_most : (size g n : ℕ) → widest size g n ≤ n
widest_most size g zero = omega arith
widest_most size g (suc n) =
    let P : ℕ → Type 0 = λ m. m ≤ suc n in
    cond_both (nat_le (bow size (suc n)) g) (suc n) (widest size g n) P
    (λ _. omega arith)
    (λ _. omega (arith, widest_most size g n))

-- m is n + 1 or at most n
by_last : (P : ℕ → Type 0) (n m : ℕ) → m ≤ suc n → P (suc n) → (m ≤ n → P m) → P m
by_last P n m k here below = by (dec_le m n)
  where
    by : Dec (m ≤ n) → P m
    by (yes h) = below h
    by (no h) = let same : suc n ≡ m = omega arith in subst P same here

-- and no longer part of the stretch has its bow within the tolerance
pub widest_largest : (size g n m : ℕ) → widest size g n < m → m ≤ n → g < bow size m
widest_largest size g zero m = λ l k. absurd (omega arith)
widest_largest size g (suc n) m =
    let P : ℕ → Type 0 = λ w. w < m → m ≤ suc n → g < bow size m in
    cond_both (nat_le (bow size (suc n)) g) (suc n) (widest size g n) P
    (λ _ l k. absurd (omega arith))
    (λ e l k. by_last (λ (x : ℕ). g < bow size x) n m k (leb-false (bow size (suc n)) g e) (widest_largest size g n m l))
