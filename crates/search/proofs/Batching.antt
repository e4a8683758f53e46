-- Batches of steps in the numbers that the code has.
use Rattle.std.proofs.Common.{◌≡◌, ℕ, zero, suc, ◌+◌, ◌-◌, ◌*◌, ◌<◌, ◌≤◌, Bool, true, false, ltb, sym, ap, ◌∙◌, mul-le-mul_right, arith, ltb-false, ltb-true}

-- what a test by an arithmetic's order tells of the units
pub is_less : (t : Bool) (m n : ℕ) → t ≡ ltb m n → true ≡ t → m < n
is_less t m n e f = ltb-true m n (sym (f ∙ e))

pub is_not_less : (t : Bool) (m n : ℕ) → t ≡ ltb m n → false ≡ t → n ≤ m
is_not_less t m n e f = ltb-false m n (sym (f ∙ e))

-- at most `most` steps, where one less than that is too few
pub few_steps : (need by most q : ℕ) → (most - 1) * by < need → q ≤ most → (q - 1) * by < need
few_steps need by most q f h =
    let l : q - 1 ≤ most - 1 = omega arith in omega (arith, f, mul-le-mul_right by l)

-- the same where the steps are at least one
pub less_one : (u n p : ℕ) → (suc p - 1) * u < n → p * u < n
less_one u n p h = let e : suc p - 1 ≡ p = omega arith in omega (arith, ap (λ m. m * u) e)

-- so they add less than was needed and one step more
pub few_added : (need by most q : ℕ) → (most - 1) * by < need → q ≤ most → q * by < need + by
few_added need by most zero f h = omega arith
few_added need by most (suc p) f h = omega (arith, less_one by need p (few_steps need by most (suc p) f h))

-- one part less than those that use up a longer length leaves that part
pub one_less : (l p q : ℕ) → q * p ≤ l → l ≤ q * p → p < l → ((q - 1) * p < l) × (p ≡ l - (q - 1) * p)
one_less l p zero w e h = absurd (omega arith)
one_less l zero (suc q) w e h = absurd (omega arith)
one_less l (suc p) (suc q) w e h =
    let f = ap (λ n. n * suc p) (let s : suc q - 1 ≡ q = omega arith in s) in
    (omega (arith, f), omega (arith, f))

pub one_less_fits : (l p q : ℕ) → q * p ≤ l → l ≤ q * p → p < l → (q - 1) * p < l
one_less_fits l p q w e h = (one_less l p q w e h).0

pub one_less_leaves : (l p q : ℕ) → q * p ≤ l → l ≤ q * p → p < l → p ≡ l - (q - 1) * p
one_less_leaves l p q w e h = (one_less l p q w e h).1
