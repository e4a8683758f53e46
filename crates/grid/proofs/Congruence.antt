-- Congruence mod M over the natural numbers, and the residues of differences and of multiples.
use Rattle.std.proofs.Common.{◌≡◌, ℕ, zero, suc, ◌+◌, ◌-◌, ◌*◌, ◌/◌, ◌%◌, ◌<◌, ◌≤◌, ltb, ℤ, pos, negsuc, ◌-ℤ◌, ◌*ℤ◌, unsigned_abs, ◌<ℤ◌, ◌≤ℤ◌, refl, sym, ap, ◌∙◌, mod-lt, mod-eq_of_lt, div-add-mod', le_of_mul-le-mul_right, arith}
use native.Mathlib.Nat.{add-mul-mod_self_right}
use Rattle.std.proofs.lemmas.Bool.{ltb-true, ltb-false, cond_both}
use Rattle.std.proofs.lemmas.Int.{ints}
use Rattle.grid.specs.Congruent.{Same}
use Rattle.grid.specs.Residue.{residue}

-- ---- congruence

-- M times the difference of two multiples
pub quotient : (M t p q : ℕ) → 0 < M → t + p * M ≡ q * M → (i : ℕ) × (t ≡ i * M)
quotient M t p q h e =
    let l : p ≤ q = le_of_mul-le-mul_right {k = M} (omega arith) h in
    (q - p, let z : (q - p) + p ≡ q = omega arith in omega (arith, ap (λ n. n * M) z))

-- two numbers below M that differ by a multiple of M are one
pub same_below : (M w z : ℕ) → w < M → z < M → Same M w z → w ≡ z
same_below M w z h l s =
    sym (mod-eq_of_lt h) ∙ sym (add-mul-mod_self_right w s.i M) ∙ ap (λ n. n % M) s.is ∙ add-mul-mod_self_right z s.j M ∙ mod-eq_of_lt l

-- ---- the residue of a difference

-- w is (p − t) mod M
abbrev pub Rest : (M w p t : ℕ) → Type 0
Rest M w p t = (w < M) × Same M (w + t) p

rest_is_one : (M w z p t : ℕ) → Rest M w p t → Rest M z p t → w ≡ z
rest_is_one M w z p t r s =
    same_below M w z r.0 s.0
    (record { i = r.1.i + s.1.j; j = r.1.j + s.1.i; is = omega (arith, r.1.is, s.1.is) })

rest_of_no_less : (M p t : ℕ) → 0 < M → t ≤ p → Rest M ((p - t) % M) p t
rest_of_no_less M p t h l = (
  mod-lt (p - t) h,
  record { i = (p - t) / M; j = 0; is = omega (arith, div-add-mod' (p - t) M) },
)

rest_of_less : (M p t : ℕ) → 0 < M → p < t → Rest M (M - 1 - (t - suc p) % M) p t
rest_of_less M p t h l =
    let m : (t - suc p) % M < M = mod-lt (t - suc p) h in (
      omega arith,
      record { i = 0; j = suc ((t - suc p) / M); is = omega (arith, div-add-mod' (t - suc p) M) },
    )

pub residue_sub : (M p t : ℕ) → 0 < M → Rest M (residue M (pos p -ℤ pos t)) p t
residue_sub M p zero h = (
  mod-lt (p + 0) h,
  record { i = (p + 0) / M; j = 0; is = omega (arith, div-add-mod' (p + 0) M) },
)
residue_sub M p (suc t) h =
    let P : ℤ → Type 0 = λ z. Rest M (residue M z) p (suc t) in
    cond_both (ltb p (suc t)) (negsuc (suc t - suc p)) (pos (p - suc t)) P
    (λ e. rest_of_less M p (suc t) h (ltb-true p (suc t) e))
    (λ e. rest_of_no_less M p (suc t) h (ltb-false p (suc t) e))

pub residue_below : (M : ℕ) (z : ℤ) → 0 < M → residue M z < M
residue_below M (pos n) h = mod-lt n h
residue_below M (negsuc n) h = let m : n % M < M = mod-lt n h in omega arith

-- (p − t) mod M is the w below M with w + t ≡ p
pub residue_at : (M p t w : ℕ) → w < M → Same M (w + t) p → residue M (pos p -ℤ pos t) ≡ w
residue_at M p t w l s =
    rest_is_one M (residue M (pos p -ℤ pos t)) w p t (residue_sub M p t (omega arith)) (l, s)

-- the same where w + t ≡ p holds of the residues of t and p
pub residue_at_residues : (M p t w : ℕ) → w < M → Same M (w + t % M) (p % M) → residue M (pos p -ℤ pos t) ≡ w
residue_at_residues M p t w l s =
    residue_at M p t w l
    (record {
      i = s.i + p / M;
      j = s.j + t / M;
      is = omega (arith, s.is, div-add-mod' p M, div-add-mod' t M);
    })

-- ---- the multiples of a signed number

-- a negative number times k is what its size times k takes off 0
pub negative_times : (c : ℤ) (k : ℕ) → c <ℤ pos 0 → pos 0 -ℤ pos (unsigned_abs c * k) ≡ c *ℤ pos k
negative_times (pos a) k below = omega (arith, ints, below)
negative_times (negsuc n) zero below = omega (arith, ints)
negative_times (negsuc n) (suc k) below = omega (arith, ints)

-- the residue of a number's multiple, where the number is not negative
pub positive_times : (M : ℕ) (c : ℤ) (k : ℕ) → pos 0 ≤ℤ c → residue M (c *ℤ pos k) ≡ unsigned_abs c * k % M
positive_times M (pos a) k above = refl
positive_times M (negsuc n) k above = absurd (omega (arith, ints, above))
