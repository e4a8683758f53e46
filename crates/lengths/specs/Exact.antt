-- Whole numbers up to 2 ^ prec in a float of either format: casts, comparison and subtraction are exact.
-- The proofs here serve the law of an impl, which may cite nothing of its crate but specs/.
use Rattle.std.proofs.Common.{◌≡◌, ℕ, ◌+◌, ◌-◌, ◌*◌, ◌^◌, ◌<◌, ◌≤◌, true, false, T, ltb, pos, sym, ap, ◌∙◌, subst, inl, inr, true≢false, mul-le-mul_right, eq-zero-or-pos, mul-lt-mul_of_pos_right, mul-pos, arith, le→leb, le-ltb, lt-ltb}
use lib.Ieee.{Float, Format, nan, inf, fin, binary32, binary64, prec, up, down, round, sum, add, sub, neg, lt, of_int, to_unsigned, in_unsigned, in_float}
use lib.Ieee.Fits.{down_pos, of_int-fits}
use lib.Ieee.Exact.{HasValue}
use lib.Ieee.Scale.{round_same}
use lib.Ieee.Back.{round_whole, unsigned_back, Float-back_unsigned}
use Rattle.lengths.specs.Whole.{units_of, WholeUpTo}

-- ---- casts

number_casts_exactly : (f : Format) (n : ℕ) → n ≤ 2 ^ prec f → T (in_float f (pos n))
unfolding in_float
number_casts_exactly f n h = le→leb n (2 ^ prec f) h

below_64_bits : (f : Format) (n : ℕ) → n ≤ 2 ^ prec f → n < 2 ^ 64
below_64_bits binary32 n h = omega arith
below_64_bits binary64 n h = omega arith

cast_and_back : (f : Format) (n : ℕ) → n ≤ 2 ^ prec f → T (in_unsigned f 64 (of_int f (pos n))) × (to_unsigned 64 (of_int f (pos n)) ≡ n)
cast_and_back f n h = unsigned_back f 64 n (number_casts_exactly f n h) (below_64_bits f n h)

float_has_value : (f : Format) (n : ℕ) → n ≤ 2 ^ prec f → HasValue (of_int f (pos n)) false n 1
unfolding of_int
float_has_value f n h = round_whole f false n h

-- ---- subtraction

difference_of_values : (f : Format) (x y : Float) (a b : ℕ) → HasValue x false a 1 → HasValue y false b 1 → b ≤ a → sub f x y ≡ round f false (a - b) 1
unfolding sub add neg sum
difference_of_values f nan y a b v w h = absurd v
difference_of_values f (inf s) y a b v w h = absurd v
difference_of_values f (fin s m e) nan a b v w h = absurd w
difference_of_values f (fin s m e) (inf t) a b v w h = absurd w
difference_of_values f (fin true m e) (fin t n d) a b v w h = absurd (true≢false v.0)
difference_of_values f (fin false m e) (fin true n d) a b v w h = absurd (true≢false w.0)
difference_of_values f (fin false m e) (fin false n d) a b v w h =
    let c = down e * down d in
    let p : m * up e * down d ≡ a * c = omega (arith, ap (λ (k : ℕ). k * down d) v.1) in
    let q : n * up d * down e ≡ b * c = omega (arith, ap (λ (k : ℕ). k * down e) w.1) in
    let g : b * c ≤ a * c = mul-le-mul_right c h in
    let r : a - b + b ≡ a = omega arith in
    rw (le-ltb (m * up e * down d) (n * up d * down e) (omega arith))
    (round_same f false (m * up e * down d - n * up d * down e) c (a - b) 1 (mul-pos (down_pos e) (down_pos d)) (omega arith)
    (omega (arith, ap (λ (k : ℕ). k * c) r)))

difference_of_numbers : (f : Format) (a b : ℕ) → a ≤ 2 ^ prec f → b ≤ a → sub f (of_int f (pos a)) (of_int f (pos b)) ≡ of_int f (pos (a - b))
unfolding of_int
difference_of_numbers f a b h k =
    difference_of_values f (round f false a 1) (round f false b 1) a b (round_whole f false a h) (round_whole f false b (omega arith)) k

-- ---- comparison

order_kept_by_a_factor : (i j k : ℕ) → 0 < k → ltb (i * k) (j * k) ≡ ltb i j
order_kept_by_a_factor i j k h =
    elim (eq-zero-or-pos (j - i)) [
      | inl z ↦ le-ltb (i * k) (j * k) (mul-le-mul_right k (omega arith)) ∙ sym (le-ltb i j (omega arith))
      | inr p ↦ lt-ltb (i * k) (j * k) (mul-lt-mul_of_pos_right (omega arith) h) ∙ sym (lt-ltb i j (omega arith))
    ]

order_of_values : (x y : Float) (a b : ℕ) → HasValue x false a 1 → HasValue y false b 1 → lt x y ≡ ltb a b
unfolding lt
order_of_values nan y a b v w = absurd v
order_of_values (inf s) y a b v w = absurd v
order_of_values (fin s m e) nan a b v w = absurd w
order_of_values (fin s m e) (inf t) a b v w = absurd w
order_of_values (fin true m e) (fin t n d) a b v w = absurd (true≢false v.0)
order_of_values (fin false m e) (fin true n d) a b v w = absurd (true≢false w.0)
order_of_values (fin false m e) (fin false n d) a b v w =
    let c = down e * down d in
    let p : m * up e * down d ≡ a * c = omega (arith, ap (λ (k : ℕ). k * down d) v.1) in
    let q : n * up d * down e ≡ b * c = omega (arith, ap (λ (k : ℕ). k * down e) w.1) in
    rw (p, q) (order_kept_by_a_factor a b c (mul-pos (down_pos e) (down_pos d)))

order_of_numbers : (f : Format) (a b : ℕ) → a ≤ 2 ^ prec f → b ≤ 2 ^ prec f → lt (of_int f (pos a)) (of_int f (pos b)) ≡ ltb a b
order_of_numbers f a b h k = order_of_values (of_int f (pos a)) (of_int f (pos b)) a b (float_has_value f a h) (float_has_value f b k)

-- ---- floats that hold whole units

pub float_of_number : (f : Format) (most n : ℕ) → most ≤ 2 ^ prec f → n ≤ most → WholeUpTo f most (of_int f (pos n)) × (units_of (of_int f (pos n)) ≡ n)
float_of_number f most n m h =
    let b = cast_and_back f n (omega arith) in
    ((of_int-fits f (pos n), b.0, omega (arith, b.1)), b.1)

module _ (f : Format) (most : ℕ) (m : most ≤ 2 ^ prec f) where
  float_of_its_units : (x : Float) → WholeUpTo f most x → of_int f (pos (units_of x)) ≡ x
  float_of_its_units x w = (Float-back_unsigned f 64 x w.0 w.1).1

  pub order_is_that_of_units : (x y : Float) → WholeUpTo f most x → WholeUpTo f most y → lt x y ≡ ltb (units_of x) (units_of y)
  order_is_that_of_units x y w v =
      (λ i. lt (sym (float_of_its_units x w) i) (sym (float_of_its_units y v) i))
      ∙ order_of_numbers f (units_of x) (units_of y) (omega (arith, w.2)) (omega (arith, v.2))

  pub difference_is_exact : (x y : Float) → WholeUpTo f most x → WholeUpTo f most y → units_of y ≤ units_of x
      → WholeUpTo f most (sub f x y) × (units_of (sub f x y) ≡ units_of x - units_of y)
  difference_is_exact x y w v h =
      let e : sub f x y ≡ of_int f (pos (units_of x - units_of y)) =
      (λ i. sub f (sym (float_of_its_units x w) i) (sym (float_of_its_units y v) i))
      ∙ difference_of_numbers f (units_of x) (units_of y) (omega (arith, w.2)) h in
      subst (λ (z : Float). WholeUpTo f most z × (units_of z ≡ units_of x - units_of y)) (sym e)
      (float_of_number f most (units_of x - units_of y) m (omega (arith, w.2)))
