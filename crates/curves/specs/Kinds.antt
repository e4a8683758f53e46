-- The meanings of the kinds of curves: their values and their lines.
use Rattle.std.specs.Prelude.{ℕ, zero, suc, ◌+◌, ◌-◌, ◌*◌, ◌/◌, cond, List, length, ℤ, pos, ◌+ℤ◌, ◌-ℤ◌, ◌*ℤ◌, neg_ℤ, nat_le, slice_index, unsigned_abs}
use Rattle.grid.specs.Residue.{residue}
use Rattle.curves.specs.Meaning.{Meaning}
use Rattle.curves.specs.declared.line.Line.{Line}

-- ---- straight: F(k) = (b − k·a) mod M, and each line is the curve itself

abbrev pub straight_value : (M a b k : ℕ) → ℕ
straight_value M a b k = residue M (pos b -ℤ pos (k * a))

abbrev pub straight_meaning : (M N a b : ℕ) → Meaning
straight_meaning M N a b =
    record {
      modulus = M;
      count = N;
      value = straight_value M a b;
      line = λ s n. record { reach = n; slope = a; offset = straight_value M a b s; error = 0 };
    }

-- ---- bowed: F(k) = (c0 + c1·k + c2·k(k − 1)/2) mod M, where c1 and c2 may be negative

-- k(k − 1)/2: the number of pairs among k things
abbrev pub pairs : ℕ → ℕ
pairs k = k * (k - 1) / 2

abbrev pub bowed_value : (M c0 : ℕ) (c1 c2 : ℤ) (k : ℕ) → ℕ
bowed_value M c0 c1 c2 k = residue M ((pos c0 +ℤ (c1 *ℤ pos k)) +ℤ (c2 *ℤ pos (pairs k)))

-- how far at most the first m points of a bowed curve leave the line through its first two: |c2|·(m − 1)(m − 2)/2
abbrev pub bow : (size m : ℕ) → ℕ
bow size m = size * pairs (m - 1)

-- the largest m up to n whose bow is at most the tolerance g
abbrev pub widest : (size g n : ℕ) → ℕ
widest size g zero = zero
widest size g (suc n) = cond (nat_le (bow size (suc n)) g) (suc n) (widest size g n)

-- the slope at s is −(c1 + c2·s) mod M, and the error the bow of the reach
abbrev pub bowed_line : (M c0 : ℕ) (c1 c2 : ℤ) (g s n : ℕ) → Line
bowed_line M c0 c1 c2 g s n =
    record {
      reach = widest (unsigned_abs c2) g n;
      slope = residue M (neg_ℤ (c1 +ℤ (c2 *ℤ pos s)));
      offset = bowed_value M c0 c1 c2 s;
      error = bow (unsigned_abs c2) (widest (unsigned_abs c2) g n);
    }

abbrev pub bowed_meaning : (M N c0 : ℕ) (c1 c2 : ℤ) (g : ℕ) → Meaning
bowed_meaning M N c0 c1 c2 g =
    record { modulus = M; count = N; value = bowed_value M c0 c1 c2; line = bowed_line M c0 c1 c2 g }

-- ---- listed: F(k) is entry k mod M, and each line is one point

abbrev pub listed_value : (M : ℕ) → List ℕ → (k : ℕ) → ℕ
listed_value M entries k = residue M (pos (slice_index entries k))

abbrev pub listed_meaning : (M : ℕ) → List ℕ → Meaning
listed_meaning M entries =
    record {
      modulus = M;
      count = length entries;
      value = listed_value M entries;
      line = λ s n. record { reach = 1; slope = 0; offset = listed_value M entries s; error = 0 };
    }

-- ---- shifted by t: every value and every line's offset gains t, mod M; m is the curve below

abbrev pub gained : Meaning → (t v : ℕ) → ℕ
gained m t v = residue m.modulus (pos (v + t))

abbrev pub shifted_line : Meaning → ℕ → Line → Line
shifted_line m t l = record { reach = l.reach; slope = l.slope; offset = gained m t l.offset; error = l.error }

abbrev pub shifted_meaning : Meaning → ℕ → Meaning
shifted_meaning m t =
    record {
      modulus = m.modulus;
      count = m.count;
      value = λ k. gained m t (m.value k);
      line = λ s n. shifted_line m t (m.line s n);
    }
