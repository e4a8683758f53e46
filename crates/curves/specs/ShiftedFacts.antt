-- The facts of a shifted curve, from those of the curve below.
-- Proofs only: the law of its impl rests on them, and a law may cite nothing of its crate but specs/.
use Rattle.std.specs.Prelude.{◌≡◌, ℕ, ◌+◌, ◌*◌, ◌<◌, pos, ◌+ℤ◌, ◌-ℤ◌}
use Rattle.std.proofs.Common.{mod-lt, arith}
use Rattle.std.proofs.lemmas.Int.{ints}
use Rattle.grid.specs.Residue.{residue}
use Rattle.curves.specs.Meaning.{Meaning, Facts, LineFacts}
use Rattle.curves.specs.Kinds.{shifted_meaning}
use Rattle.curves.specs.Residues.{residue_alike, alike_residues}

-- one shift of a value and of an offset leaves their difference, mod M
same_difference : (M v o t x e : ℕ) → 0 < M →
    residue M ((pos (residue M (pos (v + t))) -ℤ (pos (residue M (pos (o + t))) -ℤ pos x)) +ℤ pos e) ≡ residue M ((pos v -ℤ (pos o -ℤ pos x)) +ℤ pos e)
same_difference M v o t x e h =
    let p = residue_alike M (pos (v + t)) h in
    let q = residue_alike M (pos (o + t)) h in
    alike_residues M _ _ h (record { i = p.i + q.j; j = p.j + q.i; is = omega (arith, ints, p.is, q.is) })

pub shifted_facts : (m : Meaning) (t : ℕ) → Facts m → Facts (shifted_meaning m t)
shifted_facts m t f =
    let h : 0 < m.modulus = omega arith in
    record {
      modulus_low = f.modulus_low;
      modulus_high = f.modulus_high;
      count_low = f.count_low;
      count_high = f.count_high;
      value_below = λ k _. mod-lt (m.value k + t) h;
      line_facts = λ s n from to.
          let l : LineFacts m s n (m.line s n) = f.line_facts s n from to in
          record {
            reach_low = l.reach_low;
            reach_high = l.reach_high;
            slope_below = l.slope_below;
            offset_below = mod-lt ((m.line s n).offset + t) h;
            error_below = l.error_below;
            near = λ j u.
                rw (same_difference m.modulus (m.value (s + j)) (m.line s n).offset t (j * (m.line s n).slope) (m.line s n).error h)
                (l.near j u);
          };
    }
