-- A clean record that passes clears its stretch, and where a line is without error and none is close, some record passes.
use Rattle.std.proofs.Common.{◌≡◌, ℕ, ◌+◌, ◌*◌, ◌<◌, ◌≤◌, true, pos, ⊎_elim, arith}
use Rattle.std.proofs.lemmas.Bool.{and_parts, and_from, cases_lt, leb-true, le-leb}
use Rattle.grid.specs.Residue.{residue}
use Rattle.search.specs.Vouching.{Vouches}
use Rattle.search.specs.declared.evidence.Evidence.{Evidence}
use Rattle.search.proofs.Tested.{vouching_vouches, vouches_passes}
use Rattle.search.proofs.Vouched.{least_distance, vouch_exactly}
use Rattle.curves.specs.Meaning.{Meaning, Facts}
use Rattle.curves.proofs.Questions.{line_there}
use Rattle.curves.proofs.WindowLaws.{close_are_candidates, distances_are_values}
use Rattle.sheets.specs.Clean.{reaches, vouched, clean_passes}
use Rattle.sheets.specs.Laws.{Passing, CleanRecordsPassExactlyWhereNoneIsClose}

-- where a clean record passes, none of its points is close, whatever the line's error
pub clean_record_clears : (m : Meaning) (D s n : ℕ) (e : Evidence) → Facts m → 1 ≤ n → s + n ≤ m.count →
    clean_passes m D s n e ≡ true → (j : ℕ) → j < n → D ≤ m.value (s + j)
clean_record_clears m D s n e f from to passes j below =
    let M = m.modulus in
    let l = m.line s n in
    let b = residue M (pos (l.offset + l.error)) in
    let p = and_parts (reaches m s n) (vouched m D s n e) passes in
    let covers : n ≤ l.reach = leb-true n l.reach p.0 in
    let v = vouching_vouches M l.slope b (D + 2 * l.error) n e p.1 in
    let least = least_distance M l.slope b (D + 2 * l.error) n e (omega (arith, f.modulus_low)) v j below in
    ⊎_elim
    (λ (close : m.value (s + j) < D).
    let near = close_are_candidates m s n D l f (line_there m s n f from to) j (omega arith) close in
    absurd (omega (arith, v.clears.far)))
    (λ (h : D ≤ m.value (s + j)). h)
    (cases_lt (m.value (s + j)) D)

-- numbers that vouch for a line that covers its stretch make a record that passes and fits its fields
passing : (m : Meaning) (D s n : ℕ) (e : Evidence) → Facts m → s + n ≤ m.count → n ≤ (m.line s n).reach →
    Vouches m.modulus (m.line s n).slope (residue m.modulus (pos ((m.line s n).offset + (m.line s n).error)))
    (D + 2 * (m.line s n).error) n e →
    Passing m D s n e
passing m D s n e f to covers v =
    let w = v.within in
    let M = f.modulus_high in
    let N = f.count_high in
    record {
      passes = and_from (reaches m s n) (vouched m D s n e) (le-leb n (m.line s n).reach covers) (vouches_passes _ _ _ _ _ _ v);
      fits = record {
        from = omega arith;
        points = omega arith;
        u = omega (arith, w.u_to);
        v = omega (arith, w.v_to);
        r = omega (arith, w.r_below);
        x = omega (arith, w.x_to);
        y = omega (arith, w.y_to);
      };
    }

pub clean_records : (m : Meaning) → Facts m → CleanRecordsPassExactlyWhereNoneIsClose m
clean_records m f D s n from to reach exact = (
  λ p. clean_record_clears m D s n p.0 f from to p.1.passes,
  λ far.
      let M = m.modulus in
      let l = m.line s n in
      let a = line_there m s n f from to in
      let some = (vouch_exactly M l.slope (residue M (pos (l.offset + l.error))) (D + 2 * l.error) n
      (omega (arith, f.modulus_low)) a.facts.slope_below from).1
      (λ k h. omega (arith, far k h, distances_are_values m s n D l f a exact k (omega arith))) in
      (some.0, passing m D s n some.0 f to (omega arith) some.1),
)
