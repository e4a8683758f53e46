-- The laws of windows, from a curve's facts alone.
use Rattle.std.proofs.Common.{◌≡◌, ℕ, ◌+◌, ◌-◌, ◌*◌, ◌<◌, ◌≤◌, true, leb, pos, ◌+ℤ◌, ◌-ℤ◌, Some, sym, refl, ap, ◌∙◌, subst, mod-lt, arith, le-leb}
use Rattle.std.proofs.lemmas.Int.{ints}
use Rattle.grid.specs.Residue.{residue}
use Rattle.grid.proofs.Congruence.{residue_below}
use Rattle.curves.specs.Meaning.{Meaning, Facts, line_of}
use Rattle.curves.specs.Windows.{window_of, window_distance, WithinLimits, CutLosesNothing, CloseAreCandidates, DistancesAreValues, line_window_of}
use Rattle.curves.specs.declared.line.Line.{Line}
use Rattle.curves.specs.declared.window.Window.{Window}
use Rattle.curves.proofs.Questions.{LineAnswered, line_answered}
use Rattle.curves.specs.Residues.{Alike, residue_alike, residue_at_most, residue_is_the_alike}

-- how far a value v lies above the j-th point of a line lowered by its error, mod M
lag : (M v b a j e : ℕ) → ℕ
lag M v b a j e = residue M ((pos v -ℤ (pos b -ℤ pos (j * a))) +ℤ pos e)

-- the distance from the offset (b + e) mod M to the j-th point is v + 2e less that, mod M
distance_alike : (M v b a j e : ℕ) → 0 < M → lag M v b a j e ≤ 2 * e →
    Alike M (pos (residue M (pos (b + e))) -ℤ pos (j * a)) (pos (v + (2 * e - lag M v b a j e)))
unfolding lag
distance_alike M v b a j e h near =
    let p = residue_alike M ((pos v -ℤ (pos b -ℤ pos (j * a))) +ℤ pos e) h in
    let q = residue_alike M (pos (b + e)) h in
    record { i = p.i + q.i; j = p.j + q.j; is = omega (arith, ints, p.is, q.is) }

-- ---- l is the line from s for n points of a curve that shows its facts

pub within_limits : (m : Meaning) (s n D : ℕ) (l : Line) → Facts m → LineAnswered m s n l →
    WithinLimits m n l (window_of m.modulus l D)
within_limits m s n D l f a =
    record {
      reach_low = a.facts.reach_low;
      reach_high = a.facts.reach_high;
      slope_below = a.facts.slope_below;
      offset_below = mod-lt (l.offset + l.error) (omega arith);
      threshold_within = omega arith;
    }

pub cut_loses_nothing : (m : Meaning) (D : ℕ) (l : Line) → CutLosesNothing m D l (window_of m.modulus l D)
cut_loses_nothing m D l x below = (λ h. omega arith, λ h. omega arith)

pub close_are_candidates : (m : Meaning) (s n D : ℕ) (l : Line) → Facts m → LineAnswered m s n l →
    CloseAreCandidates m s D l (window_of m.modulus l D)
unfolding lag
close_are_candidates m s n D l f a j u close =
    let h : 0 < m.modulus = omega arith in
    let v : ℕ = m.value (s + j) in
    let r : ℕ = lag m.modulus v l.offset l.slope j l.error in
    let w = window_of m.modulus l D in
    let far : window_distance m.modulus l w j ≤ v + (2 * l.error - r) =
    residue_at_most m.modulus _ _ h (distance_alike m.modulus v l.offset l.slope j l.error h (a.facts.near j u)) in
    let below : window_distance m.modulus l w j < m.modulus = residue_below m.modulus _ h in
    omega arith

pub distances_are_values : (m : Meaning) (s n D : ℕ) (l : Line) → Facts m → LineAnswered m s n l →
    DistancesAreValues m s l (window_of m.modulus l D)
unfolding lag
distances_are_values m s n D l f a exact j u =
    let h : 0 < m.modulus = omega arith in
    let v : ℕ = m.value (s + j) in
    let r : ℕ = lag m.modulus v l.offset l.slope j l.error in
    let near : r ≤ 2 * l.error = a.facts.near j u in
    let none : v + (2 * l.error - r) ≡ v = omega arith in
    let d = distance_alike m.modulus v l.offset l.slope j l.error h near in
    let below : v < m.modulus = f.value_below (s + j) (omega (arith, a.facts.reach_high)) in
    residue_is_the_alike m.modulus v _ below
    (record { i = d.j; j = d.i; is = omega (arith, ints, d.is) })

-- ---- a line and its window, as they are answered together

pub record WindowAnswered (m : Meaning) (s n D : ℕ) (l : Line) (w : Window) : Type 0 where
  pub is : Some (l, w) ≡ line_window_of m s n D
  pub limits : WithinLimits m n l w
  pub cut : CutLosesNothing m D l w
  pub candidates : CloseAreCandidates m s D l w
  pub values : DistancesAreValues m s l w

the_window : (m : Meaning) (s n D : ℕ) (l : Line) → Facts m → Some l ≡ line_of m s n →
    WindowAnswered m s n D l (window_of m.modulus l D)
the_window m s n D l f e =
    let a = line_answered m s n l f e in
    let from : leb 1 n ≡ true = le-leb 1 n a.some in
    let to : leb (s + n) m.count ≡ true = le-leb (s + n) m.count a.within in
    let x : line_window_of m s n D ≡ Some (m.line s n, window_of m.modulus (m.line s n) D) = rw (from, to) refl in
    record {
      is = ap (λ (k : Line). Some (k, window_of m.modulus k D)) a.is ∙ sym x;
      limits = within_limits m s n D l f a;
      cut = cut_loses_nothing m D l;
      candidates = close_are_candidates m s n D l f a;
      values = distances_are_values m s n D l f a;
    }

pub window_answered : (m : Meaning) (s n D : ℕ) (l : Line) (w : Window) → Facts m → Some l ≡ line_of m s n →
    w ≡ window_of m.modulus l D → WindowAnswered m s n D l w
window_answered m s n D l w f e is =
    let P : Window → Type 0 = λ x. WindowAnswered m s n D l x in
    subst P (sym is) (the_window m s n D l f e)
