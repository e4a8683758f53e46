-- What a step says of the curve, from the laws of its window and the search's answer.
use Rattle.std.proofs.Common.{◌≡◌, ℕ, ◌+◌, ◌-◌, ◌<◌, ◌≤◌, ◌&&◌, leb, Some, sym, ap, ◌∙◌, subst, ⊎_elim, arith}
use Rattle.std.proofs.lemmas.Bool.{and_parts, cases_lt, leb-true}
use Rattle.std.proofs.lemmas.Option.{cond_some}
use Rattle.search.specs.declared.answer.Answer.{Answer}
use Rattle.search.specs.declared.answer.Answer.TheVariants.{Close, Clear}
use Rattle.search.proofs.FromAnswers.{close_answer, clear_answer}
use Rattle.curves.specs.Meaning.{Meaning}
use Rattle.curves.specs.Windows.{window_of, window_distance}
use Rattle.curves.specs.declared.line.Line.{Line}
use Rattle.curves.specs.declared.window.Window.{Window}
use Rattle.curves.proofs.WindowLaws.{WindowAnswered}
use Rattle.scan.specs.Passed.{StaysWithin, PassesNoneClose, CandidateIsClose}
use Rattle.scan.specs.Steps.{answer_along, told, step_of, step_in}
use Rattle.scan.specs.declared.steps.Step.{Step}

-- where there is a window from s up to t, the range is within the curve, and the line is the curve's
pub record LineThere (m : Meaning) (s t : ℕ) (l : Line) : Type 0 where
  pub some : s < t
  pub within : t ≤ m.count
  pub is : l ≡ m.line s (t - s)

pub line_there : (m : Meaning) (D s t : ℕ) (l : Line) (w : Window) → WindowAnswered m s (t - s) D l w → LineThere m s t l
line_there m D s t l w g =
    let n = t - s in
    let e = cond_some (leb 1 n && leb (s + n) m.count) (m.line s n, window_of m.modulus (m.line s n) D) (l, w) (sym g.is) in
    let p = and_parts (leb 1 n) (leb (s + n) m.count) e.0 in
    let some : 1 ≤ t - s = leb-true 1 n p.0 in
    let within : s + (t - s) ≤ m.count = leb-true (s + n) m.count p.1 in
    record { some = omega arith; within = omega arith; is = ap (λ (q : Line × Window). q.0) (sym e.1) }

-- an index of the reach that is no candidate is not close
far_at : (m : Meaning) (D s n k : ℕ) (l : Line) (w : Window) → WindowAnswered m s n D l w → s ≤ k → k < s + l.reach →
    w.threshold ≤ window_distance m.modulus l w (k - s) → D ≤ m.value k
far_at m D s n k l w g from below far =
    let at : s + (k - s) ≡ k = omega arith in
    ⊎_elim
    (λ (close : m.value k < D).
    let here : m.value (s + (k - s)) < D = subst (λ j. m.value j < D) (sym at) close in
    let near = g.candidates (k - s) (omega arith) here in
    absurd (omega arith))
    (λ (h : D ≤ m.value k). h)
    (cases_lt (m.value k) D)

-- a candidate of a line without error is close
close_at : (m : Meaning) (D s n j : ℕ) (l : Line) (w : Window) → WindowAnswered m s n D l w → j < l.reach → l.error ≡ 0 →
    window_distance m.modulus l w j < w.threshold → m.value (s + j) < D
close_at m D s n j l w g below exact near =
    let v : window_distance m.modulus l w j ≡ m.value (s + j) = g.values exact j below in
    let c = (g.cut (window_distance m.modulus l w j) (omega (arith, g.limits.threshold_within))).1 near in
    omega arith

-- all that is said of the step r
pub record Told (m : Meaning) (D s t : ℕ) (r : Step) : Type 0 where
  pub is : Some r ≡ step_of m D s t
  pub within : StaysWithin m s t (Some r)
  pub passed : PassesNoneClose m D s (Some r)
  pub candidate : CandidateIsClose m D s t (Some r)

-- the step of the window's answer is the curve's
step_is : (m : Meaning) (D s t : ℕ) (l : Line) (w : Window) (a : Answer) → WindowAnswered m s (t - s) D l w →
    a ≡ answer_along m.modulus l w → Some (told l.reach a) ≡ step_of m D s t
step_is m D s t l w a g is = ap (λ x. Some (told l.reach x)) is ∙ ap (step_in m.modulus) g.is

answer_told : (m : Meaning) (D s t : ℕ) (l : Line) (w : Window) (a : Answer) → WindowAnswered m s (t - s) D l w →
    a ≡ answer_along m.modulus l w → Told m D s t (told l.reach a)
answer_told m D s t l w (Clear e) g is =
    let there = line_there m D s t l w g in
    record {
      is = step_is m D s t l w _ g is;
      within = (there.within, g.limits.reach_low, omega (arith, g.limits.reach_high));
      passed = λ k from below.
          far_at m D s (t - s) k l w g from below
          (clear_answer m.modulus l.slope w.offset w.threshold l.reach e is (k - s) (omega arith));
      candidate = tt;
    }
answer_told m D s t l w (Close j v e) g is =
    let there = line_there m D s t l w g in
    let first = close_answer m.modulus l.slope w.offset w.threshold l.reach j v e is in
    record {
      is = step_is m D s t l w _ g is;
      within = (there.within, omega (arith, g.limits.reach_high, first.below));
      passed = λ k from below.
          far_at m D s (t - s) k l w g from (omega (arith, first.below)) (first.far (k - s) (omega arith));
      candidate = λ exact.
          close_at m D s (t - s) j l w g first.below (ap (λ (x : Line). x.error) there.is ∙ exact)
          (omega (arith, first.value, first.close));
    }

-- a step from the answer for n points, in the modulus M, as code has them one after the other
pub step_told : (m : Meaning) (D s t n M : ℕ) (l : Line) (w : Window) (a : Answer) (r : Step) → n ≡ t - s → M ≡ m.modulus →
    WindowAnswered m s n D l w → a ≡ answer_along M l w → r ≡ told l.reach a → Told m D s t r
step_told m D s t n M l w a r length modulus g is tells =
    let P : ℕ → Type 0 = λ k. WindowAnswered m s k D l w in
    let Q : Step → Type 0 = λ x. Told m D s t x in
    subst Q (sym tells)
    (answer_told m D s t l w a (subst P length g) (is ∙ ap (λ K. answer_along K l w) modulus))
