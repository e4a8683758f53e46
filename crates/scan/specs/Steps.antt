-- What a step along a curve answers.
use Rattle.std.specs.Prelude.{ℕ, ◌-◌, ◌<◌, Some, None, Option}
use Rattle.search.specs.Answers.{answer}
use Rattle.search.specs.declared.answer.Answer.{Answer}
use Rattle.search.specs.declared.answer.Answer.TheVariants.{Close, Clear}
use Rattle.curves.specs.Meaning.{Meaning}
use Rattle.curves.specs.Windows.{line_window_of}
use Rattle.curves.specs.declared.line.Line.{Line}
use Rattle.curves.specs.declared.window.Window.{Window}
use Rattle.scan.specs.declared.steps.Step.{Step}
use Rattle.scan.specs.declared.steps.Step.TheVariants.{Clean, Candidate}

-- the search's answer for the points of the line's reach in its window
abbrev pub answer_along : (M : ℕ) → Line → Window → Answer
answer_along M l w = answer M l.slope w.offset w.threshold l.reach

-- where it finds a point, that is one of the reach
abbrev pub IndexBelow : (reach : ℕ) → Answer → Type 0
IndexBelow reach (Close k v e) = k < reach
IndexBelow reach (Clear e) = Unit {0}

-- the answer for a reach, told as a step: the close points of the window are the candidates
abbrev pub told : (reach : ℕ) → Answer → Step
told reach (Close k v e) = Candidate k e
told reach (Clear e) = Clean reach e

abbrev pub step_along : (M : ℕ) → Line → Window → Step
step_along M l w = told l.reach (answer_along M l w)

abbrev pub step_in : (M : ℕ) → Option (Line × Window) → Option Step
step_in M (Some p) = Some (step_along M p.0 p.1)
step_in M None = None

-- the step from s up to t for the threshold D: along the line from s for t − s points, in its window; none where there is no line
abbrev pub step_of : Meaning → (D s t : ℕ) → Option Step
step_of m D s t = step_in m.modulus (line_window_of m s (t - s) D)
