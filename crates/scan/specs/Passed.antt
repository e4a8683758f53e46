-- What a step says of the indices of a curve.
use Rattle.std.specs.Prelude.{◌≡◌, ℕ, ◌+◌, ◌-◌, ◌<◌, ◌≤◌, ◌⊎◌, Some, None, Option}
use Rattle.curves.specs.Meaning.{Meaning}
use Rattle.curves.specs.Windows.{Close}
use Rattle.scan.specs.declared.steps.Step.{Step}
use Rattle.scan.specs.declared.steps.Step.TheVariants.{Clean, Candidate}

-- no index from s on and below t is close for the threshold D
abbrev pub NoneClose : Meaning → (D s t : ℕ) → Type 0
NoneClose m D s t = (k : ℕ) → s ≤ k → k < t → D ≤ m.value k

-- a step from s up to t passes over at least one index or stands at a candidate, and does not leave the range;
-- there is none exactly where the range is empty or passes the count
abbrev pub StaysWithin : Meaning → (s t : ℕ) → Option Step → Type 0
StaysWithin m s t (Some (Clean reach e)) = (t ≤ m.count) × (1 ≤ reach) × (s + reach ≤ t)
StaysWithin m s t (Some (Candidate after e)) = (t ≤ m.count) × (s + after < t)
StaysWithin m s t None = (t ≤ s) ⊎ (m.count < t)

-- no index that a step from s passes over is close
abbrev pub PassesNoneClose : Meaning → (D s : ℕ) → Option Step → Type 0
PassesNoneClose m D s (Some (Clean reach e)) = NoneClose m D s (s + reach)
PassesNoneClose m D s (Some (Candidate after e)) = NoneClose m D s (s + after)
PassesNoneClose m D s None = Unit {0}

-- where the line from s up to t is without error, a candidate is close
abbrev pub CandidateIsClose : Meaning → (D s t : ℕ) → Option Step → Type 0
CandidateIsClose m D s t (Some (Clean reach e)) = Unit {0}
CandidateIsClose m D s t (Some (Candidate after e)) = (m.line s (t - s)).error ≡ 0 → Close m D (s + after)
CandidateIsClose m D s t None = Unit {0}
