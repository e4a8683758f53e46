-- What a search answers.
use Rattle.std.specs.Prelude.{ℕ, zero, suc, cond, ltb, Some, None, Ok, Err, Option, Result, nat_lt}
use Rattle.search.specs.Points.{distance, least}
use Rattle.search.specs.Configurations.{gap, config_for}
use Rattle.search.specs.Refusals.{refused}
use Rattle.search.specs.declared.evidence.Evidence.{Evidence}
use Rattle.search.specs.declared.answer.Answer.{Answer}
use Rattle.search.specs.declared.answer.Answer.TheVariants.{Close, Clear}
use Rattle.search.specs.declared.refusal.SearchRefusal.{SearchRefusal}

-- the evidence for n: its configuration, and the r below n whose gap holds b, lower end included
abbrev pub evidence : (M a b n : ℕ) → Evidence
evidence M a b n =
    let c = config_for M a n in
    record { u = c.u; v = c.v; x = c.x; y = c.y; r = least (λ r. ltb (distance M a b r) (gap n c r)) n }

-- the close index k with its value, and for k ≥ 1 the evidence for k
abbrev pub close_at : (M a b k : ℕ) → Answer
close_at M a b zero = Close 0 (distance M a b 0) None
close_at M a b (suc k) = Close (suc k) (distance M a b (suc k)) (Some (evidence M a b (suc k)))

-- the least k below n with (b − k·a) mod M < D, or none with the evidence for n
abbrev pub answer : (M a b D n : ℕ) → Answer
answer M a b D n =
    let k = least (λ k. ltb (distance M a b k) D) n in
    cond (nat_lt k n) (close_at M a b k) (Clear (evidence M a b n))

-- the same for any numbers: the first refusal that they call for, or the answer
abbrev pub answer_or : Option SearchRefusal → Answer → Result Answer SearchRefusal
answer_or (Some refusal) r = Err refusal
answer_or None r = Ok r

abbrev pub searched : (M a b D n : ℕ) → Result Answer SearchRefusal
searched M a b D n = answer_or (refused M a b D n) (answer M a b D n)
