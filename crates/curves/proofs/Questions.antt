-- What an answer to a question tells of what was asked.
use Rattle.std.proofs.Common.{◌≡◌, ℕ, ◌+◌, ◌≤◌, ◌&&◌, leb, Some, sym, refl, subst}
use Rattle.std.proofs.lemmas.Bool.{and_parts, leb-true}
use Rattle.std.proofs.lemmas.Option.{cond_some}
use Rattle.curves.specs.Meaning.{Meaning, Facts, LineFacts, line_of}
use Rattle.curves.specs.declared.line.Line.{Line}

-- l was answered to the question for the line from s for n points
pub record LineAnswered (m : Meaning) (s n : ℕ) (l : Line) : Type 0 where
  pub some : 1 ≤ n
  pub within : s + n ≤ m.count
  pub is : l ≡ m.line s n
  pub facts : LineFacts m s n l

pub line_answered : (m : Meaning) (s n : ℕ) (l : Line) → Facts m → Some l ≡ line_of m s n → LineAnswered m s n l
line_answered m s n l f e =
    let w = cond_some (leb 1 n && leb (s + n) m.count) (m.line s n) l (sym e) in
    let t = and_parts (leb 1 n) (leb (s + n) m.count) w.0 in
    let from : 1 ≤ n = leb-true 1 n t.0 in
    let to : s + n ≤ m.count = leb-true (s + n) m.count t.1 in
    let P : Line → Type 0 = λ x. LineFacts m s n x in
    record { some = from; within = to; is = sym w.1; facts = subst P w.1 (f.line_facts s n from to) }

-- a stretch within the curve has a line
pub line_there : (m : Meaning) (s n : ℕ) → Facts m → 1 ≤ n → s + n ≤ m.count → LineAnswered m s n (m.line s n)
line_there m s n f from to = record { some = from; within = to; is = refl; facts = f.line_facts s n from to }
