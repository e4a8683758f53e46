-- The hits of a sheet that passes are exactly the close indices of its block.
use Rattle.std.proofs.Common.{◌≡◌, ℕ, zero, suc, ◌+◌, ◌-◌, ◌^◌, ◌<◌, ◌≤◌, ◌&&◌, eqb, ltb, List, length, None, Ok, sym, ◌∙◌, subst, add-one, arith}
use Rattle.std.proofs.lemmas.Bool.{and_parts, and_from, not-false, eqb-true, leb-false, ltb-false}
use Rattle.curves.specs.Closes.{close_between}
use Rattle.curves.specs.Meaning.{Meaning, Facts}
use Rattle.curves.proofs.CloseIndices.{far_between, close_first, none_at_the_end}
use Rattle.records.specs.Entries.{Entry, head, clean, hit, miss, end}
use Rattle.sheets.specs.Blocks.{start_of, stop_of}
use Rattle.sheets.specs.Clean.{reaches}
use Rattle.sheets.specs.Laws.{HitsAreTheCloseIndices}
use Rattle.sheets.specs.Tests.{opening, going, points_of, first_fault}
use Rattle.sheets.specs.Verdict.{Judgement, passed_on, judged_from}
use Rattle.sheets.specs.declared.assignment.Assignment.{Assignment}
use Rattle.sheets.specs.declared.fault.Fault.TheVariants.{Place, Reach, Numbers, Value, Closeness, End}
use Rattle.sheets.proofs.Cleaned.{clean_record_clears}
use Rattle.sheets.proofs.Passed.{turn_passed, none_fits, placed, in_front, head_passed, not_too_long}

-- ---- the hits of what is judged from k on are the close indices from there to the end of the block

abbrev ExactFrom : Meaning → Assignment → (k : ℕ) → Judgement → Type 0
ExactFrom m a k j = (hits : List ℕ) → k ≤ stop_of m a → j ≡ Ok hits → hits ≡ close_between m a.threshold k (stop_of m a)

module _ (m : Meaning) (a : Assignment) (f : Facts m) where
  entry_exact : (k count behind : ℕ) (e : Entry) (j : Judgement) → first_fault m a (going k count) behind e ≡ None →
      ExactFrom m a (k + points_of e) j → ExactFrom m a k (passed_on e j)
  entry_exact k count behind (head h) j free more hits within is = cc
  entry_exact k count behind (clean c) j free more hits within is =
      let none = none_fits m a (going k count) behind (clean c) free in
      let p = placed k (stop_of m a) c.from c.points (none Place) in
      let far = clean_record_clears m a.threshold c.from c.points c.evidence f p.1 (omega arith)
      (and_from (reaches m c.from c.points) _ (not-false _ (none Reach)) (not-false _ (none Numbers))) in
      let ends : k + c.points ≤ stop_of m a = omega arith in
      more hits ends is
      ∙ sym (far_between m a.threshold k c.points (stop_of m a) ends (rw p.0 at far))
  entry_exact k count behind (hit p) j free more hits within is =
      let none = none_fits m a (going k count) behind (hit p) free in
      let at = placed k (stop_of m a) p.index 1 (none Place) in
      let same = eqb-true p.value (m.value p.index) (not-false _ (none Value)) in
      let near = leb-false a.threshold p.value (none Closeness) in
      let close : m.value p.index < a.threshold = omega arith in
      let first = close_first m a.threshold k (stop_of m a) (omega arith) (rw at.0 at close) in
      let front = in_front p.index j hits is in
      let others = more front.0 (omega arith) front.1 in
      cc
  entry_exact k count behind (miss p) j free more hits within is =
      let none = none_fits m a (going k count) behind (miss p) free in
      let at = placed k (stop_of m a) p.index 1 (none Place) in
      let same = eqb-true p.value (m.value p.index) (not-false _ (none Value)) in
      let far = ltb-false p.value a.threshold (none Closeness) in
      let only : (i : ℕ) → i < 1 → p.index ≡ k + i = λ i h. omega arith in
      let ends : k + 1 ≤ stop_of m a = omega arith in
      more hits ends is
      ∙ sym (far_between m a.threshold k 1 (stop_of m a) ends
      (λ i h. subst (λ x. a.threshold ≤ m.value x) (only i h) (omega arith)))
  entry_exact k count behind (end n) j free more hits within is =
      let right = not-false _ (none_fits m a (going k count) behind (end n) free End) in
      let e = and_parts (eqb k (stop_of m a)) (eqb n count && eqb behind 0) right in
      let none = none_at_the_end m a.threshold k (stop_of m a) (eqb-true k (stop_of m a) e.0) in
      cc

  judged_exact : (turns : ℕ) (s : List ℕ) (at k count : ℕ) → ExactFrom m a k (judged_from turns m a s at (going k count))
  judged_exact zero s at k count hits within is = cc
  judged_exact (suc turns) s at k count hits within is =
      let t = turn_passed m a s turns at (going k count) hits is in
      entry_exact k count (length s - t.behind) t.entry _ t.free
      (judged_exact turns s t.behind (k + points_of t.entry) (count + 1)) hits within t.on

pub hits_exact : (m : Meaning) (a : Assignment) → Facts m → HitsAreTheCloseIndices m a
hits_exact m a f s hits is =
    let judged = not_too_long (ltb (2 ^ 22) (length s)) (judged_from (length s + 1) m a s 0 opening) hits is in
    let t = turn_passed m a s (length s) 0 opening hits (rw add-one at judged) in
    judged_exact m a f (length s) s t.behind (start_of m a) 0 hits (omega arith)
    (sym (head_passed m a (length s - t.behind) t.entry _ t.free) ∙ t.on)
