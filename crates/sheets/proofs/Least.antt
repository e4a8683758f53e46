-- A fault is the least that fits where it is found, and all before it is in order.
use Rattle.std.proofs.Common.{◌≡◌, ℕ, ◌+◌, ◌-◌, ◌^◌, ◌<◌, ◌≤◌, Bool, true, false, cond, ltb, List, [], ◌∷◌, ◌++◌, length, drop, Some, Err, sym, refl, ap, ◌∙◌, subst, arith}
use Rattle.curves.specs.Meaning.{Meaning}
use Rattle.records.specs.Entries.{Entry, head, encode, size_of}
use Rattle.records.specs.Reading.{Encoded}
use Rattle.records.specs.declared.fault.RecordFault.TheVariants.{Short, Form}
use Rattle.sheets.proofs.Runs.{Run, whole, broken, run, passed_on_head}
use Rattle.sheets.proofs.Turns.{every_fault, first_at, turn, stops, passes, first_turn, head_is_due, no_smaller_than_eight}
use Rattle.sheets.specs.Blocks.{start_of}
use Rattle.sheets.specs.Faults.{fault_number}
use Rattle.sheets.specs.Laws.{fits_at, LeastFault, AFaultIsTheLeastWhereAllBeforeIsInOrder}
use Rattle.sheets.specs.Rules.{InOrder, at_the_start, behind as behind_entries}
use Rattle.sheets.specs.Tests.{Due, opening, going, heading_for, first_that}
use Rattle.sheets.specs.Verdict.{Judgement}
use Rattle.sheets.specs.declared.assignment.Assignment.{Assignment}
use Rattle.sheets.specs.declared.fault.Fault.{Fault}
use Rattle.sheets.specs.declared.fault.Fault.TheVariants.{Record, Head, Place, Reach, Numbers, Value, Closeness, End}
use Rattle.sheets.specs.declared.refusal.SheetRefusal.TheVariants.{TooLong, Faulty}

-- ---- the first that fits in a list by rising number is the least

-- the numbers are n, n + 1 and so on
abbrev Rising : ℕ → List Fault → Type 0
Rising n [] = Unit {0}
Rising n (g ∷ gs) = (fault_number g ≡ n) × Rising (n + 1) gs

-- none of those with a lesser number than f's passes the test p
abbrev NoneBefore : (Fault → Bool) → List Fault → Fault → Type 0
NoneBefore p [] f = Unit {0}
NoneBefore p (g ∷ gs) f = (fault_number g < fault_number f → p g ≡ false) × NoneBefore p gs f

none_beyond : (p : Fault → Bool) (gs : List Fault) (n : ℕ) (f : Fault) → Rising n gs → fault_number f ≤ n → NoneBefore p gs f
none_beyond p [] n f r l = tt
none_beyond p (g ∷ gs) n f r l = (λ h. absurd (omega arith), none_beyond p gs (n + 1) f r.1 (omega arith))

module _ (p : Fault → Bool) where
  first_fits_by : (b : Bool) (g f : Fault) (gs : List Fault) (n : ℕ) → p g ≡ b → Rising n (g ∷ gs) →
      cond b (Some g) (first_that p gs) ≡ Some f → (first_that p gs ≡ Some f → (p f ≡ true) × NoneBefore p gs f) →
      (p f ≡ true) × NoneBefore p (g ∷ gs) f
  first_fits_by true g f gs n is r h later =
      let e : g ≡ f = cc in
      let k = ap fault_number e in
      (ap p (sym e) ∙ is, (λ l. absurd (omega arith), none_beyond p gs (n + 1) f r.1 (omega arith)))
  first_fits_by false g f gs n is r h later = let y = later h in (y.0, (λ l. is, y.1))

  first_fits : (gs : List Fault) (n : ℕ) (f : Fault) → Rising n gs → first_that p gs ≡ Some f → (p f ≡ true) × NoneBefore p gs f
  first_fits [] n f r h = cc
  first_fits (g ∷ gs) n f r h = first_fits_by (p g) g f gs n refl r h (first_fits gs (n + 1) f r.1)

  -- every fault is in the list of them
  none_less_of : (f : Fault) → NoneBefore p every_fault f → (other : Fault) → fault_number other < fault_number f → p other ≡ false
  none_less_of f n (Record Short) = n.0
  none_less_of f n (Record Form) = n.1.0
  none_less_of f n Head = n.1.1.0
  none_less_of f n Place = n.1.1.1.0
  none_less_of f n Reach = n.1.1.1.1.0
  none_less_of f n Numbers = n.1.1.1.1.1.0
  none_less_of f n Value = n.1.1.1.1.1.1.0
  none_less_of f n Closeness = n.1.1.1.1.1.1.1.0
  none_less_of f n End = n.1.1.1.1.1.1.1.1.0

first_is_least : (m : Meaning) (a : Assignment) (s : List ℕ) (d : Due) (p : ℕ) (fault : Fault) → InOrder m a s p d →
    first_at m a d (drop p s) ≡ Some fault → LeastFault m a s fault p
first_is_least m a s d p fault before first =
    let test = fits_at m a d (drop p s) in
    let x = first_fits test every_fault 20 fault (refl, (refl, (refl, (refl, (refl, (refl, (refl, (refl, (refl, tt))))))))) first in
    record { due = d; before = before; fits = x.0; none_less = none_less_of test fault x.1 }

-- ---- what is before it

same_refusal : (x fault : Fault) (at p : ℕ) → ◌≡◌ {A = Judgement} (Err (Faulty x at)) (Err (Faulty fault p)) → (x ≡ fault) × (at ≡ p)
same_refusal x fault at p h = (cc, cc)

faulty_since : (b : Bool) (j : Judgement) (fault : Fault) (p : ℕ) → cond b (Err TooLong) j ≡ Err (Faulty fault p) → j ≡ Err (Faulty fault p)
faulty_since true j fault p h = cc
faulty_since false j fault p h = h

module _ (m : Meaning) (a : Assignment) (s : List ℕ) (fault : Fault) (p : ℕ) where
  least_at : (x : Fault) (at : ℕ) (d : Due) (j : Judgement) → j ≡ Err (Faulty x at) → j ≡ Err (Faulty fault p) → InOrder m a s at d →
      first_at m a d (drop at s) ≡ Some x → LeastFault m a s fault p
  least_at x at d j is h before first =
      let e = same_refusal x fault at p (sym is ∙ h) in
      subst (LeastFault m a s fault) e.1 (first_is_least m a s d at fault before (first ∙ ap Some e.0))

  least_behind : (e : Entry) (behind : ℕ) (j : Judgement) → Encoded s 0 e behind → e ≡ head (heading_for m a) → j ≡ Err (Faulty fault p) →
      Run m a s behind (start_of m a) 0 j → LeastFault m a s fault p
  least_behind e behind j r e_is h (whole es stands covers hold is) = cc
  least_behind e behind j r e_is h (broken es q k n x stands place covers within hold counts first is) =
      let c : n ≡ length es = omega arith in
      least_at x q (going k (length es)) j is h
      (behind_entries es q k
      (r.stands ∙ ap (λ y. encode y ++ drop behind s) e_is ∙ ap (λ y. encode (head (heading_for m a)) ++ y) stands)
      (omega (arith, r.ends, ap size_of e_is)) covers within hold)
      (ap (λ i. first_at m a (going k i) (drop q s)) (sym c) ∙ first)

pub fault_least : (m : Meaning) (a : Assignment) → AFaultIsTheLeastWhereAllBeforeIsInOrder m a
fault_least m a s fault p bytes v =
    let h = sym (first_turn m a s) ∙ faulty_since (ltb (2 ^ 22) (length s)) _ fault p v in
    elim (turn m a s 0 opening (length s) bytes) [
      | stops x first is ↦ least_at m a s fault p x 0 opening _ is h at_the_start first
      | passes e behind r o is ↦
          let e_is = head_is_due m a (length s - behind) e o in
          least_behind m a s fault p e behind _ r e_is (sym (passed_on_head e _ _ e_is) ∙ sym is ∙ h)
          (run m a s bytes (length s) behind (start_of m a) 0 (omega (arith, r.ends, no_smaller_than_eight e)) (omega arith))
    ]
