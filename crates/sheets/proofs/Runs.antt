-- What the judgement is from a byte on, behind the head.
use Rattle.std.proofs.Common.{◌≡◌, ℕ, zero, suc, ◌+◌, ◌-◌, ◌<◌, ◌≤◌, List, [], ◌∷◌, ◌++◌, length, drop, Some, Ok, Err, sym, refl, ap, ◌∙◌, append_assoc, append-nil, arith, length-append, length-drop}
use Rattle.std.proofs.lemmas.List.{drop_all}
use Rattle.std.proofs.lemmas.Bool.{or_left, lt-ltb}
use Rattle.curves.specs.Meaning.{Meaning}
use Rattle.records.specs.Bytes.{Bytes}
use Rattle.records.specs.Entries.{Entry, head, clean, hit, miss, end, encode, encode_all}
use Rattle.records.specs.Reading.{Encoded}
use Rattle.records.specs.declared.fault.RecordFault.TheVariants.{Short}
use Rattle.records.specs.declared.heading.Heading.{Heading}
use Rattle.sheets.proofs.Turns.{first_at, first_of_short, turn, stops, passes, InPlace, faultless, goes_on, ends}
use Rattle.sheets.proofs.Turns.{length_of_encode, no_smaller_than_eight}
use Rattle.sheets.specs.Blocks.{stop_of}
use Rattle.sheets.specs.Rules.{Covers, Holds, AllHold, hits_of}
use Rattle.sheets.specs.Tests.{going, points_of}
use Rattle.sheets.specs.Verdict.{Judgement, passed_on, judged_from}
use Rattle.sheets.specs.declared.assignment.Assignment.{Assignment}
use Rattle.sheets.specs.declared.fault.Fault.{Fault}
use Rattle.sheets.specs.declared.fault.Fault.TheVariants.{Record}
use Rattle.sheets.specs.declared.refusal.SheetRefusal.{SheetRefusal}
use Rattle.sheets.specs.declared.refusal.SheetRefusal.TheVariants.{Faulty}

-- ---- what an entry passes on

pub passed_on_head : (e : Entry) (h : Heading) (j : Judgement) → e ≡ head h → passed_on e j ≡ j
passed_on_head e h j is = ap (λ x. passed_on x j) is

module _ (m : Meaning) (D : ℕ) where
  pub hits_passed_on : (e : Entry) → Holds m D e → (es : List Entry) → passed_on e (Ok (hits_of es)) ≡ Ok (hits_of (e ∷ es))
  hits_passed_on (head h) o es = absurd o
  hits_passed_on (clean c) o es = refl
  hits_passed_on (hit x) o es = refl
  hits_passed_on (miss x) o es = refl
  hits_passed_on (end n) o es = absurd o

  refusal_passed_on : (e : Entry) → Holds m D e → (r : SheetRefusal) → passed_on e (Err r) ≡ Err r
  refusal_passed_on (head h) o r = absurd o
  refusal_passed_on (clean c) o r = refl
  refusal_passed_on (hit x) o r = refl
  refusal_passed_on (miss x) o r = refl
  refusal_passed_on (end n) o r = absurd o

-- ---- runs

-- from the byte `at` on, where the index k is due behind `count` entries, stand entries that cover the block in order and hold: to its end,
-- with the end that counts them behind, and the judgement j is their hits; or up to k', and j is the first fault that fits behind them, at p
pub data Run (m : Meaning) (a : Assignment) (s : List ℕ) (at k count : ℕ) (j : Judgement) : Type 0 where
  whole : (es : List Entry) → drop at s ≡ encode_all es ++ encode (end (count + length es)) → Covers k (stop_of m a) es →
      AllHold m a.threshold es → j ≡ Ok (hits_of es) → Run m a s at k count j
  broken : (es : List Entry) (p k' n : ℕ) (fault : Fault) → drop at s ≡ encode_all es ++ drop p s → p ≡ at + length (encode_all es) →
      Covers k k' es → k' ≤ stop_of m a → AllHold m a.threshold es → n ≡ count + length es →
      first_at m a (going k' n) (drop p s) ≡ Some fault → j ≡ Err (Faulty fault p) → Run m a s at k count j

module _ (m : Meaning) (a : Assignment) (s : List ℕ) where
  run_breaks : (at k count : ℕ) (fault : Fault) (j : Judgement) → k ≤ stop_of m a → first_at m a (going k count) (drop at s) ≡ Some fault →
      j ≡ Err (Faulty fault at) → Run m a s at k count j
  run_breaks at k count fault j l first is = broken [] at k count fault refl (omega arith) refl l tt (omega arith) first is

  run_ends : (at k count behind : ℕ) (e : Entry) (j i : Judgement) → Encoded s at e behind → k ≡ stop_of m a → e ≡ end count →
      length s - behind ≡ 0 → i ≡ passed_on e j → Run m a s at k count i
  run_ends at k count behind e j i r k-is e_is z is =
      let n : count ≡ count + 0 = omega arith in
      whole []
      (r.stands ∙ ap (λ x. encode e ++ x) (drop_all behind s (omega arith)) ∙ append-nil (encode e) ∙ ap encode (e_is ∙ ap end n))
      k-is tt (is ∙ ap (λ x. passed_on x j) e_is)

  run_goes_on : (at k count behind : ℕ) (e : Entry) (j i : Judgement) → Encoded s at e behind → InPlace m a k e →
      i ≡ passed_on e j → Run m a s behind (k + points_of e) (count + 1) j → Run m a s at k count i
  run_goes_on at k count behind e j i r x is (whole es stands covers hold hits) =
      let n : count + 1 + length es ≡ count + suc (length es) = omega arith in
      whole (e ∷ es)
      (r.stands ∙ ap (λ y. encode e ++ y) stands ∙ sym (append_assoc (encode e) (encode_all es) _)
      ∙ ap (λ y. encode_all (e ∷ es) ++ encode (end y)) n)
      (x.starts, x.some, covers) (x.holds, hold)
      (is ∙ ap (passed_on e) hits ∙ hits_passed_on m a.threshold e x.holds es)
  run_goes_on at k count behind e j i r x is (broken es p k' n fault stands place covers within hold counts first refusal) =
      broken (e ∷ es) p k' n fault
      (r.stands ∙ ap (λ y. encode e ++ y) stands ∙ sym (append_assoc (encode e) (encode_all es) (drop p s)))
      (omega (arith, r.ends, length-append (encode e) (encode_all es), length_of_encode e))
      (x.starts, x.some, covers) within (x.holds, hold) (omega arith) first
      (is ∙ ap (passed_on e) refusal ∙ refusal_passed_on m a.threshold e x.holds (Faulty fault p))

  -- the turns are enough for the bytes; where there is none left, the bytes are short
  pub run : Bytes s → (f at k count : ℕ) → length s < at + f → k ≤ stop_of m a → Run m a s at k count (judged_from f m a s at (going k count))
  run bytes zero at k count n l =
      run_breaks at k count (Record Short) _ l
      (first_of_short m a (going k count) (drop at s) (or_left _ _ (lt-ltb (length (drop at s)) 4 (simp length-drop (omega arith))))) refl
  run bytes (suc f) at k count n l =
      elim (turn m a s at (going k count) f bytes) [
        | stops fault first is ↦ run_breaks at k count fault _ l first is
        | passes e behind r o is ↦
            elim (faultless m a k count (length s - behind) e o) [
              | goes_on i ↦
                  run_goes_on at k count behind e _ _ r i is
                  (run bytes f behind (k + points_of e) (count + 1) (omega (arith, r.ends, no_smaller_than_eight e)) i.within)
              | ends k-is e_is z ↦ run_ends at k count behind e _ _ r k-is e_is z is
            ]
      ]
