-- A sheet passes exactly when it keeps the rules.
use Rattle.std.proofs.Common.{◌≡◌, ℕ, zero, suc, ◌+◌, ◌-◌, ◌^◌, ◌<◌, ◌≤◌, Bool, true, false, cond, ltb, List, [], ◌∷◌, ◌++◌, length, drop, Ok, Err, sym, refl, ap, ◌∙◌, append_assoc, append-nil, arith, length-append, length-drop}
use Rattle.std.proofs.lemmas.List.{drop_at, drop-drop}
use Rattle.std.proofs.lemmas.Bool.{cond-false, le-ltb, ltb-false}
use Rattle.curves.specs.Meaning.{Meaning, Facts}
use Rattle.records.proofs.Encoding.{encoded_is_read}
use Rattle.records.specs.Bytes.{Bytes}
use Rattle.records.specs.Entries.{Entry, head, end, encode, encode_all, size_of, HeadingFits}
use Rattle.records.specs.Reading.{Encoded}
use Rattle.sheets.proofs.Runs.{Run, whole, broken, run, passed_on_head, hits_passed_on}
use Rattle.sheets.proofs.Turns.{turn, stops, passes, faultless_passes, first_turn, InPlace, in_place_passes, in_place_fits, end_passes}
use Rattle.sheets.proofs.Turns.{head_is_due, head_passes, length_of_encode, no_smaller_than_eight}
use Rattle.sheets.specs.Blocks.{start_of, stop_of}
use Rattle.sheets.specs.Laws.{PassesExactlyWhenTheRulesAreKept}
use Rattle.sheets.specs.Rules.{Covers, AllHold, hits_of, KeepsTheRules}
use Rattle.sheets.specs.Tests.{opening, going, points_of, heading_for}
use Rattle.sheets.specs.Verdict.{Judgement, passed_on, judged_from, verdict}
use Rattle.sheets.specs.declared.assignment.Assignment.{Assignment}
use Rattle.sheets.specs.declared.refusal.SheetRefusal.TheVariants.{TooLong}

-- ---- a sheet that passes keeps the rules

passes_since : (b : Bool) (j : Judgement) (hits : List ℕ) → cond b (Err TooLong) j ≡ Ok hits → (b ≡ false) × (j ≡ Ok hits)
passes_since true j hits h = cc
passes_since false j hits h = (refl, h)

module _ (m : Meaning) (a : Assignment) (s hits : List ℕ) (v : verdict m a s ≡ Ok hits) where
  kept_behind : (e : Entry) (behind : ℕ) (j : Judgement) → length s ≤ 2 ^ 22 → Encoded s 0 e behind → e ≡ head (heading_for m a) →
      j ≡ Ok hits → Run m a s behind (start_of m a) 0 j → KeepsTheRules m a s hits
  kept_behind e behind j l r e_is h (whole es stands covers hold is) =
      let n : 0 + length es ≡ length es = omega arith in
      record {
        entries = es;
        bytes =
            r.stands ∙ ap (λ x. encode x ++ drop behind s) e_is
            ∙ ap (λ x. encode (head (heading_for m a)) ++ x) (stands ∙ ap (λ x. encode_all es ++ encode (end x)) n);
        not_too_long = l;
        covers = covers;
        hold = hold;
        the_hits = cc;
      }
  kept_behind e behind j l r e_is h (broken es p k' n fault stands place covers within hold counts first is) = cc

  keeps_the_rules : Bytes s → KeepsTheRules m a s hits
  keeps_the_rules bytes =
      let p = passes_since (ltb (2 ^ 22) (length s)) _ hits v in
      let h = sym (first_turn m a s) ∙ p.1 in
      elim (turn m a s 0 opening (length s) bytes) [
        | stops fault first is ↦ cc
        | passes e behind r o is ↦
            let e_is = head_is_due m a (length s - behind) e o in
            kept_behind e behind _ (ltb-false _ _ p.0) r e_is (sym (passed_on_head e _ _ e_is) ∙ sym is ∙ h)
            (run m a s bytes (length s) behind (start_of m a) 0 (omega (arith, r.ends, no_smaller_than_eight e)) (omega arith))
      ]

-- ---- a sheet that keeps the rules passes

-- the numbers of an assignment that stand in a head fit there
pub record Small (a : Assignment) : Type 0 where
  pub survey : a.survey < 2 ^ 32
  pub block : a.block < 2 ^ 32
  pub threshold : a.threshold < 2 ^ 64

covers_as_many : (k t : ℕ) (es : List Entry) → Covers k t es → k + length es ≤ t
covers_as_many k t [] c = omega arith
covers_as_many k t (e ∷ es) c = omega (arith, c.1, covers_as_many (k + points_of e) t es c.2)

module _ (m : Meaning) (a : Assignment) (s : List ℕ) (facts : Facts m) where
  -- by as many turns as bytes are left
  passes_from : (f at k count : ℕ) (es : List Entry) → length s < at + f →
      drop at s ≡ encode_all es ++ encode (end (count + length es)) → Covers k (stop_of m a) es → AllHold m a.threshold es →
      count + length es < 2 ^ 32 → judged_from f m a s at (going k count) ≡ Ok (hits_of es)
  passes_from zero at k count es l stands c h n =
      let z = simp (length-drop, length-append) at (ap length stands) in
      absurd (omega arith)
  passes_from (suc f) at k count [] l stands c h n =
      let z = simp length-drop at (ap length stands) in
      let is : count + 0 ≡ count = omega arith in
      let d = encoded_is_read s [] at (end count) (omega arith) (stands ∙ ap (λ x. encode (end x)) is ∙ sym (append-nil (encode (end count)))) in
      faultless_passes m a s at (going k count) f (end count) (at + 8) d (end_passes m a k count _ c (omega arith))
  passes_from (suc f) at k count (e ∷ es) l stands c h n =
      let i : InPlace m a k e =
      record { starts = c.0; some = c.1; within = omega (arith, covers_as_many (k + points_of e) (stop_of m a) es c.2); holds = h.0 } in
      let t = encode_all es ++ encode (end (count + suc (length es))) in
      let front : drop at s ≡ encode e ++ t = stands ∙ append_assoc (encode e) (encode_all es) _ in
      let d = encoded_is_read s t at e (in_place_fits m a k e facts i) front in
      let n_is : count + suc (length es) ≡ count + 1 + length es = omega arith in
      let behind =
      sym (drop-drop (size_of e) at s) ∙ ap (drop (size_of e)) front ∙ drop_at (encode e) t (size_of e) (length_of_encode e)
      ∙ ap (λ x. encode_all es ++ encode (end x)) n_is in
      faultless_passes m a s at (going k count) f e (at + size_of e) d (in_place_passes m a k count _ e i)
      ∙ ap (passed_on e)
      (passes_from f (at + size_of e) (k + points_of e) (count + 1) es (omega (arith, no_smaller_than_eight e)) behind c.2 h.1 (omega arith))
      ∙ hits_passed_on m a.threshold e h.0 es

  kept_passes : Small a → (hits : List ℕ) → KeepsTheRules m a s hits → verdict m a s ≡ Ok hits
  kept_passes small hits r =
      let es = r.entries in
      let first = head (heading_for m a) in
      let fits : HeadingFits (heading_for m a) =
      record { survey = small.survey; block = small.block; modulus = omega (arith, facts.modulus_high); threshold = small.threshold } in
      let t = encode_all es ++ encode (end (length es)) in
      let few : start_of m a + length es ≤ stop_of m a = covers_as_many _ _ es r.covers in
      let n : length es ≡ 0 + length es = omega arith in
      cond-false _ (Err TooLong) _ (le-ltb (2 ^ 22) (length s) r.not_too_long)
      ∙ first_turn m a s
      ∙ faultless_passes m a s 0 opening (length s) first 28 (encoded_is_read s t 0 first fits r.bytes) (head_passes m a (length s - 28))
      ∙ passes_from (length s) 28 (start_of m a) 0 es (omega arith)
      (ap (drop 28) r.bytes ∙ ap (λ x. encode_all es ++ encode (end x)) n) r.covers r.hold (omega (arith, facts.count_high))
      ∙ ap Ok (sym r.the_hits)

pub passes_exactly : (m : Meaning) (a : Assignment) → Facts m → Small a → PassesExactlyWhenTheRulesAreKept m a
passes_exactly m a facts small s hits bytes = (λ v. keeps_the_rules m a s hits v bytes, kept_passes m a s facts small hits)
