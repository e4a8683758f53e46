-- One turn of the judge: what it meets at a byte, and what an entry without a fault is.
use Rattle.std.proofs.Common.{◌≡◌, ℕ, suc, ◌+◌, ◌-◌, ◌<◌, ◌≤◌, Bool, true, false, cond, eqb, List, ◌∷◌, length, drop, Some, None, Ok, Err, Option, Result, refl, ap, ◌∙◌, add-one, arith, lit≤, length-drop}
use Rattle.std.proofs.lemmas.Bool.{not-false, not_from_true, and_parts, and_from, eqb-true, eq-eqb, le-leb, leb-false, lt-leb, ltb-false, le-ltb}
use Rattle.search.proofs.Tested.{vouching_vouches}
use Rattle.curves.specs.Meaning.{Meaning, Facts}
use Rattle.records.proofs.Encoding.{read_is_encoded}
use Rattle.records.specs.Bytes.{Bytes, field}
use Rattle.records.specs.Entries.{Entry, head, clean, hit, miss, end, encode, size_of, FitsItsFields, PointFits}
use Rattle.records.specs.Reading.{Encoded, is_short, entry_at_front, ending_at, due}
use Rattle.records.specs.declared.fault.RecordFault.{RecordFault}
use Rattle.records.specs.declared.fault.RecordFault.TheVariants.{Short, Form}
use Rattle.records.specs.declared.point.Point.{Point}
use Rattle.sheets.specs.Blocks.{stop_of}
use Rattle.sheets.specs.Clean.{reaches, vouched}
use Rattle.sheets.specs.Laws.{is_unknown, fits_some, fits_at}
use Rattle.sheets.specs.Rules.{Holds}
use Rattle.sheets.specs.Tests.{Due, opening, going, from_of, points_of, heading_for, is_elsewhere, by_number, first_that, first_fault}
use Rattle.sheets.specs.Verdict.{Judgement, after, passed_on, judged_entry, judged_from}
use Rattle.sheets.specs.declared.assignment.Assignment.{Assignment}
use Rattle.sheets.specs.declared.fault.Fault.{Fault}
use Rattle.sheets.specs.declared.fault.Fault.TheVariants.{Record, Head, Place, Reach, Numbers, Value, Closeness, End}
use Rattle.sheets.specs.declared.refusal.SheetRefusal.TheVariants.{Faulty}
use Rattle.sheets.proofs.Passed.{placed}

-- ---- what is met at a byte

-- every fault by rising number, and the first that fits at the front of the bytes t
abbrev pub every_fault : List Fault
every_fault = Record Short ∷ Record Form ∷ by_number

abbrev pub first_at : Meaning → Assignment → Due → List ℕ → Option Fault
first_at m a d t = first_that (fits_at m a d t) every_fault

module _ (m : Meaning) (a : Assignment) (d : Due) (t : List ℕ) where
  -- the same, from whether the bytes are short and what their front says
  abbrev first_by : Bool → Option Entry → Option Fault
  first_by short o = cond short (Some (Record Short)) (cond (is_unknown o) (Some (Record Form)) (first_that (fits_some m a d t o) by_number))

  pub first_of_short : is_short t ≡ true → first_at m a d t ≡ Some (Record Short)
  first_of_short h = ap (λ b. first_by b (entry_at_front t)) h

  first_of_no_record : (short : Bool) (o : Option Entry) (k : ℕ) (f : RecordFault) → cond short (Err Short) (ending_at k o) ≡ Err f →
      first_by short o ≡ Some (Record f)
  first_of_no_record true o k f h = cc
  first_of_no_record false None k f h = cc
  first_of_no_record false (Some e) k f h = cc

  first_of_entry : (short : Bool) (o : Option Entry) (k : ℕ) (e : Entry) (behind : ℕ) →
      cond short (Err Short) (ending_at k o) ≡ Ok (e, behind) → first_by short o ≡ first_fault m a d (length t - size_of e) e
  first_of_entry true o k e behind h = cc
  first_of_entry false None k e behind h = cc
  first_of_entry false (Some x) k e behind h =
      let z : ◌≡◌ {A = Entry × ℕ} (x, k) (e, behind) = cc in ap (λ y. first_fault m a d (length t - size_of y.0) y.0) z

-- the judgement j at the byte `at` is the first fault that fits, or what the entry there passes on of the judgement behind it
pub data Turn (m : Meaning) (a : Assignment) (s : List ℕ) (at : ℕ) (d : Due) (f : ℕ) (j : Judgement) : Type 0 where
  stops : (fault : Fault) → first_at m a d (drop at s) ≡ Some fault → j ≡ Err (Faulty fault at) → Turn m a s at d f j
  passes : (e : Entry) (behind : ℕ) → Encoded s at e behind → first_fault m a d (length s - behind) e ≡ None →
      j ≡ passed_on e (judged_from f m a s behind (after m a d e)) → Turn m a s at d f j

module _ (m : Meaning) (a : Assignment) (s : List ℕ) (at : ℕ) (d : Due) (f : ℕ) where
  -- the judgement by what is due, and that of an entry by its first fault
  abbrev judged_by_due : Result (Entry × ℕ) RecordFault → Judgement
  judged_by_due (Ok x) =
      judged_entry at (first_fault m a d (length s - x.1) x.0) x.0 (judged_from f m a s x.1 (after m a d x.0))
  judged_by_due (Err fault) = Err (Faulty (Record fault) at)

  abbrev judged_by_fault : (e : Entry) (behind : ℕ) → Option Fault → Judgement
  judged_by_fault e behind o = judged_entry at o e (judged_from f m a s behind (after m a d e))

  -- where an entry without a fault is due, it passes on the judgement behind it
  pub faultless_passes : (e : Entry) (behind : ℕ) → due s at ≡ Ok (e, behind) → first_fault m a d (length s - behind) e ≡ None →
      judged_from (suc f) m a s at d ≡ passed_on e (judged_from f m a s behind (after m a d e))
  faultless_passes e behind h o = ap judged_by_due h ∙ ap (judged_by_fault e behind) o

  turn_at : Bytes s → (e : Entry) (behind : ℕ) (o : Option Fault) → due s at ≡ Ok (e, behind) →
      first_fault m a d (length s - behind) e ≡ o → Turn m a s at d f (judged_from (suc f) m a s at d)
  turn_at bytes e behind (Some fault) h o =
      let t = drop at s in
      let w : length t - size_of e ≡ length s - behind = omega (arith, length-drop at s, (read_is_encoded s at e behind bytes h).ends) in
      stops fault
      (first_of_entry m a d t (is_short t) (entry_at_front t) (at + field t 0 2) e behind h ∙ ap (λ b. first_fault m a d b e) w ∙ o)
      (ap judged_by_due h ∙ ap (judged_by_fault e behind) o)
  turn_at bytes e behind None h o = passes e behind (read_is_encoded s at e behind bytes h) o (faultless_passes e behind h o)

  turn_by : Bytes s → (r : Result (Entry × ℕ) RecordFault) → due s at ≡ r → Turn m a s at d f (judged_from (suc f) m a s at d)
  turn_by bytes (Ok x) h = turn_at bytes x.0 x.1 _ h refl
  turn_by bytes (Err fault) h =
      let t = drop at s in
      stops (Record fault) (first_of_no_record m a d t (is_short t) (entry_at_front t) (at + field t 0 2) fault h) (ap judged_by_due h)

  pub turn : Bytes s → Turn m a s at d f (judged_from (suc f) m a s at d)
  turn bytes = turn_by bytes (due s at) refl

-- the turns of a verdict are one and as many as there are bytes
pub first_turn : (m : Meaning) (a : Assignment) (s : List ℕ) →
    judged_from (length s + 1) m a s 0 opening ≡ judged_from (suc (length s)) m a s 0 opening
first_turn m a s = ap (λ f. judged_from f m a s 0 opening) (add-one (length s))

-- ---- entries without a fault

-- an entry that starts at k, covers points within the block and holds
pub record InPlace (m : Meaning) (a : Assignment) (k : ℕ) (e : Entry) : Type 0 where
  pub starts : from_of e ≡ k
  pub some : 1 ≤ points_of e
  pub within : k + points_of e ≤ stop_of m a
  pub holds : Holds m a.threshold e

-- an entry without a fault, where the index k is due behind `count` entries: one in its place, or the end that is due
pub data Faultless (m : Meaning) (a : Assignment) (k count behind : ℕ) (e : Entry) : Type 0 where
  goes_on : InPlace m a k e → Faultless m a k count behind e
  ends : k ≡ stop_of m a → e ≡ end count → behind ≡ 0 → Faultless m a k count behind e

-- the first fault is none exactly where the first test fails and none is behind it
pass : (b : Bool) (f : Fault) (o : Option Fault) → b ≡ false → o ≡ None → cond b (Some f) o ≡ None
pass b f o h n = ap (λ x. cond x (Some f) o) h ∙ n

passed : (b : Bool) (f : Fault) (o : Option Fault) → cond b (Some f) o ≡ None → (b ≡ false) × (o ≡ None)
passed true f o h = (cc, cc)
passed false f o h = (refl, h)

-- a lemma, since without it the number that is left open below is not determined
same : (n : ℕ) → eqb n n ≡ true
same n = eq-eqb n n refl

module _ (m : Meaning) (a : Assignment) (k : ℕ) where
  -- an entry that holds and is not elsewhere is in its place, and back
  in_its_place : (e : Entry) → is_elsewhere k (stop_of m a) (from_of e) (points_of e) ≡ false → Holds m a.threshold e → InPlace m a k e
  in_its_place e h o =
      let p = placed k (stop_of m a) (from_of e) (points_of e) h in
      record { starts = p.0; some = p.1; within = omega arith; holds = o }

  not_elsewhere : (e : Entry) → InPlace m a k e → is_elsewhere k (stop_of m a) (from_of e) (points_of e) ≡ false
  not_elsewhere e i =
      let inside = le-leb (from_of e + points_of e) (stop_of m a) (omega arith) in
      not_from_true _ (and_from _ _ (eq-eqb _ _ i.starts) (and_from _ _ (le-leb _ _ i.some) inside))

  module _ (count behind : ℕ) where
    pub faultless : (e : Entry) → first_fault m a (going k count) behind e ≡ None → Faultless m a k count behind e
    faultless (head h) n = cc
    faultless (clean c) n =
        let x = passed _ Place _ n in
        let y = passed _ Reach _ x.1 in
        let z = passed _ Numbers None y.1 in
        let reached = not-false (reaches m c.from c.points) y.0 in
        let vouching = not-false (vouched m a.threshold c.from c.points c.evidence) z.0 in
        goes_on (in_its_place (clean c) x.0 (and_from _ _ reached vouching))
    faultless (hit q) n =
        let x = passed _ Place _ n in
        let y = passed _ Value _ x.1 in
        let e = eqb-true q.value (m.value q.index) (not-false _ y.0) in
        let l = leb-false a.threshold q.value (passed _ Closeness _ y.1).0 in
        goes_on (in_its_place (hit q) x.0 (e, omega arith))
    faultless (miss q) n =
        let x = passed _ Place _ n in
        let y = passed _ Value _ x.1 in
        let e = eqb-true q.value (m.value q.index) (not-false _ y.0) in
        let l = ltb-false q.value a.threshold (passed _ Closeness _ y.1).0 in
        goes_on (in_its_place (miss q) x.0 (e, omega arith))
    faultless (end x) n =
        let p = and_parts (eqb k (stop_of m a)) _ (not-false _ (passed _ End _ n).0) in
        let q = and_parts (eqb x count) (eqb behind 0) p.1 in
        ends (eqb-true _ _ p.0) (ap end (eqb-true _ _ q.0)) (eqb-true _ _ q.1)

    pub in_place_passes : (e : Entry) → InPlace m a k e → first_fault m a (going k count) behind e ≡ None
    in_place_passes (head h) i = absurd i.holds
    in_place_passes (clean c) i =
        let p = and_parts (reaches m c.from c.points) (vouched m a.threshold c.from c.points c.evidence) i.holds in
        pass _ Place _ (not_elsewhere (clean c) i) (pass _ Reach _ (not_from_true _ p.0) (pass _ Numbers _ (not_from_true _ p.1) refl))
    in_place_passes (hit q) i =
        pass _ Place _ (not_elsewhere (hit q) i)
        (pass _ Value _ (not_from_true _ (eq-eqb _ _ i.holds.0)) (pass _ Closeness _ (lt-leb a.threshold q.value (omega arith)) refl))
    in_place_passes (miss q) i =
        pass _ Place _ (not_elsewhere (miss q) i)
        (pass _ Value _ (not_from_true _ (eq-eqb _ _ i.holds.0)) (pass _ Closeness _ (le-ltb q.value a.threshold (omega arith)) refl))
    in_place_passes (end n) i = absurd i.holds

    pub end_passes : k ≡ stop_of m a → behind ≡ 0 → first_fault m a (going k count) behind (end count) ≡ None
    end_passes h z = pass _ End _ (not_from_true _ (and_from _ _ (eq-eqb _ _ h) (and_from _ _ (same count) (eq-eqb _ _ z)))) refl

module _ (m : Meaning) (a : Assignment) (behind : ℕ) where
  -- the head without a fault is the one for this block
  pub head_is_due : (e : Entry) → first_fault m a opening behind e ≡ None → e ≡ head (heading_for m a)
  head_is_due (head h) n =
      let p = and_parts (eqb h.survey a.survey) _ (not-false _ (passed _ Head _ n).0) in
      let q = and_parts (eqb h.block a.block) _ p.1 in
      let r = and_parts (eqb h.modulus m.modulus) (eqb h.threshold a.threshold) q.1 in
      λ i. head (record {
        survey = eqb-true _ _ p.0 i;
        block = eqb-true _ _ q.0 i;
        modulus = eqb-true _ _ r.0 i;
        threshold = eqb-true _ _ r.1 i;
      })
  head_is_due (clean c) n = cc
  head_is_due (hit p) n = cc
  head_is_due (miss p) n = cc
  head_is_due (end x) n = cc

  pub head_passes : first_fault m a opening behind (head (heading_for m a)) ≡ None
  head_passes =
      let large = and_from _ _ (same m.modulus) (same a.threshold) in
      pass _ Head _ (not_from_true _ (and_from _ _ (same a.survey) (and_from _ _ (same a.block) large))) refl

-- ---- the bytes of an entry

pub length_of_encode : (e : Entry) → length (encode e) ≡ size_of e
length_of_encode (head h) = refl
length_of_encode (clean c) = refl
length_of_encode (hit p) = refl
length_of_encode (miss p) = refl
length_of_encode (end n) = refl

pub no_smaller_than_eight : (e : Entry) → 8 ≤ size_of e
no_smaller_than_eight (head h) = lit≤ tt
no_smaller_than_eight (clean c) = lit≤ tt
no_smaller_than_eight (hit p) = lit≤ tt
no_smaller_than_eight (miss p) = lit≤ tt
no_smaller_than_eight (end n) = lit≤ tt

point_fits : (m : Meaning) (p : Point) → Facts m → p.index < m.count → p.value ≡ m.value p.index → PointFits p
point_fits m p f h e = let v = f.value_below p.index h in omega arith

-- the numbers of an entry in its place fit their fields
pub in_place_fits : (m : Meaning) (a : Assignment) (k : ℕ) (e : Entry) → Facts m → InPlace m a k e → FitsItsFields e
in_place_fits m a k (head h) f i = absurd i.holds
in_place_fits m a k (clean c) f i =
    let p = and_parts (reaches m c.from c.points) (vouched m a.threshold c.from c.points c.evidence) i.holds in
    let w = (vouching_vouches _ _ _ _ _ c.evidence p.1).within in
    omega (arith, f.modulus_high, f.count_high)
in_place_fits m a k (hit p) f i = point_fits m p f (omega arith) i.holds.0
in_place_fits m a k (miss p) f i = point_fits m p f (omega arith) i.holds.0
in_place_fits m a k (end n) f i = absurd i.holds
