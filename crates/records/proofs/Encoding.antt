-- What is encoded is read, and what is read is encoded.
use Rattle.std.proofs.Common.{◌≡◌, ℕ, zero, suc, ◌+◌, ◌-◌, ◌*◌, ◌/◌, ◌%◌, ◌^◌, ◌<◌, ◌≤◌, Bool, true, false, cond, ◌&&◌, eqb, List, [], ◌∷◌, ◌++◌, length, take, drop, Some, None, Ok, Err, Option, Result, sym, refl, ap, ◌∙◌, subst, append-nil, mod-lt, arith, lit≤, length-drop, take-append-drop}
use native.Mathlib.Nat.{div-add-mod, pow-succ'}
use Rattle.std.proofs.lemmas.List.{drop-drop, drop_all, length-take-le}
use Rattle.std.proofs.lemmas.Bool.{le-ltb, ltb-false, eqb-true, and_parts, or_from, or_parts, cond-false}
use Rattle.records.specs.Bytes.{little, bytes_of, field, Bytes}
use Rattle.records.specs.Entries.{Entry, head, clean, hit, miss, end, heading_in, clean_in, point_in, kind_of, size_of}
use Rattle.records.specs.Entries.{heading_bytes, clean_bytes, point_bytes, body_of, encode}
use Rattle.records.specs.Entries.{FitsItsFields, HeadingFits, CleanFits, PointFits}
use Rattle.records.specs.Reading.{is_short, entry_of, entry_at_front, ending_at}
use Rattle.records.specs.Reading.{WhatIsEncodedIsRead, WhatIsReadIsEncoded}
use Rattle.records.specs.declared.clean.CleanStretch.{CleanStretch}
use Rattle.records.specs.declared.fault.RecordFault.{RecordFault}
use Rattle.records.specs.declared.fault.RecordFault.TheVariants.{Short}
use Rattle.records.specs.declared.heading.Heading.{Heading}
use Rattle.records.specs.declared.point.Point.{Point}

-- ---- numbers and their bytes

-- the bytes of a number write it
little_of_bytes : (w n : ℕ) → n < 256 ^ w → little (bytes_of w n) ≡ n
little_of_bytes zero n h = omega arith
little_of_bytes (suc w) n h =
    let d = div-add-mod n 256 in
    let r = little_of_bytes w (n / 256) (omega (arith, pow-succ' 256 w)) in
    omega arith

-- w bytes write a number below 256 ^ w
little_below : (w : ℕ) (b : List ℕ) → Bytes b → little (take w b) < 256 ^ w
little_below zero b bytes = omega arith
little_below (suc w) [] bytes = omega (arith, pow-succ' 256 w, little_below w [] tt)
little_below (suc w) (x ∷ b) bytes = omega (arith, pow-succ' 256 w, little_below w b bytes.1, bytes.0)

-- the first w bytes are those of the number that they write
front_stands : (w : ℕ) (b : List ℕ) → Bytes b → w ≤ length b → b ≡ bytes_of w (little (take w b)) ++ drop w b
front_stands zero b bytes h = refl
front_stands (suc w) [] bytes h = absurd (omega arith)
front_stands (suc w) (x ∷ b) bytes h =
    let n = x + 256 * little (take w b) in
    let l = bytes.0 in
    let d = div-add-mod n 256 in
    let m : n % 256 < 256 = mod-lt n (omega arith) in
    let lowest : n % 256 ≡ x = omega arith in
    let others : n / 256 ≡ little (take w b) = omega arith in
    let e = front_stands w b bytes.1 (omega arith) in
    cc

bytes_in_front : (n : ℕ) (b : List ℕ) → Bytes b → Bytes (take n b)
bytes_in_front zero b bytes = tt
bytes_in_front (suc n) [] bytes = tt
bytes_in_front (suc n) (x ∷ b) bytes = (bytes.0, bytes_in_front n b bytes.1)

bytes_behind : (n : ℕ) (b : List ℕ) → Bytes b → Bytes (drop n b)
bytes_behind zero b bytes = bytes
bytes_behind (suc n) [] bytes = tt
bytes_behind (suc n) (x ∷ b) bytes = bytes_behind n b bytes.1

-- ---- what is encoded is read

four : {n : ℕ} → n < 2 ^ 32 → little (bytes_of 4 n) ≡ n
four {n} h = little_of_bytes 4 n h

eight : {n : ℕ} → n < 2 ^ 64 → little (bytes_of 8 n) ≡ n
eight {n} h = little_of_bytes 8 n h

heading_read : (h : Heading) → HeadingFits h → heading_in (heading_bytes h) ≡ h
heading_read h f = λ i. record {
  survey = four f.survey i;
  block = four f.block i;
  modulus = eight f.modulus i;
  threshold = eight f.threshold i;
}

clean_read : (c : CleanStretch) → CleanFits c → clean_in (clean_bytes c) ≡ c
clean_read c f = λ i. record {
  from = four f.from i;
  points = four f.points i;
  evidence = record { u = four f.u i; v = four f.v i; r = four f.r i; x = eight f.x i; y = eight f.y i };
}

point_read : (p : Point) → PointFits p → point_in (point_bytes p) ≡ p
point_read p f = λ i. record { index = four f.index i; value = eight f.value i }

-- what is due at a place, of the bytes from there on
abbrev due_in : (at : ℕ) → List ℕ → Result (Entry × ℕ) RecordFault
due_in at t = cond (is_short t) (Err Short) (ending_at (at + field t 0 2) (entry_at_front t))

-- bytes that are no fewer than they state are not short
due_in_long : (at : ℕ) (t : List ℕ) → 4 ≤ length t → field t 0 2 ≤ length t
    → due_in at t ≡ ending_at (at + field t 0 2) (entry_at_front t)
due_in_long at t h l =
    cond-false (is_short t) (Err Short) (ending_at (at + field t 0 2) (entry_at_front t))
    (or_from _ _ (le-ltb (length t) 4 h) (le-ltb (length t) (field t 0 2) l))

encoded_is_due : (at : ℕ) (e : Entry) (t : List ℕ) → FitsItsFields e → due_in at (encode e ++ t) ≡ Ok (e, at + size_of e)
encoded_is_due at (head h) t f =
    due_in_long at (encode (head h) ++ t) (omega arith) (omega arith) ∙ ap (λ k. Ok (head k, at + 28)) (heading_read h f)
encoded_is_due at (clean c) t f =
    due_in_long at (encode (clean c) ++ t) (omega arith) (omega arith) ∙ ap (λ k. Ok (clean k, at + 40)) (clean_read c f)
encoded_is_due at (hit p) t f =
    due_in_long at (encode (hit p) ++ t) (omega arith) (omega arith) ∙ ap (λ k. Ok (hit k, at + 16)) (point_read p f)
encoded_is_due at (miss p) t f =
    due_in_long at (encode (miss p) ++ t) (omega arith) (omega arith) ∙ ap (λ k. Ok (miss k, at + 16)) (point_read p f)
encoded_is_due at (end n) t f =
    due_in_long at (encode (end n) ++ t) (omega arith) (omega arith) ∙ ap (λ k. Ok (end k, at + 8)) (four f)

pub encoded_is_read : WhatIsEncodedIsRead
encoded_is_read s t at e f h = ap (due_in at) h ∙ encoded_is_due at e t f

-- ---- what is read is encoded

module _ (b : List ℕ) (bytes : Bytes b) where
  -- the w bytes from the place i on are those of the number in them
  part_stands : (i w : ℕ) (r : List ℕ) → i + w ≤ length b → drop (i + w) b ≡ r → drop i b ≡ bytes_of w (field b i w) ++ r
  part_stands i w r h e =
      front_stands w (drop i b) (bytes_behind i b bytes) (omega (arith, length-drop i b))
      ∙ ap (λ z. bytes_of w (field b i w) ++ z) (drop-drop w i b ∙ e)

  last_stands : (i w : ℕ) → length b ≡ i + w → drop i b ≡ bytes_of w (field b i w)
  last_stands i w h =
      part_stands i w [] (omega arith) (drop_all (i + w) b (omega arith)) ∙ append-nil (bytes_of w (field b i w))

  field_below : (i w : ℕ) → field b i w < 256 ^ w
  field_below i w = little_below w (drop i b) (bytes_behind i b bytes)

  heading_stands : length b ≡ 24 → b ≡ heading_bytes (heading_in b)
  heading_stands l =
      part_stands 0 4 _ (omega arith)
      (part_stands 4 4 _ (omega arith) (part_stands 8 8 _ (omega arith) (last_stands 16 8 l)))

  heading_fits : HeadingFits (heading_in b)
  heading_fits = record { survey = field_below 0 4; block = field_below 4 4; modulus = field_below 8 8; threshold = field_below 16 8 }

  clean_stands : length b ≡ 36 → b ≡ clean_bytes (clean_in b)
  clean_stands l =
      part_stands 0 4 _ (omega arith)
      (part_stands 4 4 _ (omega arith)
      (part_stands 8 4 _ (omega arith)
      (part_stands 12 4 _ (omega arith)
      (part_stands 16 4 _ (omega arith) (part_stands 20 8 _ (omega arith) (last_stands 28 8 l))))))

  clean_fits : CleanFits (clean_in b)
  clean_fits = record {
    from = field_below 0 4;
    points = field_below 4 4;
    u = field_below 8 4;
    v = field_below 12 4;
    r = field_below 16 4;
    x = field_below 20 8;
    y = field_below 28 8;
  }

  point_stands : length b ≡ 12 → b ≡ point_bytes (point_in b)
  point_stands l = part_stands 0 4 _ (omega arith) (last_stands 4 8 l)

  point_fits : PointFits (point_in b)
  point_fits = record { index = field_below 0 4; value = field_below 4 8 }

-- a record of that kind and size and with that body is the one that encodes the entry
record Tells (kind size : ℕ) (body : List ℕ) (e : Entry) : Type 0 where
  kind_is : kind ≡ kind_of e
  size_is : size ≡ size_of e
  body_is : body ≡ body_of e
  fits : FitsItsFields e

-- what is found is x if the test holds, and else among the others
found : (P : Entry → Type 0) (e : Entry) (test : Bool) (x : Entry) (others : Option Entry)
    → cond test (Some x) others ≡ Some e → (test ≡ true → P x) → (others ≡ Some e → P e) → P e
found P e true x others h p q = let i : x ≡ e = cc in subst P i (p refl)
found P e false x others h p q = q h

module _ (kind size : ℕ) (body : List ℕ) (bytes : Bytes body) (l : length body ≡ size - 4) where
  tells_by_test : (x : Entry) → FitsItsFields x → (length body ≡ size_of x - 4 → body ≡ body_of x)
      → (eqb kind (kind_of x) && eqb size (size_of x)) ≡ true → Tells kind size body x
  tells_by_test x f b t =
      let q = and_parts (eqb kind (kind_of x)) (eqb size (size_of x)) t in
      let z = eqb-true size (size_of x) q.1 in
      record { kind_is = eqb-true kind (kind_of x) q.0; size_is = z; body_is = b (cc); fits = f }

  tells : (e : Entry) → entry_of kind size body ≡ Some e → Tells kind size body e
  tells e h =
      let P = Tells kind size body in
      let p = point_in body in
      found P e _ _ _ h (tells_by_test (head (heading_in body)) (heading_fits body bytes) (heading_stands body bytes)) (λ h.
      found P e _ _ _ h (tells_by_test (clean (clean_in body)) (clean_fits body bytes) (clean_stands body bytes)) (λ h.
      found P e _ _ _ h (tells_by_test (hit p) (point_fits body bytes) (point_stands body bytes)) (λ h.
      found P e _ _ _ h (tells_by_test (miss p) (point_fits body bytes) (point_stands body bytes)) (λ h.
      found P e _ _ _ h (tells_by_test (end (field body 0 4)) (field_below body bytes 0 4) (last_stands body bytes 0 4)) (λ h.
      cc)))))

no_smaller_than_four : (e : Entry) → 4 ≤ size_of e
no_smaller_than_four (head h) = lit≤ tt
no_smaller_than_four (clean c) = lit≤ tt
no_smaller_than_four (hit p) = lit≤ tt
no_smaller_than_four (miss p) = lit≤ tt
no_smaller_than_four (end n) = lit≤ tt

-- where an entry is due, the bytes are not short and their front says it
due_since : (short : Bool) (k : ℕ) (o : Option Entry) (e : Entry) (behind : ℕ)
    → cond short (Err Short) (ending_at k o) ≡ Ok (e, behind) → (short ≡ false) × (o ≡ Some e) × (k ≡ behind)
due_since true k o e behind h = (cc, cc, cc)
due_since false k None e behind h = (refl, cc, cc)
due_since false k (Some x) e behind h =
    let z : ◌≡◌ {A = Entry × ℕ} (x, k) (e, behind) = cc in (refl, ap (λ y. Some y.0) z, ap (λ y. y.1) z)

pub read_is_encoded : WhatIsReadIsEncoded
read_is_encoded s at e behind bytes h =
    let t = drop at s in
    let size = field t 0 2 in
    let body = take (size - 4) (drop 4 t) in
    let bytes_t = bytes_behind at s bytes in
    let d = due_since (is_short t) (at + size) (entry_at_front t) e behind h in
    let long = or_parts _ _ d.0 in
    let l : 4 ≤ length t = ltb-false (length t) 4 long.0 in
    let m : size ≤ length t = ltb-false (length t) size long.1 in
    let n : length body ≡ size - 4 = length-take-le (size - 4) (drop 4 t) (omega (arith, length-drop 4 t)) in
    let k = tells (field t 2 2) size body (bytes_in_front (size - 4) (drop 4 t) (bytes_behind 4 t bytes_t)) n e d.1 in
    let z : at + (4 + (size - 4)) ≡ behind = omega (arith, k.size_is, no_smaller_than_four e, d.2) in
    let rest : drop 4 t ≡ body ++ drop behind s =
    sym (take-append-drop (size - 4) (drop 4 t))
    ∙ ap (λ r. body ++ r) (drop-drop (size - 4) 4 t ∙ drop-drop (4 + (size - 4)) at s ∙ ap (λ i. drop i s) z) in
    record {
      stands =
          part_stands t bytes_t 0 2 _ (omega arith) (part_stands t bytes_t 2 2 _ l rest)
          ∙ λ i. bytes_of 2 (k.size_is i) ++ (bytes_of 2 (k.kind_is i) ++ (k.body_is i ++ drop behind s));
      ends = omega (arith, k.size_is, d.2);
      fits = k.fits;
    }
