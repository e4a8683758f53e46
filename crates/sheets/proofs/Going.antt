-- The judge goes on from record to record.
use Rattle.std.proofs.Common.{◌≡◌, ℕ, zero, suc, ◌+◌, ◌<◌, ◌≤◌, List, [], ◌∷◌, ◌++◌, length, get_or, take, drop, set, Ok, Err, sym, refl, ap, ◌∙◌, subst, ⊎_elim, append_assoc, arith, length-drop, length-take}
use Rattle.std.proofs.lemmas.List.{length-append, take_all, drop_all, drop_more, take-append-le, set_at, set_past}
use Rattle.std.proofs.lemmas.Bool.{cases_lt}
use Rattle.curves.specs.Meaning.{Meaning}
use Rattle.sheets.specs.Blocks.{start_of}
use Rattle.sheets.specs.Inner.{Told, Turned, UnderWay, judged_behind, with_hits}
use Rattle.sheets.specs.Tests.{going}
use Rattle.sheets.specs.Verdict.{Judgement, with_hit, judged_from, laid}
use Rattle.sheets.specs.declared.assignment.Assignment.{Assignment}
use Rattle.sheets.specs.declared.refusal.SheetRefusal.{SheetRefusal}
use Rattle.sheets.specs.declared.turn.Turn.TheVariants.{Over, Hit, On}

-- ---- hits so far

one_more_hit : (hits : List ℕ) (k : ℕ) (j : Judgement) → with_hits hits (with_hit k j) ≡ with_hits (hits ++ k ∷ []) j
one_more_hit [] k j = refl
one_more_hit (h ∷ hits) k j = ap (with_hit h) (one_more_hit hits k j)

hits_at_the_end : (hits : List ℕ) → with_hits hits (Ok []) ≡ Ok hits
hits_at_the_end [] = refl
hits_at_the_end (h ∷ hits) = ap (with_hit h) (hits_at_the_end hits)

hits_before_a_refusal : (hits : List ℕ) (r : SheetRefusal) → with_hits hits (Err r) ≡ Err r
hits_before_a_refusal [] r = refl
hits_before_a_refusal (h ∷ hits) r = ap (with_hit h) (hits_before_a_refusal hits r)

-- a hit more, laid behind the others where there is room
laid_with_room : (hits before : List ℕ) (k : ℕ) → length before ≡ 512 → length hits < 512 →
    set (laid hits before) (length hits) k ≡ laid (hits ++ k ∷ []) before
laid_with_room hits before k room few =
    let n = length hits in
    let more : length (hits ++ k ∷ []) ≡ n + 1 = length-append hits (k ∷ []) in
    ap (λ h. set (h ++ drop n before) n k) (take_all 512 hits (omega arith))
    ∙ ap (λ h. set (hits ++ h) n k) (drop_more before n 0 (omega arith))
    ∙ set_at hits (get_or before n 0) (drop (n + 1) before) k n refl
    ∙ sym (append_assoc hits (k ∷ []) (drop (n + 1) before))
    ∙ ap (λ h. h ++ drop (n + 1) before) (sym (take_all 512 (hits ++ k ∷ []) (omega arith)))
    ∙ ap (λ i. take 512 (hits ++ k ∷ []) ++ drop i before) (sym more)

laid_without_room : (hits before : List ℕ) (k : ℕ) → length before ≡ 512 → 512 ≤ length hits →
    set (laid hits before) (length hits) k ≡ laid (hits ++ k ∷ []) before
laid_without_room hits before k room many =
    let n = length hits in
    let more : length (hits ++ k ∷ []) ≡ n + 1 = length-append hits (k ∷ []) in
    let long : length (laid hits before) ≡ 512 =
    length-append (take 512 hits) (drop n before) ∙ simp (length-take, length-drop) (omega arith) in
    set_past (laid hits before) n k (omega arith)
    ∙ ap (λ h. take 512 hits ++ h) (drop_all n before (omega arith) ∙ sym (drop_all (length (hits ++ k ∷ [])) before (omega arith)))
    ∙ ap (λ h. h ++ drop (length (hits ++ k ∷ [])) before) (sym (take-append-le 512 hits (k ∷ []) many))

laid_one_more : (hits before : List ℕ) (k : ℕ) → length before ≡ 512 → set (laid hits before) (length hits) k ≡ laid (hits ++ k ∷ []) before
laid_one_more hits before k room =
    ⊎_elim (laid_with_room hits before k room) (laid_without_room hits before k room) (cases_lt (length hits) 512)

-- ---- a turn

module _ (m : Meaning) (a : Assignment) (s : List ℕ) (from : ℕ) (before : List ℕ) where
  pub begins : (next : ℕ) → next ≡ start_of m a → 1 ≤ from → from ≤ length s → UnderWay m a s from from next 0 0 before before
  begins next is some within =
      record {
        within = within;
        below = omega arith;
        few = omega arith;
        fewer = omega arith;
        turns = length s;
        enough = omega arith;
        hits = [];
        counts = refl;
        laid_down = refl;
        remains = ap (λ k. judged_from (length s) m a s from (going k 0)) (sym is);
      }

  -- the same with other words for the numbers
  pub as_named : (at at' k k' records count count' : ℕ) (held held' : List ℕ) → at' ≡ at → k' ≡ k → count' ≡ count → held' ≡ held →
      UnderWay m a s from at k records count before held → UnderWay m a s from at' k' records count' before held'
  as_named at at' k k' records count count' held held' e f g h u =
      let P : ℕ → Type 0 = λ x. UnderWay m a s from x k' records count' before held' in
      let Q : ℕ → Type 0 = λ x. UnderWay m a s from at x records count' before held' in
      let R : ℕ → Type 0 = λ x. UnderWay m a s from at k records x before held' in
      let S : List ℕ → Type 0 = λ x. UnderWay m a s from at k records count before x in
      subst P (sym e) (subst Q (sym f) (subst R (sym g) (subst S (sym h) u)))

  module _ (at k records count : ℕ) (held : List ℕ) (u : UnderWay m a s from at k records count before held) where
    -- the judgement after one turn, since a turn is left
    after_a_turn : (j : ℕ → Judgement) → ((turns : ℕ) → judged_from (suc turns) m a s at (going k records) ≡ j turns) →
        (turns : ℕ) × (u.turns ≡ suc turns) × (judged_behind m a s from ≡ with_hits u.hits (j turns))
    after_a_turn j turn = by u.turns refl
      where
        by : (t : ℕ) → u.turns ≡ t → (turns : ℕ) × (u.turns ≡ suc turns) × (judged_behind m a s from ≡ with_hits u.hits (j turns))
        by zero e = absurd (omega (arith, u.enough, u.within))
        by (suc t) e = (
          t,
          e,
          u.remains
              ∙ ap (λ n. with_hits u.hits (judged_from n m a s at (going k records))) e
              ∙ ap (with_hits u.hits) (turn t),
        )

    pub refused : (r : SheetRefusal) → Turned m a s at k records (Err r) → judged_behind m a s from ≡ Err r
    refused r turn = (after_a_turn (λ _. Err r) turn).2 ∙ hits_before_a_refusal u.hits r

    pub over : Turned m a s at k records (Ok Over) → Told (judged_behind m a s from) before held (Ok count)
    over turn = (u.hits, (after_a_turn (λ _. Ok []) turn).2 ∙ hits_at_the_end u.hits, u.counts, u.laid_down)

    pub goes_on_with_a_hit : (b : ℕ) (new : List ℕ) → Turned m a s at k records (Ok (Hit b)) → length before ≡ 512 → new ≡ set held count k →
        UnderWay m a s from b (k + 1) (records + 1) (count + 1) before new
    goes_on_with_a_hit b new turn room is =
        let t = after_a_turn _ turn.1 in
        record {
          within = turn.0.within;
          below = turn.0.below;
          few = omega (arith, turn.0.later, u.few);
          fewer = omega (arith, turn.0.later, u.fewer);
          turns = t.0;
          enough = omega (arith, turn.0.later, u.enough, t.1);
          hits = u.hits ++ k ∷ [];
          counts = omega (arith, u.counts, length-append u.hits (k ∷ []));
          laid_down =
              is ∙ ap (λ h. set h count k) u.laid_down ∙ ap (λ n. set (laid u.hits before) n k) u.counts
              ∙ laid_one_more u.hits before k room;
          remains = t.2 ∙ one_more_hit u.hits k _;
        }

    pub goes_on : (b next : ℕ) → Turned m a s at k records (Ok (On b next)) → UnderWay m a s from b next (records + 1) count before held
    goes_on b next turn =
        let t = after_a_turn _ turn.1 in
        record {
          within = turn.0.within;
          below = turn.0.below;
          few = omega (arith, turn.0.later, u.few);
          fewer = omega (arith, turn.0.later, u.fewer);
          turns = t.0;
          enough = omega (arith, turn.0.later, u.enough, t.1);
          hits = u.hits;
          counts = u.counts;
          laid_down = u.laid_down;
          remains = t.2;
        }
