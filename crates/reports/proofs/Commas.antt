-- Cutting a text at its first comma.
use Rattle.std.proofs.Common.{◌≡◌, ℕ, suc, ◌+◌, ◌<◌, ◌≤◌, Bool, true, false, not, cond, eqb, List, [], ◌∷◌, length, take, drop, Some, None, Option, is_some, refl, ap, lit<, arith}
use Rattle.std.specs.List.{position, position_or_len}
use Rattle.std.specs.Option.{option_map}
use Rattle.reports.specs.Rest.{fields_after}
use Rattle.reports.specs.Lines.{onto, fields}

abbrev pub comma : ℕ → Bool
comma c = eqb c 44

-- a comma or another byte in front leaves some field
a_field_behind : (c : ℕ) (b : Bool) (fs : List (List ℕ)) → 0 < length (cond b ([] ∷ fs) (onto (c ∷ []) fs))
a_field_behind c true fs = omega arith
a_field_behind c false [] = omega arith
a_field_behind c false (f ∷ fs) = omega arith

-- one byte more in front, which is a comma or is not
a_comma_behind : (c : ℕ) (cs : List ℕ) (b : Bool) (n : ℕ) → (n < length cs → fields cs ≡ take n cs ∷ fields (drop (n + 1) cs)) →
    cond (not b) (1 + n) 0 < length (c ∷ cs) →
    cond b ([] ∷ fields cs) (onto (c ∷ []) (fields cs)) ≡ take (cond (not b) (1 + n) 0) (c ∷ cs) ∷ fields (drop (cond (not b) (1 + n) 0 + 1) (c ∷ cs))
a_comma_behind c cs true n ih h = refl
a_comma_behind c cs false n ih h =
    let e : 1 + n ≡ suc n = omega arith in
    let f : 1 + n + 1 ≡ suc (n + 1) = omega arith in
    rw (f, e) (ap (onto (c ∷ [])) (ih (omega (arith, h))))

at_first_comma : (s : List ℕ) → position_or_len comma s < length s →
    fields s ≡ take (position_or_len comma s) s ∷ fields (drop (position_or_len comma s + 1) s)
at_first_comma [] h = absurd (omega (arith, h))
at_first_comma (c ∷ cs) h = a_comma_behind c cs (comma c) (position_or_len comma cs) (at_first_comma cs) h

no_comma_behind : (c : ℕ) (cs : List ℕ) (b : Bool) (n : ℕ) → (length cs ≤ n → fields cs ≡ cs ∷ []) → length (c ∷ cs) ≤ cond (not b) (1 + n) 0 →
    cond b ([] ∷ fields cs) (onto (c ∷ []) (fields cs)) ≡ (c ∷ cs) ∷ []
no_comma_behind c cs true n ih h = absurd (omega (arith, h))
no_comma_behind c cs false n ih h = ap (onto (c ∷ [])) (ih (omega (arith, h)))

at_no_comma : (s : List ℕ) → length s ≤ position_or_len comma s → fields s ≡ s ∷ []
at_no_comma [] h = refl
at_no_comma (c ∷ cs) h = no_comma_behind c cs (comma c) (position_or_len comma cs) (at_no_comma cs) h

pub cut_there : (s : List ℕ) (i : ℕ) → Some i ≡ position comma s → fields s ≡ take i s ∷ fields (drop (i + 1) s)
cut_there s i e =
    let h : position_or_len comma s < length s = grind arith in
    let k : i ≡ position_or_len comma s = grind arith in
    rw k (at_first_comma s h)

pub one_field : (s : List ℕ) → None ≡ position comma s → fields s ≡ s ∷ []
one_field s e =
    let h : length s ≤ position_or_len comma s = grind arith in
    at_no_comma s h

pub some_field : (s : List ℕ) → 0 < length (fields s)
some_field [] = lit< tt
some_field (c ∷ cs) = a_field_behind c (comma c) (fields cs)

-- no field is left just where no text is
pub none_left : {X : Type 0} (text : X → List ℕ) (left : Option X) (b : Bool) → is_some left ≡ not b → b ≡ eqb (length (fields_after (option_map text left))) 0
none_left text None b e = grind arith
none_left text (Some t) b e = let h = some_field (text t) in grind arith
