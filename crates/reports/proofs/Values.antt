-- Reading the numbers of the fields one by one.
use Rattle.std.proofs.Common.{◌≡◌, ℕ, zero, suc, ◌+◌, ◌<◌, ◌≤◌, false, eqb, List, [], ◌∷◌, ◌++◌, length, set, Some, None, Option, sym, refl, ap, ◌∙◌, append_assoc, arith}
use Rattle.std.specs.Bool.{then_some}
use Rattle.std.specs.Option.{option_map}
use Rattle.std.proofs.lemmas.List.{length-append, append-nil}
use Rattle.std.proofs.lemmas.Bool.{ne_eqb, cond-false, eq-eqb}
use Rattle.reports.specs.Lines.{number as number_first, number_of, with_number, numbers_of, exactly, padded}

-- numbers that were read before the others
abbrev pub before : List ℕ → Option (List ℕ) → Option (List ℕ)
before p None = None
before p (Some ns) = Some (p ++ ns)

before_more : (p : List ℕ) (n : ℕ) (o : Option (List ℕ)) → before p (with_number (Some n) o) ≡ before (p ++ n ∷ []) o
before_more p n None = refl
before_more p n (Some ns) = ap Some (sym (append_assoc p (n ∷ []) ns))

-- what was read of the fields s: ns, as many as i, of which the values hold the first 32, and then come the fields that are left
pub record SoFar (s : List (List ℕ)) (i : ℕ) (values : List ℕ) (left : List (List ℕ)) : Type 0 where
  pub ns : List ℕ
  pub many : length ns ≡ i
  pub kept : values ≡ padded 32 ns
  pub all : numbers_of s ≡ before ns (numbers_of left)

-- one number more is set in the first free place, if there is one
padded_set : (n : ℕ) (vs : List ℕ) (v : ℕ) → length vs < n → set (padded n vs) (length vs) v ≡ padded n (vs ++ v ∷ [])
padded_set zero vs v h = absurd (omega (arith, h))
padded_set (suc n) [] v h = refl
padded_set (suc n) (w ∷ vs) v h = ap (λ (z : List ℕ). w ∷ z) (padded_set n vs v (omega arith))

padded_full : (n : ℕ) (vs : List ℕ) (v : ℕ) → n ≤ length vs → padded n vs ≡ padded n (vs ++ v ∷ [])
padded_full zero vs v h = refl
padded_full (suc n) [] v h = absurd (omega (arith, h))
padded_full (suc n) (w ∷ vs) v h = ap (λ (z : List ℕ). w ∷ z) (padded_full n vs v (omega arith))

pub set_where_free : {s : List (List ℕ)} (i : ℕ) {values : List ℕ} {left : List (List ℕ)} (f : SoFar s i values left) (v : ℕ) → i < 32 →
    set values i v ≡ padded 32 (f.ns ++ v ∷ [])
set_where_free i f v h =
    ap (λ (z : List ℕ). set z i v) f.kept ∙ ap (λ (k : ℕ). set (padded 32 f.ns) k v) (sym f.many) ∙ padded_set 32 f.ns v (omega (arith, f.many))

pub left_where_full : {s : List (List ℕ)} {i : ℕ} {values : List ℕ} {left : List (List ℕ)} (f : SoFar s i values left) (v : ℕ) → 32 ≤ i →
    values ≡ padded 32 (f.ns ++ v ∷ [])
left_where_full f v h = f.kept ∙ padded_full 32 f.ns v (omega (arith, f.many))

-- the number that the first field says is the first of the numbers
with_the_others : (o : Option ℕ) (fs : List (List ℕ)) (v : ℕ) (after : List (List ℕ)) →
    ◌≡◌ {A = Option (ℕ × List (List ℕ))} (Some (v, after)) (option_map (λ n. (n, fs)) o) →
    with_number o (numbers_of fs) ≡ with_number (Some v) (numbers_of after)
with_the_others None fs v after e = cc
with_the_others (Some n) fs v after e =
    let q : ◌≡◌ {A = ℕ × List (List ℕ)} (n, fs) (v, after) = cc in
    ap (λ (p : ℕ × List (List ℕ)). with_number (Some p.0) (numbers_of p.1)) q

number_there : (left : List (List ℕ)) (v : ℕ) (after : List (List ℕ)) → Some (v, after) ≡ number_first left →
    numbers_of left ≡ with_number (Some v) (numbers_of after)
number_there [] v after e = cc
number_there (f ∷ fs) v after e = with_the_others (number_of f) fs v after e

pub one_number_on : {s : List (List ℕ)} {i : ℕ} {values : List ℕ} {left : List (List ℕ)} (sf : SoFar s i values left) (v : ℕ) (values' : List ℕ) (after : List (List ℕ)) →
    Some (v, after) ≡ number_first left → values' ≡ padded 32 (sf.ns ++ v ∷ []) → SoFar s (i + 1) values' after
one_number_on {left} sf v values' after e k =
    record {
      ns = sf.ns ++ v ∷ [];
      many = length-append sf.ns (v ∷ []) ∙ ap (λ (n : ℕ). n + 1) sf.many;
      kept = k;
      all = sf.all ∙ ap (before sf.ns) (number_there left v after e) ∙ before_more sf.ns v (numbers_of after);
    }

-- too few numbers, or too many
not_as_many : (n : ℕ) (ns : List ℕ) → (length ns ≡ n → ⊥) → None ≡ exactly n (Some ns)
not_as_many n ns h = sym (cond-false (eqb (length ns) n) (Some ns) None (ne_eqb _ _ h))

one_too_many : (n : ℕ) (p : List ℕ) (o : Option ℕ) (ns : Option (List ℕ)) → length p ≡ n → None ≡ exactly n (before p (with_number o ns))
one_too_many n p None ns h = refl
one_too_many n p (Some v) None h = refl
one_too_many n p (Some v) (Some ns) h = not_as_many n (p ++ v ∷ ns) (λ e. omega (arith, length-append p (v ∷ ns)))

just_as_many : (n : ℕ) (p : List ℕ) (left : List (List ℕ)) → length p ≡ n →
    then_some (eqb (length left) 0) (padded 32 p) ≡ option_map (padded 32) (exactly n (before p (numbers_of left)))
just_as_many n p [] h = rw (append-nil p, eq-eqb (length p) n h) refl
just_as_many n p (f ∷ fs) h =
    let e : eqb (length (f ∷ fs)) 0 ≡ false = ne_eqb (length (f ∷ fs)) 0 (λ q. omega (arith, q)) in
    rw e (ap (option_map (padded 32)) (one_too_many n p (number_of f) (numbers_of fs) h))

pub all_read : {s : List (List ℕ)} (n i : ℕ) {values : List ℕ} {left : List (List ℕ)} (sf : SoFar s i values left) → i ≡ n →
    then_some (eqb (length left) 0) values ≡ option_map (padded 32) (exactly n (numbers_of s))
all_read n i {left} sf h =
    ap (then_some (eqb (length left) 0)) sf.kept ∙ just_as_many n sf.ns left (sf.many ∙ h) ∙ ap (λ z. option_map (padded 32) (exactly n z)) (sym sf.all)
