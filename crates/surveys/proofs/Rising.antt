-- Lists that rise, and their parts below an index and from it on.
use Rattle.std.proofs.Common.{◌≡◌, ℕ, suc, ◌≤◌, Bool, true, ltb, leb, List, [], ◌∷◌, ◌++◌, length, take, drop, sym, refl, ap, ◌∙◌, arith}
use Rattle.std.proofs.lemmas.Bool.{and_parts, and_from, cond_both, cond-true, cond-false, ltb-true, ltb-false, leb-true, lt-ltb, le-ltb, le-leb, lt-leb}
use Rattle.std.specs.List.{list_all}
use Rattle.surveys.specs.Books.{rises, below, from}

-- ---- tests that a whole list passes

pub pass_by_two : (p q r : ℕ → Bool) → ((k : ℕ) → p k ≡ true → q k ≡ true → r k ≡ true) →
    (ks : List ℕ) → list_all p ks ≡ true → list_all q ks ≡ true → list_all r ks ≡ true
pass_by_two p q r f [] h i = refl
pass_by_two p q r f (k ∷ ks) h i =
    let a = and_parts (p k) (list_all p ks) h in
    let b = and_parts (q k) (list_all q ks) i in
    and_from (r k) (list_all r ks) (f k a.0 b.0) (pass_by_two p q r f ks a.1 b.1)

pub pass_by : (p r : ℕ → Bool) → ((k : ℕ) → p k ≡ true → r k ≡ true) → (ks : List ℕ) → list_all p ks ≡ true → list_all r ks ≡ true
pass_by p r f ks h = pass_by_two p p r (λ k a b. f k a) ks h h

pub pass_joined : (p : ℕ → Bool) (xs ys : List ℕ) → list_all p xs ≡ true → list_all p ys ≡ true → list_all p (xs ++ ys) ≡ true
pass_joined p [] ys h i = i
pass_joined p (x ∷ xs) ys h i =
    let a = and_parts (p x) (list_all p xs) h in
    and_from (p x) (list_all p (xs ++ ys)) a.0 (pass_joined p xs ys a.1 i)

-- two lists that rise, one below s and one from s on, rise in a row
pub rise_joined : (s : ℕ) (xs ys : List ℕ) → rises xs ≡ true → rises ys ≡ true →
    list_all (λ k. ltb k s) xs ≡ true → list_all (leb s) ys ≡ true → rises (xs ++ ys) ≡ true
rise_joined s [] ys u v l h = v
rise_joined s (x ∷ xs) ys u v l h =
    let a = and_parts (list_all (ltb x) xs) (rises xs) u in
    let b = and_parts (ltb x s) (list_all (λ k. ltb k s) xs) l in
    let above = pass_by (leb s) (ltb x) (λ k e. lt-ltb x k (omega (arith, ltb-true x s b.0, leb-true s k e))) ys h in
    and_from (list_all (ltb x) (xs ++ ys)) (rises (xs ++ ys)) (pass_joined (ltb x) xs ys a.0 above)
    (rise_joined s xs ys a.1 v b.1 h)

-- ---- the part below an index

pub below_passes : (s : ℕ) (ks : List ℕ) → list_all (λ k. ltb k s) (below s ks) ≡ true
below_passes s [] = refl
below_passes s (k ∷ ks) =
    cond_both (ltb k s) (k ∷ below s ks) (below s ks) (λ x. list_all (λ j. ltb j s) x ≡ true)
    (λ e. and_from (ltb k s) (list_all (λ j. ltb j s) (below s ks)) e (below_passes s ks))
    (λ e. below_passes s ks)

pub below_passes_too : (p : ℕ → Bool) (s : ℕ) (ks : List ℕ) → list_all p ks ≡ true → list_all p (below s ks) ≡ true
below_passes_too p s [] h = refl
below_passes_too p s (k ∷ ks) h =
    let a = and_parts (p k) (list_all p ks) h in
    let r = below_passes_too p s ks a.1 in
    cond_both (ltb k s) (k ∷ below s ks) (below s ks) (λ x. list_all p x ≡ true)
    (λ e. and_from (p k) (list_all p (below s ks)) a.0 r)
    (λ e. r)

pub below_rises : (s : ℕ) (ks : List ℕ) → rises ks ≡ true → rises (below s ks) ≡ true
below_rises s [] h = refl
below_rises s (k ∷ ks) h =
    let a = and_parts (list_all (ltb k) ks) (rises ks) h in
    let r = below_rises s ks a.1 in
    cond_both (ltb k s) (k ∷ below s ks) (below s ks) (λ x. rises x ≡ true)
    (λ e. and_from (list_all (ltb k) (below s ks)) (rises (below s ks)) (below_passes_too (ltb k) s ks a.0) r)
    (λ e. r)

pub below_is_short : (s : ℕ) (ks : List ℕ) → length (below s ks) ≤ length ks
below_is_short s [] = omega arith
below_is_short s (k ∷ ks) =
    let r = below_is_short s ks in
    cond_both (ltb k s) (k ∷ below s ks) (below s ks) (λ x. length x ≤ suc (length ks)) (λ e. omega arith) (λ e. omega arith)

pub fewer_below_less : (s t : ℕ) (ks : List ℕ) → s ≤ t → length (below s ks) ≤ length (below t ks)
fewer_below_less s t [] h = omega arith
fewer_below_less s t (k ∷ ks) h =
    let r = fewer_below_less s t ks h in
    cond_both (ltb k s) (k ∷ below s ks) (below s ks) (λ x. length x ≤ length (below t (k ∷ ks)))
    (λ e.
    let u = cond-true (ltb k t) (k ∷ below t ks) (below t ks) (lt-ltb k t (omega (arith, ltb-true k s e))) in
    omega (arith, ap length u))
    (λ e.
    cond_both (ltb k t) (k ∷ below t ks) (below t ks) (λ x. length (below s ks) ≤ length x) (λ f. omega arith) (λ f. omega arith))

none_below : (s : ℕ) (ks : List ℕ) → list_all (leb s) ks ≡ true → below s ks ≡ []
none_below s [] h = refl
none_below s (k ∷ ks) h =
    let a = and_parts (leb s k) (list_all (leb s) ks) h in
    cond-false (ltb k s) (k ∷ below s ks) (below s ks) (le-ltb k s (leb-true s k a.0)) ∙ none_below s ks a.1

-- ---- the part from an index on

pub from_passes : (s : ℕ) (ks : List ℕ) → list_all (leb s) (from s ks) ≡ true
from_passes s [] = refl
from_passes s (k ∷ ks) =
    cond_both (leb s k) (k ∷ from s ks) (from s ks) (λ x. list_all (leb s) x ≡ true)
    (λ e. and_from (leb s k) (list_all (leb s) (from s ks)) e (from_passes s ks))
    (λ e. from_passes s ks)

pub from_passes_too : (p : ℕ → Bool) (s : ℕ) (ks : List ℕ) → list_all p ks ≡ true → list_all p (from s ks) ≡ true
from_passes_too p s [] h = refl
from_passes_too p s (k ∷ ks) h =
    let a = and_parts (p k) (list_all p ks) h in
    let r = from_passes_too p s ks a.1 in
    cond_both (leb s k) (k ∷ from s ks) (from s ks) (λ x. list_all p x ≡ true)
    (λ e. and_from (p k) (list_all p (from s ks)) a.0 r)
    (λ e. r)

pub from_rises : (s : ℕ) (ks : List ℕ) → rises ks ≡ true → rises (from s ks) ≡ true
from_rises s [] h = refl
from_rises s (k ∷ ks) h =
    let a = and_parts (list_all (ltb k) ks) (rises ks) h in
    let r = from_rises s ks a.1 in
    cond_both (leb s k) (k ∷ from s ks) (from s ks) (λ x. rises x ≡ true)
    (λ e. and_from (list_all (ltb k) (from s ks)) (rises (from s ks)) (from_passes_too (ltb k) s ks a.0) r)
    (λ e. r)

all_from : (s : ℕ) (ks : List ℕ) → list_all (leb s) ks ≡ true → from s ks ≡ ks
all_from s [] h = refl
all_from s (k ∷ ks) h =
    let a = and_parts (leb s k) (list_all (leb s) ks) h in
    cond-true (leb s k) (k ∷ from s ks) (from s ks) a.0 ∙ ap (λ (x : List ℕ). k ∷ x) (all_from s ks a.1)

-- ---- the two parts of a list that rises

-- where its first is not below s, none is
rest_not_below : (s k : ℕ) (ks : List ℕ) → s ≤ k → list_all (ltb k) ks ≡ true → list_all (leb s) ks ≡ true
rest_not_below s k ks h = pass_by (ltb k) (leb s) (λ j e. le-leb s j (omega (arith, ltb-true k j e))) ks

pub below_is_front : (s : ℕ) (ks : List ℕ) → rises ks ≡ true → take (length (below s ks)) ks ≡ below s ks
below_is_front s [] h = refl
below_is_front s (k ∷ ks) h =
    let a = and_parts (list_all (ltb k) ks) (rises ks) h in
    cond_both (ltb k s) (k ∷ below s ks) (below s ks) (λ x. take (length x) (k ∷ ks) ≡ x)
    (λ e. ap (λ (x : List ℕ). k ∷ x) (below_is_front s ks a.1))
    (λ e.
    let n = none_below s ks (rest_not_below s k ks (ltb-false k s e) a.0) in
    rw n)

pub from_is_rest : (s : ℕ) (ks : List ℕ) → rises ks ≡ true → drop (length (below s ks)) ks ≡ from s ks
from_is_rest s [] h = refl
from_is_rest s (k ∷ ks) h =
    let a = and_parts (list_all (ltb k) ks) (rises ks) h in
    cond_both (ltb k s) (k ∷ below s ks) (below s ks) (λ x. drop (length x) (k ∷ ks) ≡ from s (k ∷ ks))
    (λ e.
    from_is_rest s ks a.1
    ∙ sym (cond-false (leb s k) (k ∷ from s ks) (from s ks) (lt-leb s k (ltb-true k s e))))
    (λ e.
    let not_less = ltb-false k s e in
    let others = rest_not_below s k ks not_less a.0 in
    let n = none_below s ks others in
    rw n (sym (all_from s (k ∷ ks) (and_from (leb s k) (list_all (leb s) ks) (le-leb s k not_less) others))))
