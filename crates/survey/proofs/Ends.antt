-- The bytes of a line before its end.
use Rattle.std.proofs.Common.{◌≢◌, ◌≡◌, ℕ, zero, suc, ◌+◌, ◌-◌, ◌<◌, ◌≤◌, Bool, true, false, eqb, List, [], ◌∷◌, ◌++◌, length, take, slice_get, Some, None, Option, IfSome, sym, refl, ap, ◌∙◌, ⊎_elim, ne_eqb, append-nil, ◌==◌, arith}
use Rattle.std.specs.List.{All, before_first, position_or_len}
use Rattle.std.specs.Io.{StopsAt}
use Rattle.std.specs.Io.BufRead.{take_through}
use Rattle.std.proofs.lemmas.Bool.{cases_lt}
use Rattle.std.proofs.lemmas.List.{get_or-take, length-take-le}
use Rattle.std.proofs.lemmas.Option.{get_or_from_slice_get}

-- where no byte but the last may be a line end, and the last one is none
pub no_line_end : (xs : List ℕ) (v : ℕ) → StopsAt xs 10 → slice_get xs (length xs - 1) ≡ Some v → v ≢ 10 → All (λ c. c ≢ 10) xs
no_line_end xs v s e n =
    λ k d l h.
    ⊎_elim
    (λ (a : k < length xs - 1). s k d (omega (arith, length-take-le (length xs - 1) xs (omega arith))) (get_or-take (length xs - 1) xs k d a ∙ h))
    (λ (b : length xs - 1 ≤ k).
    let i : length xs - 1 ≡ k = omega arith in
    n (sym (get_or_from_slice_get xs k v d (rw (sym i) e)) ∙ h))
    (cases_lt k (length xs - 1))

abbrev line_end : ℕ → Bool
line_end c = eqb c 10

another_byte : (x : ℕ) (xs : List ℕ) → eqb x 10 ≡ false → before_first line_end (x ∷ xs) ≡ x ∷ before_first line_end xs
another_byte x xs e =
    let f : 1 + position_or_len line_end xs ≡ suc (position_or_len line_end xs) = omega arith in
    rw (e, f) refl

at_the_end : (x : ℕ) (xs : List ℕ) → eqb x 10 ≡ true → before_first line_end (x ∷ xs) ≡ []
at_the_end x xs e = rw e refl

before_the_rest : (kept rest : List ℕ) → All (λ c. c ≢ 10) kept → before_first line_end rest ≡ [] → before_first line_end (kept ++ rest) ≡ kept
before_the_rest [] rest a e = e
before_the_rest (x ∷ kept) rest a e =
    another_byte x (kept ++ rest) (ne_eqb x 10 (a 0 0 (omega arith)))
    ∙ ap (λ (z : List ℕ). x ∷ z) (before_the_rest kept rest (λ k d l. a (suc k) d (omega (arith, l))) e)

-- what is read of the first n bytes up to a line end
one_byte_read : (b : Bool) (n x : ℕ) (xs : List ℕ) → eqb x 10 ≡ b → before_first line_end (take_through 10 (take n xs)) ≡ take n (before_first line_end xs) →
    before_first line_end (take_through 10 (x ∷ take n xs)) ≡ take (suc n) (before_first line_end (x ∷ xs))
one_byte_read true n x xs e h = rw e (at_the_end x [] e)
one_byte_read false n x xs e h =
    let f : take_through 10 (x ∷ take n xs) ≡ x ∷ take_through 10 (take n xs) = rw e refl in
    ap (before_first line_end) f ∙ another_byte x (take_through 10 (take n xs)) e ∙ ap (λ (z : List ℕ). x ∷ z) h ∙ sym (ap (take (suc n)) (another_byte x xs e))

read_up_to : (n : ℕ) (xs : List ℕ) → before_first line_end (take_through 10 (take n xs)) ≡ take n (before_first line_end xs)
read_up_to zero xs = refl
read_up_to (suc n) [] = refl
read_up_to (suc n) (x ∷ xs) = one_byte_read (eqb x 10) n x xs refl (read_up_to n xs)

-- where the bytes of the input are known, what is kept of the bytes that were read, without the rest that begins with a line end
pub first_bytes : (known : Option (List ℕ)) (n : ℕ) (read kept rest : List ℕ) → IfSome known (λ xs. read ≡ take_through 10 (take n xs)) →
    read ≡ kept ++ rest → All (λ c. c ≢ 10) kept → before_first line_end rest ≡ [] → IfSome known (λ xs. kept ≡ take n (before_first line_end xs))
first_bytes None n read kept rest e f a z = tt
first_bytes (Some xs) n read kept rest e f a z =
    sym (before_the_rest kept rest a z) ∙ ap (before_first line_end) (sym f ∙ e) ∙ read_up_to n xs

-- the same where no byte that was read is a line end
pub all_kept : (known : Option (List ℕ)) (n : ℕ) (read : List ℕ) → IfSome known (λ xs. read ≡ take_through 10 (take n xs)) →
    All (λ c. c ≢ 10) read → IfSome known (λ xs. read ≡ take n (before_first (λ c. c == 10) xs))
all_kept known n read e a = first_bytes known n read read [] e (sym (append-nil read)) a refl

-- the same where the last byte that was read is one
pub all_but_the_end : (known : Option (List ℕ)) (n : ℕ) (read kept : List ℕ) → IfSome known (λ xs. read ≡ take_through 10 (take n xs)) →
    read ≡ kept ++ 10 ∷ [] → All (λ c. c ≢ 10) kept → IfSome known (λ xs. kept ≡ take n (before_first (λ c. c == 10) xs))
all_but_the_end known n read kept e f a = first_bytes known n read kept (10 ∷ []) e f a refl
