-- The book of a table after a run is put in or a block taken out, at the places that counting gives.
use Rattle.std.proofs.Common.{◌≡◌, ℕ, ◌+◌, ◌-◌, ◌*◌, ◌≤◌, List, ◌++◌, length, take, drop, ap, ◌∙◌, arith}
use Rattle.std.proofs.lemmas.List.{length-take}
use Rattle.surveys.specs.Books.{below, put_in, taken_out}
use Rattle.surveys.specs.Tables.{book_in}
use Rattle.surveys.specs.declared.table.Table.{Table}
use Rattle.surveys.proofs.Rising.{below_is_short, below_is_front, fewer_below_less, from_is_rest}
use Rattle.surveys.proofs.Shift.{front_with_run, front_without}

pub counted_are_booked : (t : Table) (s at : ℕ) → at ≡ length (below s (book_in t)) → at ≤ t.booked
counted_are_booked t s at e = omega (arith, below_is_short s (book_in t), length-take t.booked t.book)

-- up to a block's first index no more are counted than up to its end
pub counted_in_order : (t : Table) (b f g : ℕ) → f ≡ length (below (b * t.block_length) (book_in t)) →
    g ≡ length (below (b * t.block_length + t.block_length) (book_in t)) → f ≤ g
counted_in_order t b f g e h =
    let s = b * t.block_length in
    omega (arith, fewer_below_less s (s + t.block_length) (book_in t) (omega arith))

pub run_is_put_in : (t : Table) (b at : ℕ) (run book : List ℕ) → t.booked + length run ≤ length t.book →
    at ≡ length (below (b * t.block_length) (book_in t)) →
    book ≡ take at t.book ++ (run ++ (take (t.booked - at) (drop at t.book) ++ drop (t.booked + length run) t.book)) →
    take (t.booked + length run) book ≡ put_in t.block_length b run (book_in t)
run_is_put_in t b at run book room e h =
    let s = b * t.block_length in
    front_with_run t.book run book t.booked at (counted_are_booked t s at e) room h
    ∙ ap (λ (n : ℕ). take n (book_in t) ++ (run ++ drop n (book_in t))) e
    ∙ ap (λ (xs : List ℕ). xs ++ (run ++ drop (length (below s (book_in t))) (book_in t))) (below_is_front s (book_in t) t.book_rises)
    ∙ ap (λ (xs : List ℕ). below s (book_in t) ++ (run ++ xs)) (from_is_rest s (book_in t) t.book_rises)

pub block_is_taken_out : (t : Table) (b f g : ℕ) (book : List ℕ) →
    f ≡ length (below (b * t.block_length) (book_in t)) →
    g ≡ length (below (b * t.block_length + t.block_length) (book_in t)) →
    take (t.booked - (g - f)) book ≡ take f t.book ++ take (t.booked - g) (drop g t.book) →
    take (t.booked - (g - f)) book ≡ taken_out t.block_length b (book_in t)
block_is_taken_out t b f g book e h i =
    let s = b * t.block_length in
    let n = s + t.block_length in
    front_without t.book book t.booked f g (counted_in_order t b f g e h) (counted_are_booked t n g h) i
    ∙ ap (λ (k : ℕ). take k (book_in t) ++ drop g (book_in t)) e
    ∙ ap (λ (k : ℕ). take (length (below s (book_in t))) (book_in t) ++ drop k (book_in t)) h
    ∙ ap (λ (xs : List ℕ). xs ++ drop (length (below n (book_in t))) (book_in t)) (below_is_front s (book_in t) t.book_rises)
    ∙ ap (λ (xs : List ℕ). below s (book_in t) ++ xs) (from_is_rest n (book_in t) t.book_rises)
