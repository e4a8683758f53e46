-- What a line says: its fields, the letters of kind and mode, and its numbers.
use Rattle.std.specs.Prelude.{ℕ, zero, suc, ◌+◌, ◌-◌, ◌*◌, Bool, cond, ◌&&◌, List, [], ◌∷◌, ◌++◌, length, drop, ℤ, pos, neg_ℤ, Some, None, Ok, Err, Option, Result, ◌==◌, nat_le, nat_lt, slice_index, slice_index_or}
use Rattle.std.specs.Option.{option_map, ok_or}
use Rattle.reports.specs.declared.order.Kind.{Kind}
use Rattle.reports.specs.declared.order.Kind.TheVariants.{Straight, Bowed, Listed}
use Rattle.reports.specs.declared.order.Mode.{Mode}
use Rattle.reports.specs.declared.order.Mode.TheVariants.{Directed, Nearest}
use Rattle.reports.specs.declared.order.Order.{Order}
use Rattle.reports.specs.declared.order.Shape.{Shape}
use Rattle.reports.specs.declared.order.Shape.TheVariants.{Straight as StraightShape, Bowed as BowedShape, Listed as ListedShape}
use Rattle.reports.specs.declared.refusal.LineRefusal.{LineRefusal}
use Rattle.reports.specs.declared.refusal.LineRefusal.TheVariants.{Letter, Field}

-- bytes in front of the first of some fields
abbrev pub onto : List ℕ → List (List ℕ) → List (List ℕ)
onto p [] = p ∷ []
onto p (f ∷ fs) = (p ++ f) ∷ fs

-- the fields of a text: what stands before, between and after its commas
abbrev pub fields : List ℕ → List (List ℕ)
fields [] = [] ∷ []
fields (c ∷ cs) = cond (c == 44) ([] ∷ fields cs) (onto (c ∷ []) (fields cs))

-- the byte of a field that is a letter: one byte, and no more
abbrev pub letter : List ℕ → Option ℕ
letter [] = None
letter (c ∷ []) = Some c
letter (c ∷ (d ∷ ds)) = None

-- S, B or L
abbrev pub kind_of : List ℕ → Result Kind LineRefusal
kind_of f =
    elim (letter f) [
      | None ↦ Err Letter
      | Some c ↦ cond (c == 83) (Ok Straight) (cond (c == 66) (Ok Bowed) (cond (c == 76) (Ok Listed) (Err Letter)))
    ]

-- D or N
abbrev pub mode_of : List ℕ → Result Mode LineRefusal
mode_of f =
    elim (letter f) [
      | None ↦ Err Letter
      | Some c ↦ cond (c == 68) (Ok Directed) (cond (c == 78) (Ok Nearest) (Err Letter))
    ]

-- the digits 0 to 9
abbrev pub digit : ℕ → Bool
digit c = nat_le 48 c && nat_le c 57

-- the number that digits write after the number n
abbrev pub written : ℕ → List ℕ → Option ℕ
written n [] = Some n
written n (c ∷ cs) = cond (digit c) (written (n * 10 + (c - 48)) cs) None

-- a number is 1 to 13 digits
abbrev pub number_of : List ℕ → Option ℕ
number_of f = cond (nat_lt 0 (length f) && nat_lt (length f) 14) (written 0 f) None

-- where a number may be negative, one minus may stand before its digits
abbrev pub signed_of : List ℕ → Option ℤ
signed_of f = cond (slice_index f 0 == 45) (option_map (λ n. neg_ℤ (pos n)) (number_of (drop 1 f))) (option_map pos (number_of f))

-- the numbers of some fields, where each one is a number
abbrev pub with_number : Option ℕ → Option (List ℕ) → Option (List ℕ)
with_number None ns = None
with_number (Some n) None = None
with_number (Some n) (Some ns) = Some (n ∷ ns)

abbrev pub numbers_of : List (List ℕ) → Option (List ℕ)
numbers_of [] = Some []
numbers_of (f ∷ fs) = with_number (number_of f) (numbers_of fs)

-- just n numbers, and no more
abbrev pub exactly : ℕ → Option (List ℕ) → Option (List ℕ)
exactly n None = None
exactly n (Some ns) = cond (length ns == n) (Some ns) None

-- the first n of some numbers, and zeros where there are fewer
abbrev pub padded : ℕ → List ℕ → List ℕ
padded zero vs = []
padded (suc n) [] = 0 ∷ padded n []
padded (suc n) (v ∷ vs) = v ∷ padded n vs

-- what goes on with a value, where there is one
abbrev pub and_then : {X Y : Type 0} → Option X → (X → Option Y) → Option Y
and_then None f = None
and_then (Some x) f = f x

-- what the first field says, with the fields after it; a field that is missing reads as one without bytes, and is no number
abbrev pub number : List (List ℕ) → Option (ℕ × List (List ℕ))
number fs = option_map (λ n. (n, drop 1 fs)) (number_of (slice_index_or fs 0 []))

abbrev pub signed_number : List (List ℕ) → Option (ℤ × List (List ℕ))
signed_number fs = option_map (λ z. (z, drop 1 fs)) (signed_of (slice_index_or fs 0 []))

-- a shape, where no field is left
abbrev pub ended : Shape → List (List ℕ) → Option Shape
ended s [] = Some s
ended s (f ∷ fs) = None

-- the shape that the last fields give to a curve with n points: of a straight one the slope and the offset, of a bowed one c0
-- and c1 and c2, which may be negative, of a listed one its values, of which 32 are kept
abbrev pub shape_of : Kind → ℕ → List (List ℕ) → Option Shape
shape_of Straight n fs = and_then (number fs) (λ a. and_then (number a.1) (λ b. ended (StraightShape a.0 b.0) b.1))
shape_of Bowed n fs =
    and_then (number fs)
    (λ a. and_then (signed_number a.1) (λ b. and_then (signed_number b.1) (λ d. ended (BowedShape a.0 b.0 d.0) d.1)))
shape_of Listed n fs = option_map (λ vs. ListedShape (padded 32 vs)) (exactly n (numbers_of fs))

-- the modulus, the count and the half width stand before them
abbrev pub order_of : Kind → Mode → List (List ℕ) → Option Order
order_of kind m fs =
    and_then (number fs)
    (λ M. and_then (number M.1)
    (λ N. and_then (number N.1)
    (λ h. option_map
    (λ s. record { mode = m; modulus = M.0; count = N.0; half_width = h.0; shape = s })
    (shape_of kind N.0 h.1))))

-- the letters of kind and mode stand first, and then the numbers
abbrev pub asked_by : Result Kind LineRefusal → Result Mode LineRefusal → List (List ℕ) → Result Order LineRefusal
asked_by (Err e) m fs = Err e
asked_by (Ok kind) (Err e) fs = Err e
asked_by (Ok kind) (Ok m) fs = ok_or (order_of kind m fs) Field

-- what a line asks for, or why it is refused
abbrev pub reading : List ℕ → Result Order LineRefusal
reading line =
    let fs = fields line in
    cond (nat_lt 1024 (length line)) (Err Letter) (asked_by (kind_of (slice_index_or fs 0 [])) (mode_of (slice_index_or fs 1 [])) (drop 2 fs))
