-- What the makers of curves answer.
use Rattle.std.specs.Prelude.{◌≡◌, ℕ, ◌^◌, true, ◌&&◌, List, [], ◌∷◌, length, ℤ, Some, None, Ok, Err, Option, Result, nat_le, nat_lt, unsigned_abs}
use Rattle.curves.specs.Meaning.{Meaning}
use Rattle.curves.specs.Refusals.{first_refusal}
use Rattle.curves.specs.Kinds.{straight_meaning, bowed_meaning, listed_meaning}
use Rattle.curves.specs.declared.refusal.CurveRefusal.{CurveRefusal}
use Rattle.curves.specs.declared.bowed.Bowed.{Bowed}
use Rattle.curves.specs.declared.listed.Listed.{Listed}
use Rattle.curves.specs.declared.straight.Straight.{Straight}

-- what a straight curve means
abbrev pub straight_curve : Straight → Meaning
straight_curve c = straight_meaning c.modulus.value c.count c.slope c.offset

-- the slope a and the offset b are below M
abbrev pub straight_refused : (M N a b : ℕ) → Option CurveRefusal
straight_refused M N a b = first_refusal M N (nat_lt a M && nat_lt b M)

-- the curve of these numbers where none of them is refused, else the first refusal
abbrev pub StraightMade : (M N a b : ℕ) → Result Straight CurveRefusal → Type 0
StraightMade M N a b (Ok c) = (straight_refused M N a b ≡ None) × (straight_curve c ≡ straight_meaning M N a b)
StraightMade M N a b (Err refusal) = straight_refused M N a b ≡ Some refusal

-- what a bowed curve means
abbrev pub bowed_curve : Bowed → Meaning
bowed_curve c = bowed_meaning c.modulus.value c.count c.c0 c.c1 c.c2 c.tolerance

-- c0 and the tolerance g are below M, |c1| is below M and |c2| at most 2^20
abbrev pub bowed_refused : (M N c0 : ℕ) (c1 c2 : ℤ) (g : ℕ) → Option CurveRefusal
bowed_refused M N c0 c1 c2 g =
    first_refusal M N (nat_lt c0 M && (nat_lt (unsigned_abs c1) M && (nat_le (unsigned_abs c2) (2 ^ 20) && nat_lt g M)))

-- the same of a bowed curve
abbrev pub BowedMade : (M N c0 : ℕ) (c1 c2 : ℤ) (g : ℕ) → Result Bowed CurveRefusal → Type 0
BowedMade M N c0 c1 c2 g (Ok c) =
    (bowed_refused M N c0 c1 c2 g ≡ None) × (bowed_curve c ≡ bowed_meaning M N c0 c1 c2 g)
BowedMade M N c0 c1 c2 g (Err refusal) = bowed_refused M N c0 c1 c2 g ≡ Some refusal

-- what a listed curve means
abbrev pub listed_curve : Listed → Meaning
listed_curve c = listed_meaning c.modulus.value c.entries.now

-- the judgement of a modulus M and a list
abbrev pub listed_refused : (M : ℕ) → List ℕ → Option CurveRefusal
listed_refused M entries = first_refusal M (length entries) true

-- accepted, or the first refusal
abbrev pub judgement : Option CurveRefusal → Result (Unit {0}) CurveRefusal
judgement None = Ok tt
judgement (Some refusal) = Err refusal

-- the curve of a modulus M and a list: where they fail the judgement, that of the modulus 2 and the one entry 0
abbrev pub listed_or : Option CurveRefusal → Meaning → Meaning
listed_or None m = m
listed_or (Some refusal) m = listed_meaning 2 (0 ∷ [])

abbrev pub listed_made : (M : ℕ) → List ℕ → Meaning
listed_made M entries = listed_or (listed_refused M entries) (listed_meaning M entries)
