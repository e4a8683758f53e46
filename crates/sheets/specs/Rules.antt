-- The rules that a sheet must keep.
use Rattle.std.specs.Prelude.{◌≡◌, ℕ, ◌+◌, ◌^◌, ◌<◌, ◌≤◌, true, List, [], ◌∷◌, ◌++◌, length, drop}
use Rattle.curves.specs.Meaning.{Meaning}
use Rattle.records.specs.Entries.{Entry, head, clean, hit, miss, end, encode, encode_all, size_of}
use Rattle.sheets.specs.Blocks.{start_of, stop_of}
use Rattle.sheets.specs.Clean.{clean_passes}
use Rattle.sheets.specs.Tests.{Due, opening, going, from_of, points_of, heading_for}
use Rattle.sheets.specs.declared.assignment.Assignment.{Assignment}

-- the entries cover the indices from s on and below t in order, without gap or overlap
abbrev pub Covers : (s t : ℕ) → List Entry → Type 0
Covers s t [] = s ≡ t
Covers s t (e ∷ es) = (from_of e ≡ s) × (1 ≤ points_of e) × Covers (s + points_of e) t es

-- what an entry between head and end says is so: a clean record passes; a hit or a miss has the curve's value, and is close or is not
abbrev pub Holds : Meaning → (D : ℕ) → Entry → Type 0
Holds m D (head h) = ⊥
Holds m D (clean c) = clean_passes m D c.from c.points c.evidence ≡ true
Holds m D (hit p) = (p.value ≡ m.value p.index) × (m.value p.index < D)
Holds m D (miss p) = (p.value ≡ m.value p.index) × (D ≤ m.value p.index)
Holds m D (end n) = ⊥

abbrev pub AllHold : Meaning → (D : ℕ) → List Entry → Type 0
AllHold m D [] = Unit {0}
AllHold m D (e ∷ es) = Holds m D e × AllHold m D es

-- the indices of the hits
abbrev pub hits_of : List Entry → List ℕ
hits_of [] = []
hits_of (head h ∷ es) = hits_of es
hits_of (clean c ∷ es) = hits_of es
hits_of (hit p ∷ es) = p.index ∷ hits_of es
hits_of (miss p ∷ es) = hits_of es
hits_of (end n ∷ es) = hits_of es

-- the bytes of a sheet keep the rules, with these hits: they are those of the head for this block, then of entries that cover the block
-- in order and each of which holds, then of an end that counts them; nothing follows
pub record KeepsTheRules (m : Meaning) (a : Assignment) (s : List ℕ) (hits : List ℕ) : Type 0 where
  pub entries : List Entry
  pub bytes : s ≡ encode (head (heading_for m a)) ++ (encode_all entries ++ encode (end (length entries)))
  pub not_too_long : length s ≤ 2 ^ 22
  pub covers : Covers (start_of m a) (stop_of m a) entries
  pub hold : AllHold m a.threshold entries
  pub the_hits : hits ≡ hits_of entries

-- the records before the byte p are in order, and what is due there: either nothing is before it and the head is due, or the head and entries
-- that cover the block up to some index k, each of which holds
pub data InOrder (m : Meaning) (a : Assignment) (s : List ℕ) : (p : ℕ) → Due → Type 0 where
  at_the_start : InOrder m a s 0 opening
  behind : (es : List Entry) (p k : ℕ) → s ≡ encode (head (heading_for m a)) ++ (encode_all es ++ drop p s) →
      p ≡ size_of (head (heading_for m a)) + length (encode_all es) → Covers (start_of m a) k es → k ≤ stop_of m a →
      AllHold m a.threshold es → InOrder m a s p (going k (length es))
