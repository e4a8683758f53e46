-- Clean records: a stretch of a curve that is called clean, with five numbers that vouch for it.
use Rattle.std.specs.Prelude.{ℕ, ◌+◌, ◌*◌, Bool, ◌&&◌, pos, nat_le}
use Rattle.grid.specs.Residue.{residue}
use Rattle.search.specs.Vouching.{vouching}
use Rattle.search.specs.declared.evidence.Evidence.{Evidence}
use Rattle.curves.specs.Meaning.{Meaning}

-- the line from s for n points reaches all of them (a line's reach is never more than n)
abbrev pub reaches : Meaning → (s n : ℕ) → Bool
reaches m s n = nat_le n (m.line s n).reach

-- the numbers vouch for that line's slope, the offset (b + e) mod M and the threshold D + 2e, which is not cut at M
abbrev pub vouched : Meaning → (D s n : ℕ) → Evidence → Bool
vouched m D s n e =
    let l = m.line s n in
    vouching m.modulus l.slope (residue m.modulus (pos (l.offset + l.error))) (D + 2 * l.error) n e

-- a clean record over n points from s with these five numbers passes
abbrev pub clean_passes : Meaning → (D s n : ℕ) → Evidence → Bool
clean_passes m D s n e = reaches m s n && vouched m D s n e
