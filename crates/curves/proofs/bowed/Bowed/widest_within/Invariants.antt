use Rattle.std.proofs.Common.{◌≡◌, ◌-◌, ◌≤◌, unsigned_abs}
use Rattle.curves.specs.Kinds.{bow, widest}
use Rattle.curves.proofs.bowed.Bowed.widest_within.Given as goal

-- the tolerance is kept at the low end, and what lies above the high end is out of reach
abbrev pub invariant-loop-low : goal.invariant-loop-low
invariant-loop-low l =
    (1 ≤ l.low) × (l.low ≤ l.high) × (l.high ≤ l.length) × (bow (unsigned_abs l.self.c2) l.low ≤ l.self.tolerance)
    × (widest (unsigned_abs l.self.c2) l.self.tolerance l.high ≡ widest (unsigned_abs l.self.c2) l.self.tolerance l.length)

abbrev pub decreases-loop-low : goal.decreases-loop-low
decreases-loop-low l = l.high - l.low
