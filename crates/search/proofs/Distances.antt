-- The distance of b above a point, as a congruence.
use Rattle.std.proofs.Common.{◌≡◌, ℕ, ◌+◌, ◌*◌, ◌<◌}
use Rattle.grid.specs.Congruent.{Same}
use Rattle.grid.proofs.Congruence.{Rest, residue_sub, residue_at}
use Rattle.search.specs.Points.{distance}

pub distance_is : (M a b k : ℕ) → 0 < M → Rest M (distance M a b k) b (k * a)
distance_is M a b k h = residue_sub M b (k * a) h

-- the distance of k is the w below M with w + k·a ≡ b
pub distance_at : (M a b k w : ℕ) → w < M → Same M (w + k * a) b → distance M a b k ≡ w
distance_at M a b k w l s = residue_at M b (k * a) w l s
