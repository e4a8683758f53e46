-- What five numbers must satisfy to vouch that no point comes too near.
use Rattle.std.specs.Prelude.{◌≡◌, ℕ, ◌+◌, ◌*◌, ◌<◌, ◌≤◌, Bool, ◌&&◌, pos, ◌-ℤ◌, ◌==◌, nat_le, nat_lt}
use Rattle.grid.specs.Residue.{residue}
use Rattle.search.specs.Points.{distance}
use Rattle.search.specs.Configurations.{Config, gap}
use Rattle.search.specs.declared.evidence.Evidence.{Evidence}

-- the configuration among the five numbers
abbrev pub config_of : Evidence → Config
config_of e = record { x = e.x; y = e.y; u = e.u; v = e.v }

-- the limits of the five numbers for n points: u and v from 1 to n, together at least n; x and y at most M; r below n
pub record Within (M n : ℕ) (e : Evidence) : Type 0 where
  pub u_from : 1 ≤ e.u
  pub u_to : e.u ≤ n
  pub v_from : 1 ≤ e.v
  pub v_to : e.v ≤ n
  pub enough : n ≤ e.u + e.v
  pub x_to : e.x ≤ M
  pub y_to : e.y ≤ M
  pub r_below : e.r < n

-- x is where v steps lead and y where u steps lead back, mod M, and the gaps fill the circle: x ≡ v·a, y ≡ −u·a, u·x + v·y = M
pub record Fills (M a : ℕ) (e : Evidence) : Type 0 where
  pub x_is : residue M (pos e.x) ≡ residue M (pos (e.v * a))
  pub y_is : residue M (pos e.y) ≡ residue M (pos 0 -ℤ pos (e.u * a))
  pub whole : e.u * e.x + e.v * e.y ≡ M

-- w = (b − r·a) mod M is at least D and less than the gap after r
pub record Clears (M a b D n : ℕ) (e : Evidence) : Type 0 where
  pub far : D ≤ distance M a b e.r
  pub inside : distance M a b e.r < gap n (config_of e) e.r

-- u, v, r, x and y vouch that no (b − k·a) mod M for k below n is less than D
pub record Vouches (M a b D n : ℕ) (e : Evidence) : Type 0 where
  pub within : Within M n e
  pub fills : Fills M a e
  pub clears : Clears M a b D n e

-- ---- the same as tests that compute

abbrev pub is_within : (M n : ℕ) → Evidence → Bool
is_within M n e =
    nat_le 1 e.u && (nat_le e.u n && (nat_le 1 e.v && (nat_le e.v n && (nat_le n (e.u + e.v) && (nat_le e.x M && (nat_le e.y M && nat_lt e.r n))))))

abbrev pub is_filling : (M a : ℕ) → Evidence → Bool
is_filling M a e =
    (residue M (pos e.x) == residue M (pos (e.v * a)))
    && (residue M (pos e.y) == residue M (pos 0 -ℤ pos (e.u * a)) && e.u * e.x + e.v * e.y == M)

abbrev pub is_clear : (M a b D n : ℕ) → Evidence → Bool
is_clear M a b D n e = nat_le D (distance M a b e.r) && nat_lt (distance M a b e.r) (gap n (config_of e) e.r)

abbrev pub vouching : (M a b D n : ℕ) → Evidence → Bool
vouching M a b D n e = is_within M n e && (is_filling M a e && is_clear M a b D n e)
