-- Configurations: the two lengths that the points r·a mod M leave between them, and the two index steps that cross them.
-- They mean something for a < M, as every stretch has it.
use Rattle.std.specs.Prelude.{ℕ, zero, suc, ◌+◌, ◌-◌, true, false, cond, nat_le, nat_lt}

-- v indices on, a point lies x higher; u indices back, it lies y higher
pub record Config : Type 0 where
  pub x : ℕ
  pub y : ℕ
  pub u : ℕ
  pub v : ℕ

-- the first configuration
abbrev pub start : (M a : ℕ) → Config
start M a = record { x = a; y = M - a; u = 1; v = 1 }

-- the one after it: the longer length gives up the shorter one, and a tie shortens y
abbrev pub next : Config → Config
next c =
    elim (nat_lt c.y c.x) [
      | true ↦ record { x = c.x - c.y; y = c.y; u = c.u; v = c.u + c.v }
      | false ↦ record { x = c.x; y = c.y - c.x; u = c.u + c.v; v = c.v }
    ]

-- the configuration after t steps
abbrev pub config_at : (M a t : ℕ) → Config
config_at M a zero = start M a
config_at M a (suc t) = next (config_at M a t)

-- the first configuration from c on with u + v ≥ n, looked for through f steps
abbrev pub first_from : ℕ → ℕ → Config → Config
first_from zero n c = c
first_from (suc f) n c = elim (nat_le n (c.u + c.v)) [ true ↦ c | false ↦ first_from f n (next c) ]

-- the configuration for n: the first with u + v ≥ n; each step adds at least 1 to u + v, so n steps are enough
abbrev pub config_for : (M a n : ℕ) → Config
config_for M a n = first_from n n (start M a)

-- the gap after point r among n points: how far the next point above it is
abbrev pub gap : ℕ → Config → ℕ → ℕ
gap n c r = cond (nat_lt (r + c.v) n) c.x (cond (nat_le c.u r) c.y (c.x + c.y))
