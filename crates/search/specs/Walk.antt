-- What the search keeps true on its way. Only contracts of inner functions cite this file.
use Rattle.std.specs.Prelude.{◌≡◌, ℕ, suc, ◌+◌, ◌-◌, ◌*◌, ◌/◌, ◌<◌, ◌≤◌, ◌⊎◌, min}
use Rattle.std.specs.declared.ops.ControlFlow.{ControlFlow}
use Rattle.std.specs.declared.ops.ControlFlow.TheVariants.{Continue, Break}
use Rattle.grid.specs.Congruent.{Same}
use Rattle.search.specs.Points.{distance}
use Rattle.search.specs.Configurations.{Config, gap, config_for, first_from}
use Rattle.search.specs.Vouching.{config_of}
use Rattle.search.specs.declared.evidence.Evidence.{Evidence}
use Rattle.search.specs.declared.stretch.Stretch.{Stretch}
use Rattle.search.specs.declared.place.Place.{Place}
use Rattle.search.specs.declared.place.Hit.{Hit}
use Rattle.search.specs.Answers.{answer}
use Rattle.search.specs.declared.answer.Answer.TheVariants.{Clear}

-- two gap lengths and two index steps that share out the circle
pub record Shares (M a x y u v : ℕ) : Type 0 where
  pub x_is : Same M x (v * a)
  pub y_is : Same M (y + u * a) 0
  pub whole : u * x + v * y ≡ M

-- a configuration that shares out the circle, with r whose gap holds b
pub record Holds (M a b n : ℕ) (c : Config) (r : ℕ) : Type 0 where
  pub shares : Shares M a c.x c.y c.u c.v
  pub enough : n ≤ c.u + c.v
  pub below : r < n
  pub inside : distance M a b r < gap n c r

-- the configuration for n is c or comes after it
pub record Towards (M a n : ℕ) (c : Config) : Type 0 where
  pub f : ℕ
  pub left : n ≤ c.u + c.v + f
  pub is : config_for M a n ≡ first_from f n c

-- a place of the walk in units: a configuration, the index whose gap holds b, and its distance
pub record Spot : Type 0 where
  pub u : ℕ
  pub v : ℕ
  pub x : ℕ
  pub y : ℕ
  pub r : ℕ
  pub d : ℕ

-- the code's place in units, by what an arithmetic's lengths count
abbrev pub spot : {A : Type 0} → (A → ℕ) → Place A → Spot
spot units s = record { u = s.u; v = s.v; x = units s.x; y = units s.y; r = s.r; d = units s.d }

abbrev pub placed : Spot → Config
placed s = record { x = s.x; y = s.y; u = s.u; v = s.v }

-- the walk up to n stands at s: nothing met so far is close
pub record Walks (M a b D n : ℕ) (s : Spot) : Type 0 where
  pub u_from : 1 ≤ s.u
  pub u_to : s.u ≤ n
  pub v_from : 1 ≤ s.v
  pub v_to : s.v ≤ n
  pub x_to : s.x ≤ M
  pub y_to : s.y ≤ M
  pub held : Holds M a b (min n (s.u + s.v)) (placed s) s.r
  pub d_is : s.d ≡ distance M a b s.r
  pub far : D ≤ s.d
  pub to_n : Towards M a n (placed s)
  pub beyond : (k : ℕ) → s.u + s.v ≤ k → Towards M a k (placed s)

-- k is the least close index, w its value, and e the evidence for k
pub record Hits (M a b D n k w : ℕ) (e : Evidence) : Type 0 where
  pub from : 1 ≤ k
  pub below : k < n
  pub value : w ≡ distance M a b k
  pub close : w < D
  pub least : (j : ℕ) → j < k → D ≤ distance M a b j
  pub config : config_for M a k ≡ config_of e
  pub held : Holds M a b k (config_of e) e.r

-- the walk goes on from s to t, with more points
pub record Goes (M a b D n : ℕ) (s t : Spot) : Type 0 where
  pub walks : Walks M a b D n t
  pub more : s.u + s.v < t.u + t.v

-- the evidence with the lengths of s after t steps that shorten x
abbrev pub shorter_x : Spot → ℕ → Evidence
shorter_x s t = record { u = s.u; v = s.v + t * s.u; x = s.x - t * s.y; y = s.y; r = s.r }

-- the same after t steps that shorten y, at the point r
abbrev pub shorter_y : Spot → ℕ → ℕ → Evidence
shorter_y s t r = record { u = s.u + t * s.v; v = s.v; x = s.x; y = s.y - t * s.x; r = r }

-- the numbers of a place, as evidence
abbrev pub evidence_at : Spot → Evidence
evidence_at s = record { u = s.u; v = s.v; x = s.x; y = s.y; r = s.r }

-- the place over one point: its gap is the whole circle
abbrev pub started : (M a b : ℕ) → Spot
started M a b = record { u = 1; v = 1; x = a; y = M - a; r = 0; d = b }

-- the same facts of a walk along a stretch
abbrev pub WalksAlong : Stretch → Spot → Type 0
WalksAlong t s = Walks t.modulus.value t.slope t.offset t.threshold t.points s

-- the walk along a stretch stands at s, and has not come to its end
pub record Walking (t : Stretch) (s : Spot) : Type 0 where
  pub walks : WalksAlong t s
  pub unfinished : s.u + s.v < t.points

-- the same facts of a hit on a stretch
abbrev pub HitsOn : Stretch → Hit → Type 0
HitsOn t h = Hits t.modulus.value t.slope t.offset t.threshold t.points h.index h.value h.evidence

-- what a turn of the walk from s comes to
abbrev pub Turned : {A : Type 0} → (A → ℕ) → Stretch → Spot → ControlFlow Hit (Place A) → Type 0
Turned units t s (Break h) = HitsOn t h
Turned units t s (Continue p) = Goes t.modulus.value t.slope t.offset t.threshold t.points s (spot units p)

-- what the place over two points is: the hit of the point 1, or a place to walk from
abbrev pub Opened : {A : Type 0} → (A → ℕ) → Stretch → ControlFlow Hit (Place A) → Type 0
Opened units t (Break h) = HitsOn t h
Opened units t (Continue p) = WalksAlong t (spot units p)

-- what the walk comes to: a hit, or the evidence that none is close
abbrev pub Ended : Stretch → ControlFlow Hit Evidence → Type 0
Ended t (Break h) = HitsOn t h
Ended t (Continue e) = answer t.modulus.value t.slope t.offset t.threshold t.points ≡ Clear e

-- how many of the n points a turn leaves to walk
abbrev pub points_left : {A : Type 0} → ℕ → ControlFlow Hit (Place A) → ℕ
points_left n (Break h) = 0
points_left n (Continue p) = n - (p.u + p.v)

-- ---- batches of steps

-- q steps from s that shorten x: something of x is left, and fewer are not enough for n points
pub record ShortensX (n : ℕ) (s : Spot) (q : ℕ) : Type 0 where
  pub some : 1 ≤ q
  pub few : (q - 1) * s.u < n - (s.u + s.v)
  pub within : q * s.y < s.x

-- the point below the offset lies in an x gap, and moves at the i-th of q steps
pub record MovesX (s : Spot) (q i : ℕ) : Type 0 where
  pub left : s.r < s.u
  pub passed : s.x - q * s.y ≤ s.d
  pub from : s.x ≤ s.d + i * s.y
  pub to : s.d + i * s.y < s.x + s.y

-- q steps from s that shorten y: they go into it, and fewer are not enough for n points
pub record ShortensY (n : ℕ) (s : Spot) (q : ℕ) : Type 0 where
  pub some : 1 ≤ q
  pub few : (q - 1) * s.v < n - (s.u + s.v)
  pub within : q * s.x ≤ s.y

-- the point below the offset lies in a y gap, and moves t times in q steps, as often as there are steps, points below n, and it stays below
pub record MovesY (n : ℕ) (s : Spot) (q t : ℕ) : Type 0 where
  pub right : s.u ≤ s.r
  pub few : t ≤ q
  pub room : t ≤ (n - 1 - s.r) / s.v
  pub within : t * s.x ≤ s.d
  pub full : (t ≡ q) ⊎ ((t ≡ (n - 1 - s.r) / s.v) ⊎ (s.d < t * s.x + s.x))

-- of t moves the one after the g-th is the first that comes closer than D
pub record ClosesY (D : ℕ) (s : Spot) (t g : ℕ) : Type 0 where
  pub not_yet : D + g * s.x ≤ s.d
  pub now_is : s.d < D + suc g * s.x
  pub met : s.d - t * s.x < D
