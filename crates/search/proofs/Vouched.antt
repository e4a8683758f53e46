-- From the five numbers to the circle, and back; and the laws of the definitions.
use Rattle.std.proofs.Common.{ℕ, zero, suc, ◌+◌, ◌*◌, ◌/◌, ◌%◌, ◌<◌, ◌≤◌, pos, ◌-ℤ◌, refl, mul-le-mul_right, mod-lt, div-add-mod', arith}
use Rattle.grid.specs.Residue.{residue}
use Rattle.grid.proofs.Congruence.{residue_sub, same_below}
use Rattle.search.specs.Points.{distance}
use Rattle.search.specs.Configurations.{Config, next, config_at, first_from, config_for}
use Rattle.search.specs.Vouching.{Vouches, config_of}
use Rattle.search.specs.Laws.{First, ConfigurationIsTheFirstLongEnough, ExactlyOneGapHoldsTheOffset, VouchingNumbersGiveTheLeastDistance, NumbersVouchExactlyWhenNoPointIsClose}
use Rattle.search.specs.Walk.{Holds}
use Rattle.search.specs.declared.evidence.Evidence.{Evidence}
use Rattle.search.proofs.Sound.{nearest, only}
use Rattle.search.proofs.Complete.{Fine, held, fine_for, below_suc, by_leb, by_next, next_more}

pub holds : (M a b D n : ℕ) (c : Evidence) → 0 < M → Vouches M a b D n c → Holds M a b n (config_of c) c.r
holds M a b D n c h s =
    let y = (residue_sub M 0 (c.u * a) h).1 in
    record {
      shares = record {
        x_is = record {
          i = c.v * a / M;
          j = c.x / M;
          is = omega (arith, s.fills.x_is, div-add-mod' c.x M, div-add-mod' (c.v * a) M);
        };
        y_is = record {
          i = y.i;
          j = y.j + c.y / M;
          is = omega (arith, y.is, s.fills.y_is, div-add-mod' c.y M);
        };
        whole = s.fills.whole;
      };
      enough = s.within.enough;
      below = s.within.r_below;
      inside = s.clears.inside;
    }

pub vouch : (M a b D n : ℕ) (c : Evidence) → 0 < M → Fine M a n (config_of c) → Holds M a b n (config_of c) c.r → D ≤ distance M a b c.r → Vouches M a b D n c
vouch M a b D n c h f s l =
    let y = residue_sub M 0 (c.u * a) h in
    let x = s.shares.x_is in
    let z = s.shares.y_is in
    record {
      within = record {
        u_from = f.u_from;
        u_to = f.u_to;
        v_from = f.v_from;
        v_to = f.v_to;
        enough = s.enough;
        x_to = omega (arith, s.shares.whole, mul-le-mul_right c.x f.u_from);
        y_to = omega (arith, s.shares.whole, mul-le-mul_right c.y f.v_from);
        r_below = s.below;
      };
      fills = record {
        x_is = same_below M (c.x % M) (c.v * a % M) (mod-lt c.x h) (mod-lt (c.v * a) h)
            (record { i = c.x / M + x.i; j = c.v * a / M + x.j; is = omega (arith, x.is, div-add-mod' c.x M, div-add-mod' (c.v * a) M) });
        y_is = same_below M (c.y % M) (residue M (pos 0 -ℤ pos (c.u * a))) (mod-lt c.y h) y.0
            (record { i = c.y / M + z.i + y.1.j; j = z.j + y.1.i; is = omega (arith, z.is, y.1.is, div-add-mod' c.y M) });
        whole = s.shares.whole;
      };
      clears = record { far = l; inside = s.inside };
    }

pub least_distance : VouchingNumbersGiveTheLeastDistance
least_distance M a b D n e h s k l = nearest M a b n (config_of e) e.r h (holds M a b D n e h s) k l

-- the configuration for n with an index whose gap holds b
abbrev with_index : Config → ℕ → Evidence
with_index c r = record { u = c.u; v = c.v; x = c.x; y = c.y; r = r }

pub vouch_exactly : NumbersVouchExactlyWhenNoPointIsClose
vouch_exactly M a b D n h l z = (
  λ e k o. omega (arith, e.1.clears.far, least_distance M a b D n e.0 h e.1 k o),
  λ f.
      let e = fine_for M a n (omega arith) z in
      let (r, s) = held M a b n (config_for M a n) h z e.fine e.enough in
      (with_index (config_for M a n) r, vouch M a b D n (with_index (config_for M a n) r) h e.fine s (f r s.below)),
)

pub exactly_one : ExactlyOneGapHoldsTheOffset
exactly_one M a b n h l z =
    let e = fine_for M a n (omega arith) z in
    let (r, s) = held M a b n (config_for M a n) h z e.fine e.enough in (
      r,
      record {
        below = s.below;
        inside = s.inside;
        alone = λ k o i. only M a b n (config_for M a n) k r h (record { shares = s.shares; enough = s.enough; below = o; inside = i }) s;
      },
    )

-- every configuration has steps of at least 1
one_at_least : (M a t : ℕ) → (1 ≤ (config_at M a t).u) × (1 ≤ (config_at M a t).v)
one_at_least M a zero = (omega arith, omega arith)
one_at_least M a (suc t) = steps (config_at M a t) (one_at_least M a t)
  where
    steps : (c : Config) → (1 ≤ c.u) × (1 ≤ c.v) → (1 ≤ (next c).u) × (1 ≤ (next c).v)
    steps c o = by_next (λ d. (1 ≤ d.u) × (1 ≤ d.v)) c (λ _. (omega arith, omega arith)) (λ _. (omega arith, omega arith))

-- from a configuration before which none is long enough, the first that is
first_after : (M a n f t : ℕ) → ((s : ℕ) → s < t → (config_at M a s).u + (config_at M a s).v < n) → n ≤ (config_at M a t).u + (config_at M a t).v + f →
    First M a n (first_from f n (config_at M a t))
first_after M a n zero t b l = record { t = t; reached = refl; enough = omega arith; none_before = b }
first_after M a n (suc f) t b l =
    by_leb n ((config_at M a t).u + (config_at M a t).v) (First M a n) (config_at M a t) (first_from f n (next (config_at M a t)))
    (λ e. record { t = t; reached = refl; enough = e; none_before = b })
    (λ e. first_after M a n f (suc t) (below_suc {P = λ s. (config_at M a s).u + (config_at M a s).v < n} t b e)
    (omega (arith, next_more (config_at M a t) (one_at_least M a t).0 (one_at_least M a t).1)))

pub is_first : ConfigurationIsTheFirstLongEnough
is_first M a n = first_after M a n n 0 (λ s l. absurd (omega arith)) (omega arith)
