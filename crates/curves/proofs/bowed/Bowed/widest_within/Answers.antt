use Rattle.std.proofs.Common.{◌≡◌, ℕ, ◌-◌, ◌/◌, ◌<◌, unsigned_abs, sym, ap, ◌∙◌, arith}
use Rattle.curves.specs.Kinds.{bow, widest}
use Rattle.curves.specs.Bows.{widest_whole, widest_below, widest_largest}
use Rattle.curves.proofs.bowed.Bowed.widest_within.Goals as goal

pub loop-low-preserved : goal.loop-low-preserved
loop-low-preserved c =
    let middle : ℕ = c.loop-low.high - (c.loop-low.high - c.loop-low.low) / 2 in
    let far : c.args.self.tolerance < bow (unsigned_abs c.args.self.c2) middle = omega (arith, c.bow_of.ensures.is_the_bow) in (
      omega arith,
      omega arith,
      omega arith,
      c.loop-low.invariant.3,
      widest_below (unsigned_abs c.args.self.c2) c.args.self.tolerance middle c.loop-low.high (omega arith) (omega arith) far
          ∙ c.loop-low.invariant.4,
    )

pub returns : goal.returns
returns c =
    let e : c.loop-low.low ≡ c.loop-low.high = omega arith in
    let w : c.loop-low.low ≡ widest (unsigned_abs c.args.self.c2) c.args.self.tolerance c.args.length =
    sym (widest_whole (unsigned_abs c.args.self.c2) c.args.self.tolerance c.loop-low.low c.loop-low.invariant.3)
    ∙ ap (λ n. widest (unsigned_abs c.args.self.c2) c.args.self.tolerance n) e
    ∙ c.loop-low.invariant.4 in
    record {
      is_the_widest = w;
      at_least_one = omega arith;
      at_most_the_length = omega arith;
      within_the_tolerance = c.loop-low.invariant.3;
      no_more_points_are = λ m l k. widest_largest (unsigned_abs c.args.self.c2) c.args.self.tolerance c.args.length m (omega (arith, w)) k;
    }
