use Rattle.std.proofs.Common.{inl, inr, arith}
use Rattle.search.proofs.Batching.{is_less, is_not_less}
use Rattle.search.proofs.ShorterX.{stays_l, moved_l, late_l, hits_l, told}
use Rattle.search.specs.Walk.{spot}
use Rattle.search.proofs.stretch.walk.Walk.shorten_x.Goals as goal
use Rattle.search.proofs.stretch.walk.Walk.shorten_x.Goals.{then-s-via-then-s, then-s-via-else-s+then-less, then-s-eq0, else-s-eq0}

pub returns-then-s : goal.returns-then-s
returns-then-s g c =
    let w = c.requires.under_way in
    let b = c.batch_x-batch.ensures in
    record {
      hits_or_goes_on = stays_l _ _ _ _ _ (spot g.A.Arithmetic.units c.args.s) _ _ w.walks w.unfinished b.steps_of_x b.the_rest
          (elim c.then-s.branch [
            | then-s-via-then-s w ↦ inl w.if-s.true
            | then-s-via-else-s+then-less w ↦ inr (is_less _ _ _ (g.met.A.Arithmetic.ordered _ _) w.if-less.ensures.tells_the_order)
          ]);
    }

pub returns-then-k-self : goal.returns-then-k-self
returns-then-k-self g c =
    let w = c.requires.under_way in
    let b = c.batch_x-batch.ensures in
    record {
      hits_or_goes_on = late_l _ _ _ _ _ (spot g.A.Arithmetic.units c.args.s) _ _ _ w.walks w.unfinished b.steps_of_x c.move_x-moved.ensures.the_move b.the_rest c.if-k-self.true;
    }

pub returns-then-less-2 : goal.returns-then-less-2
returns-then-less-2 g c =
    let w = c.requires.under_way in
    let b = c.batch_x-batch.ensures in
    let m = c.move_x-moved.ensures in
    let t = c.args.self.now in
    let near = is_less _ _ _ (g.met.A.Arithmetic.ordered _ _) c.if-less-2.ensures.tells_the_order in
    record {
      hits_or_goes_on = told
          (hits_l _ _ _ _ _ (spot g.A.Arithmetic.units c.args.s) _ _ c.if-s-eq0.t _ (omega (arith, t.stretch.modulus.within)) w.walks w.unfinished b.steps_of_x m.the_move
          m.the_distance c.if-k-self.false (omega (arith, near, t.near_is_the_threshold)) m.at_least_one
          (elim c.if-s-eq0.branch [
            | then-s-eq0 w ↦ inl (omega (arith, w.if-s-eq0), omega (arith, w.t-is))
            | else-s-eq0 w ↦ inr (omega (arith, w.if-s-eq0), omega (arith, w.t-is))
          ]))
          c.to_units.ensures.tells_the_units c.evidence_after_x.ensures.the_lengths_after_t_steps;
    }

pub returns : goal.returns
returns g c =
    let w = c.requires.under_way in
    let b = c.batch_x-batch.ensures in
    let m = c.move_x-moved.ensures in
    let t = c.args.self.now in
    let far = is_not_less _ _ _ (g.met.A.Arithmetic.ordered _ _) c.if-less-2.ensures.tells_the_order in
    record {
      hits_or_goes_on = moved_l _ _ _ _ _ (spot g.A.Arithmetic.units c.args.s) _ _ _ _ (omega (arith, t.stretch.modulus.within)) w.walks w.unfinished b.steps_of_x m.the_move b.the_rest
          m.the_distance c.if-k-self.false (omega (arith, far, t.near_is_the_threshold));
    }
