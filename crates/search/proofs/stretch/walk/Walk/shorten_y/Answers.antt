use Rattle.std.proofs.Common.{inl, inr, arith}
use Rattle.search.proofs.Batching.{is_not_less}
use Rattle.search.proofs.ShorterY.{stays_r, moved_r, near_r, hits_r, hit_told}
use Rattle.search.specs.Walk.{spot}
use Rattle.search.proofs.stretch.walk.Walk.shorten_y.Goals as goal
use Rattle.search.proofs.stretch.walk.Walk.shorten_y.Goals.{then-s-2, else-s-2}

pub returns-then-s : goal.returns-then-s
returns-then-s g c =
    let w = c.requires.under_way in
    let b = c.batch_y-batch.ensures in
    record { hits_or_goes_on = stays_r _ _ _ _ _ (spot g.A.Arithmetic.units c.args.s) _ _ w.walks w.unfinished b.steps_of_y b.the_rest c.if-s.true }

pub hit_after-requires : goal.hit_after-requires
hit_after-requires g c =
    let w = c.requires.under_way in
    let p = c.args.self.now.stretch.points_within in
    let n = near_r _ _ _ _ _ (spot g.A.Arithmetic.units c.args.s) _ _ _ w.walks w.unfinished c.moves_y-moves.ensures.the_moves c.moves_before-g.ensures.one_more_is_close in
    record {
      within_the_gap = (n.2, n.3);
      small = (c.if-s.false, (omega (arith, n.1, p), omega (arith, n.0, p)));
      steps = elim c.if-s-2.branch [ then-s-2 w ↦ omega (arith, w.i-is) | else-s-2 w ↦ omega (arith, w.i-is) ];
    }

pub returns-then-less : goal.returns-then-less
returns-then-less g c =
    let w = c.requires.under_way in
    let t = c.args.self.now.stretch in
    record {
      hits_or_goes_on = hit_told t
          (hits_r _ _ _ _ _ (spot g.A.Arithmetic.units c.args.s) _ _ _ _ (omega (arith, t.modulus.within)) w.walks w.unfinished c.batch_y-batch.ensures.steps_of_y
          c.moves_y-moves.ensures.the_moves c.moves_before-g.ensures.one_more_is_close
          (elim c.if-s-2.branch [
            | then-s-2 w ↦ inl (omega (arith, w.if-s-2), omega (arith, w.i-is))
            | else-s-2 w ↦ inr (omega (arith, w.if-s-2, c.if-s.false), omega (arith, w.i-is))
          ]))
          c.hit_after.ensures.the_next_point_with_evidence;
    }

pub returns : goal.returns
returns g c =
    let w = c.requires.under_way in
    let b = c.batch_y-batch.ensures in
    let m = c.moves_y-moves.ensures in
    let t = c.args.self.now in
    let far = is_not_less _ _ _ (g.met.A.Arithmetic.ordered _ _) c.if-less.ensures.tells_the_order in
    record {
      hits_or_goes_on = moved_r _ _ _ _ _ (spot g.A.Arithmetic.units c.args.s) _ _ _ _ (omega (arith, t.stretch.modulus.within)) w.walks w.unfinished b.steps_of_y m.the_moves b.the_rest
          m.the_distance (omega (arith, far, t.near_is_the_threshold));
    }
