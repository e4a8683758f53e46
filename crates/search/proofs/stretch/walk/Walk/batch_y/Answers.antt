use Rattle.std.proofs.Common.{◌+◌, ◌-◌, arith}
use Rattle.search.proofs.Batching.{few_added}
use Rattle.search.proofs.stretch.walk.Walk.batch_y.Goals as goal

pub returns-clause-few : goal.returns-clause-few
returns-clause-few g c =
    let t = c.args.self.now.stretch in
    let s = c.args.s in
    omega (
      arith,
      few_added (t.points - (s.u + s.v)) s.v _ _ c.steps_for-most.ensures.one_less_is_too_few c.take_off.ensures.at_most,
      c.requires.under_way.walks.v_to,
      t.points_within,
    )
