use Rattle.std.proofs.Common.{arith}
use Rattle.search.proofs.ShorterX.{moves_l, small_move_l}
use Rattle.search.specs.Walk.{spot}
use Rattle.search.proofs.stretch.walk.Walk.move_x.Goals as goal

pub returns-clause-few : goal.returns-clause-few
returns-clause-few g c =
    let t = c.args.self.now.stretch in
    let s = spot g.A.Arithmetic.units c.args.s in
    let f = c.first_within.ensures in
    let m = moves_l s c.args.steps c.first_within.result.steps _ c.requires.in_an_x_gap c.requires.too_short f.within_by_then f.not_before in
    let z = small_move_l t.points s _ _ c.requires.steps_of_x m in
    (omega (arith, z.0, c.requires.under_way.walks.u_to, t.points_within), z.1)
