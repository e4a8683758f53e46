use Rattle.std.proofs.Common.{◌+◌, Ok, ap, subst, arith}
use Rattle.std.proofs.lemmas.Result.{err_from_is_err_and}
use Rattle.sheets.specs.Inner.{Turned}
use Rattle.sheets.specs.declared.turn.Turn.{Turn}
use Rattle.sheets.proofs.Going.{begins, refused, over, as_named, goes_on_with_a_hit, goes_on}
use Rattle.sheets.proofs.judging.judge.Judge.judge_rest.Goals as goal
use Rattle.sheets.proofs.judging.judge.Judge.judge_rest.Goals.{in-Hit, in-On}

pub loop-end-init : goal.loop-end-init
loop-end-init g c =
    let j = c.args.self.now in
    begins (g.C.Curve.meaning j.curve.now) j.assignment j.sheet.now c.args.from c.args.places.now
    c.start_of.result c.start_of.ensures.is_the_first_index (omega (arith, c.requires)) (omega (arith, c.requires))

pub returns-in_err-judge_one : goal.returns-in_err-judge_one
returns-in_err-judge_one g c =
    let j = c.args.self.now in
    let l = c.loop-end in
    let p = err_from_is_err_and c.from_residual.result c.from_residual.ensures.1 in
    record {
      tells_the_judgement =
          rw (p.1, p.2)
          (refused (g.C.Curve.meaning j.curve.now) j.assignment j.sheet.now c.args.from c.args.places.now
          l.progress.at l.progress.next l.progress.records l.count l.places l.invariant _
          c.in_err-judge_one.ensures.leaves_the_judgement_to_the_rest);
    }

pub returns-in-Over : goal.returns-in-Over
returns-in-Over g c =
    let j = c.args.self.now in
    let l = c.loop-end in
    let m = g.C.Curve.meaning j.curve.now in
    let P : Turn → Type 0 = λ t. Turned m j.assignment j.sheet.now l.progress.at l.progress.next l.progress.records (Ok t) in
    record {
      tells_the_judgement =
          over m j.assignment j.sheet.now c.args.from c.args.places.now
          l.progress.at l.progress.next l.progress.records l.count l.places l.invariant
          (subst P c.in-Over.is c.in_ok-judge_one.ensures.leaves_the_judgement_to_the_rest);
    }

pub loop-end-preserved : goal.loop-end-preserved
loop-end-preserved g c =
    let j = c.args.self.now in
    let l = c.loop-end in
    let q = c.match-branch-2 in
    let m = g.C.Curve.meaning j.curve.now in
    let P : Turn → Type 0 = λ t. Turned m j.assignment j.sheet.now l.progress.at l.progress.next l.progress.records (Ok t) in
    let turn = c.in_ok-judge_one.ensures.leaves_the_judgement_to_the_rest in
    elim q.branch [
      | in-Hit w ↦
          as_named m j.assignment j.sheet.now c.args.from c.args.places.now
          _ q.end.0 _ q.end.1 (l.progress.records + 1) _ q.count _ q.places (ap (λ z. z.0) w.end-is) (ap (λ z. z.1) w.end-is) w.count-is w.places-is
          (goes_on_with_a_hit m j.assignment j.sheet.now c.args.from c.args.places.now
          l.progress.at l.progress.next l.progress.records l.count l.places l.invariant w.in-Hit.end w.lay.new.places
          (subst P w.in-Hit.is turn) (omega arith) w.lay.ensures.laid_at_its_place)
      | in-On w ↦
          as_named m j.assignment j.sheet.now c.args.from c.args.places.now
          _ q.end.0 _ q.end.1 (l.progress.records + 1) _ q.count _ q.places (ap (λ z. z.0) w.end-is) (ap (λ z. z.1) w.end-is) w.count-is w.places-is
          (goes_on m j.assignment j.sheet.now c.args.from c.args.places.now
          l.progress.at l.progress.next l.progress.records l.count l.places l.invariant w.in-On.end w.in-On.next
          (subst P w.in-On.is turn))
    ]
