use Rattle.std.proofs.Common.{◌-◌, refl, ap, ◌∙◌, inl, inr}
use Rattle.search.proofs.Answered.{one_close, two_walks, stands}
use Rattle.search.proofs.ShorterX.{told}
use Rattle.search.specs.Walk.{evidence_at}
use Rattle.search.proofs.stretch.walk.Walk.second_place.Goals as goal

pub returns-then-self : goal.returns-then-self
returns-then-self g c =
    let t = c.args.self.now.stretch in
    record {
      hits_or_walks = stands
          (two_walks _ _ _ _ _ 0 t.offset t.slope_below t.offset_below c.requires.two_points c.requires.zero_is_not_close (inl (refl, refl, c.if-self.true)))
          c.first_place-s.ensures.the_first_configuration;
    }

pub returns-then-d-self : goal.returns-then-d-self
returns-then-d-self g c =
    let t = c.args.self.now.stretch in
    record {
      hits_or_walks = told
          (one_close _ _ _ _ _ t.slope_below t.offset_below c.requires.two_points c.requires.zero_is_not_close c.if-self.false c.if-d-self.true)
          refl (c.evidence.ensures.the_numbers_of_the_place ∙ ap evidence_at c.first_place-s.ensures.the_first_configuration);
    }

pub returns : goal.returns
returns g c =
    let t = c.args.self.now.stretch in
    let e = c.first_place-s.ensures.the_first_configuration in
    let d = c.from_units.ensures.has_the_units in
    record {
      hits_or_walks = stands
          (two_walks _ _ _ _ _ 1 (t.offset - t.slope) t.slope_below t.offset_below c.requires.two_points c.if-d-self.false (inr (refl, refl, c.if-self.false)))
          (λ i. record { u = (e i).u; v = (e i).v; x = (e i).x; y = (e i).y; r = 1; d = d i });
    }
