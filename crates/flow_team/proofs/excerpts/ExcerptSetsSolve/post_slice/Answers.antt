use Rattle.std.proofs.Common.{◌↔◌, ◌∙◌, ◌+◌, ◌<◌, sym, ap, subst, arith}
use Rattle.flow_team.specs.Sets.{IsInMaySet}
use Rattle.flow_team.specs.code.Excerpts.{IsInExcerpt, Excerpt}
use Rattle.flow_team.proofs.excerpts.ExcerptSetsSolve.post_slice.Goals as goal

pub post_slice_from-requires-clause-ready : goal.post_slice_from-requires-clause-ready
post_slice_from-requires-clause-ready c =
    let on = c.requires.on in
    let inside = c.self.inside in
    let excerpt_is = on.wanted ∙ sym c.self.view_is in
    record {
      wants = λ point bit.
          subst (λ (excerpt : Excerpt). IsInExcerpt excerpt point bit ↔ ((point < inside.count) × IsInMaySet inside.sets (inside.first + point) bit))
          (sym excerpt_is) ((λ want. want), (λ want. want));
      points = on.points ∙ ap (λ (excerpt : Excerpt). excerpt.count) (sym c.self.view_is);
      there = c.self.invariant;
      within = omega arith;
      of = c.requires.of;
    }
