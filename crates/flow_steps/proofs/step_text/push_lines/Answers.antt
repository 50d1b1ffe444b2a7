use Rattle.std.proofs.Common.{◌≡◌, ◌∙◌, refl, subst, sym}
use Rattle.flow_rounds.specs.Steps.{IsIteration}
use Rattle.flow_rounds.specs.code.Frames.{Framed, IsOrdered, iteration_of}
use Rattle.flow_rounds.specs.declared.point_range.PointRange.{PointRange}
use Rattle.flow_steps.specs.StepTexts.{iteration_lines}
use Rattle.flow_steps.proofs.told.Facts.{iteration_is}
use Rattle.flow_steps.proofs.step_text.push_lines.Goals as goal

pub returns : goal.returns
returns c =
    let frame : Framed = c.in_ok-frame.frame in
    let has = c.in_ok-push_analysis.ensures in
    let points : PointRange = record { first = c.shown_points-numbers.result.first; end = c.shown_points-numbers.result.end } in
    let of_analysis : c.in_ok-frame.frame.analysis ≡ c.args.analysis = c.in_ok-frame.ensures.analysis ∙ c.in-Some.ensures.analysis in
    let is : c.in_ok-frame.frame ≡ record {
      program = c.args.shown.now.found.graph.now;
      analysis = c.args.analysis;
      procedure = c.args.procedure;
      points = record { first = c.shown_points-numbers.result.first; end = c.shown_points-numbers.result.end };
      table = c.in-Some.table.now;
      order = c.in_ok-frame.frame.order;
    } = (λ i. record {
      program = c.in_ok-frame.ensures.program i;
      analysis = of_analysis i;
      procedure = c.in_ok-frame.ensures.procedure i;
      points = c.in_ok-frame.ensures.points i;
      table = c.in_ok-frame.ensures.table i;
      order = c.in_ok-frame.frame.order;
    }) in
    let iterates : IsIteration (iteration_of c.in_ok-frame.frame) = subst (λ (f : Framed). IsIteration (iteration_of f)) (sym is)
    (iteration_is c.args.shown.now c.requires.shown c.args.procedure c.requires.procedure c.args.analysis c.requires.chosen c.in-Some.table.now
    c.in-Some.ensures.facts points c.shown_points-numbers.ensures.first c.shown_points-numbers.ensures.end c.in_ok-frame.frame.order
    (subst (λ (f : Framed). IsOrdered f) is c.order.ensures.ordered)) in
    record {
      lines = iteration_lines (iteration_of c.in_ok-frame.frame) has.last;
      are_lines = record {
        iteration = iteration_of c.in_ok-frame.frame;
        of_program = c.in_ok-frame.ensures.program;
        of_procedure = c.in_ok-frame.ensures.procedure;
        of_analysis = of_analysis;
        is_iteration = iterates;
        last = has.last;
        is_last = has.is_last;
        is_text = refl;
      };
      is_text = has.is_text;
    }
