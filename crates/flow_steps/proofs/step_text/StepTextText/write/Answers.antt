use Rattle.std.proofs.Common.{◌∙◌, ◌++◌}
use Rattle.flow_views.specs.Json.{end_line}
use Rattle.json_texts.specs.Changes.{named_program_line}
use Rattle.text_pieces.proofs.sinks.Taking.{takes_as, takes_then}
use Rattle.flow_steps.proofs.step_text.StepTextText.write.Goals as goal

pub returns : goal.returns
returns g c =
    takes_as _ _ _ _
    (takes_then _ _ _ _ _ (takes_then _ _ _ _ _ (takes_then _ _ _ _ _ c.write_named_program.ensures c.write.ensures) c.write-2.ensures)
    c.write_end.ensures)
    ((λ i. named_program_line c.self.inside.shown.found.graph.now ++ c.deref.ensures.value i ++ c.deref-2.ensures.value i
    ++ end_line c.self.inside.shown.found.graph.now c.self.inside.shown.view) ∙ c.self.view_is)
