use Rattle.std.proofs.Common.{◌++◌, codes, decimal, sym, ap, ◌∙◌}
use Rattle.flow_graph.specs.declared.place.Place.{Place}
use Rattle.lint_texts.specs.LintTexts.{turn_words}
use Rattle.tac_program.specs.Names.{name_at}
use Rattle.text_pieces.proofs.sinks.Taking.{takes_as, takes_then}
use Rattle.lint_texts.proofs.lines.LintLines.write_turn_words.Goals as goal

pub returns-in-Step : goal.returns-in-Step
returns-in-Step g c =
    takes_as _ _ _ _ (takes_then _ _ _ _ _ c.write.ensures c.write_number.ensures)
    (ap (λ n. codes "the way leads on to line " ++ decimal n) c.line.ensures ∙ ap (turn_words c.args.self.now.graph.now) (sym c.in-Step.is))

pub returns-in-Enter : goal.returns-in-Enter
returns-in-Enter g c =
    takes_as _ _ _ _ (takes_then _ _ _ _ _ c.write-in-Enter.ensures c.write-in-Enter-2.ensures)
    (ap (λ n. codes "the way leads into " ++ n) (c.procedure.ensures
    ∙ ap (λ (p : Place). name_at c.args.self.now.graph.now.procedure_names p.procedure) c.place.ensures)
    ∙ ap (turn_words c.args.self.now.graph.now) (sym c.in-Enter.is))

pub returns-in-Pass : goal.returns-in-Pass
returns-in-Pass g c =
    takes_as _ _ _ _ (takes_then _ _ _ _ _ c.write-in-Pass.ensures c.write-in-Pass-2.ensures)
    (ap (λ n. codes "the way leads past this call, by way of " ++ n) c.procedure-in-Pass.ensures
    ∙ ap (turn_words c.args.self.now.graph.now) (sym c.in-Pass.is))
