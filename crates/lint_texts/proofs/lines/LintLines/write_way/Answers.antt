use Rattle.std.proofs.Common.{List, ◌++◌, ◌∙◌, [], ap, ap₂, sym, cond, flat_map}
use Rattle.flow_why.specs.declared.hop.Hop.{Hop}
use Rattle.lint_texts.specs.LintTexts.{Turns, file_text, left_out_line, turn_lines}
use Rattle.lint_texts.specs.code.Uses.{ways_in}
use Rattle.text_pieces.proofs.sinks.Taking.{takes_as, takes_then}
use Rattle.lint_texts.proofs.lines.LintLines.write_way.Goals as goal

pub returns-then-self : goal.returns-then-self
returns-then-self g c =
    let self = c.args.self.now in
    let way : Turns = ways_in self.ways.items c.args.variable in
    let told = flat_map (turn_lines (file_text self.file) self.telling.style self.graph.now) way.turns
    ++ left_out_line self.file.name.now self.telling.style way.left_out in
    takes_as _ _ _ _ (takes_then _ _ _ _ _ c.write_turns.ensures c.write_left_out_line.ensures)
    (ap₂ (λ (turns : List Hop) count. flat_map (turn_lines (file_text self.file) self.telling.style self.graph.now) turns
    ++ left_out_line self.file.name.now self.telling.style count) c.turns.ensures c.left_out.ensures
    ∙ sym (ap (λ t. cond t told []) c.if-self.true))
