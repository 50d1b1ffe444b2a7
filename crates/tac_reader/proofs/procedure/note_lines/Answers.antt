use Rattle.std.proofs.Common.{◌<◌, ◌∙◌, All, ap, arith, flat_map, fold, length, subst, sym}
use Rattle.tac_lines.specs.Forms.{behind_labels}
use Rattle.tac_reader.specs.Parses.{names_in}
use Rattle.tac_program.specs.Names.{noted}
use Rattle.tac_reader.specs.Sections.{only_name, variables_of}
use Rattle.tac_reader.specs.code.Occurrences.{IsNumberedIn}
use Rattle.tac_reader.specs.declared.occurrences.NotedVariables.{NotedVariables}
use Rattle.tac_lines.specs.code.Views.{tokens_view}
use Rattle.tac_lines.proofs.lines.RangeLemmas.{no_line}
use Rattle.tac_reader.proofs.programs.VariableRuns.{noted_line}
use Rattle.tac_reader.proofs.procedure.note_lines.Goals as goal
use Rattle.tac_reader.proofs.procedure.note_lines.Goals.{then-plays+in_ok-note_statement, else-plays}

pub loop-at-preserved : goal.loop-at-preserved
loop-at-preserved c =
    let text = c.args.text.now in
    let table = c.loop-at.variables.table in
    let below : c.loop-at.at < length c.args.lines.ranges.now = omega (arith, c.loop-at-test.true, c.len-at-end.ensures) in
    elim c.if-plays.branch [
      | then-plays+in_ok-note_statement w ↦ record {
        rest = noted_line text c.args.lines.tokens.now c.args.lines.ranges.now c.loop-at.at no_line table c.if-plays.variables.table _ below
            (ap (λ (v : NotedVariables). v.table) w.variables-is ∙ w.in_ok-note_statement.ensures.noted ∙ ap (λ ts. fold noted table (names_in (variables_of ts)))
            (w.statement-statement.ensures text ∙ ap (λ ts. behind_labels (tokens_view text ts)) (w.line.ensures no_line)))
            c.loop-at.invariant.rest;
        numbered = subst (λ (v : NotedVariables). All (IsNumberedIn text v.table) v.occurrences.items) (sym w.variables-is)
            w.in_ok-note_statement.ensures.numbered;
      }
      | else-plays w ↦ record {
        rest = noted_line text c.args.lines.tokens.now c.args.lines.ranges.now c.loop-at.at no_line table c.if-plays.variables.table _ below
            (ap (λ (v : NotedVariables). v.table) w.variables-is ∙ ap (λ ts. fold noted table (names_in (flat_map only_name ts))) (sym (c.plays.ensures text no_line w.if-plays.false)))
            c.loop-at.invariant.rest;
        numbered = subst (λ (v : NotedVariables). All (IsNumberedIn text v.table) v.occurrences.items) (sym w.variables-is)
            c.loop-at.invariant.numbered;
      }
    ]
