use Rattle.std.proofs.Common.{◌∙◌, sym, ap, length, drop, ◌++◌, List}
use Rattle.std.proofs.lemmas.Result.{err_from_is_err_and}
use Rattle.tac_lines.specs.declared.token.Token.{Token}
use Rattle.tac_lines.specs.LineFaults.{row_faults, line_faults, inside_after}
use Rattle.tac_lines.specs.code.Lexed.{some_of}
use Rattle.tac_lines.specs.code.Ranges.{range_views}
use Rattle.tac_lines.specs.Text.{lines}
use Rattle.tac_lines.specs.Tokens.{Row, rows_from}
use Rattle.tac_lines.specs.code.Views.{tokens_view}
use Rattle.tac_lines.proofs.lines.FirstFault.{none_first}
use Rattle.tac_lines.proofs.lines.FaultPlaces.{first_of_text, stop_of_text, rows_step, no_fault_step}
use Rattle.tac_lines.proofs.lines.LexSteps.{lines_step, not_some, row_is}
use Rattle.tac_lines.proofs.lex.lex.Goals as goal

pub returns-in_err-bad-clause-fault : goal.returns-in_err-bad-clause-fault
returns-in_err-bad-clause-fault c =
    let line = c.line_stop-stop.ensures in
    let p = err_from_is_err_and c.from_residual-in_err-bad.result c.from_residual-in_err-bad.ensures.1 in
    rw p.1 (rw p.2 (stop_of_text c.args.text.now c.loop-at.at c.line_stop-stop.result c.loop-at.inside c.in_err-bad.field-0.0 _ line.line line.after
    line.within c.in_err-bad.ensures.fault c.loop-at.invariant.faults))

pub returns-in-Some-clause-fault : goal.returns-in-Some-clause-fault
returns-in-Some-clause-fault c =
    let line = c.line_stop-stop.ensures in
    let row = row_is c.args.text.now c.loop-at.at c.line_stop-stop.result c.in_ok-bad.bad _ _ c.in_ok-bad.ensures.row
    (sym (c.in_ok-line.ensures ∙ c.deref.ensures.value)) in
    first_of_text c.args.text.now c.loop-at.at c.line_stop-stop.result c.loop-at.inside _ c.in-Some.fault _ line.line line.after line.within row
    (sym c.line_fault.ensures ∙ c.in-Some.is) c.loop-at.invariant.faults

pub loop-at-preserved : goal.loop-at-preserved
loop-at-preserved c =
    let text = c.args.text.now in
    let at = c.loop-at.at in
    let stop = c.line_stop-stop.result in
    let inside = c.loop-at.inside in
    let line = c.line_stop-stop.ensures in
    let row : List Token → Row = λ ts. record { tokens = tokens_view text ts; bad = c.in_ok-bad.bad } in
    let step = rows_step text at stop _ line.line line.after line.within c.in_ok-bad.ensures.row in
    let same = c.in_ok-line.ensures ∙ c.deref.ensures.value in
    let none = ap (λ ts. row_faults inside (row ts)) (sym same) ∙ none_first _ (sym c.line_fault.ensures ∙ not_some _ c.in_default.not-Some) in
    let after = ap (λ ts. inside_after inside (row ts)) (sym same) ∙ c.inside_after-inside.ensures text c.in_ok-bad.bad in
    let before = range_views c.loop-at.tokens.items c.loop-at.lines.items in
    let pushed = c.in_ok-push_line.ensures.pushed ∙ ap (λ ts. before ++ some_of ts) same in
    record {
      within = line.within;
      faults = c.loop-at.invariant.faults ∙ ap (line_faults inside (length text)) step ∙ no_fault_step inside c.inside_after-inside.result
          (length text) (row c.read_row.new.row.items) (rows_from stop (lines (drop stop text))) none after;
      stand = c.in_ok-push_line.ensures.lines;
      lines = lines_step text before (range_views c.push_line.new.tokens.items c.push_line.new.lines.items)
          _ c.in_ok-bad.bad _ _ _ step pushed c.loop-at.invariant.lines;
    }
