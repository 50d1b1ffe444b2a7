use Rattle.std.proofs.Common.{◌∙◌, ap, sym, List}
use Rattle.tac_faults.proofs.Lists.{told_then}
use Rattle.tac_faults.proofs.TextFaults.{line_more}
use Rattle.tac_faults.specs.Listed.{most_found}
use Rattle.tac_lines.specs.LineFaults.{first_by_place, row_faults}
use Rattle.tac_lines.specs.Tokens.{Row}
use Rattle.tac_lines.specs.code.Views.{fault_list, tokens_view}
use Rattle.tac_lines.specs.declared.token.Token.{Token}
use Rattle.tac_faults.proofs.lines.line_faults.Goals as goal

pub loop-at-preserved : goal.loop-at-preserved
loop-at-preserved c =
    let text = c.args.text.now in
    let line = c.line_stop-stop.ensures in
    let inside = c.loop-at.inside in
    let fault = c.row_fault-fault.result in
    let row : List Token → Row = λ ts. record { tokens = tokens_view text ts; bad = c.in_ok-bad.bad } in
    record {
      within = line.within;
      told = told_then most_found c.loop-at.found.items c.tell_found.new.found.items (fault_list fault) _ _ _ c.in_ok-tell_found.ensures
          (line_more text c.loop-at.at c.line_stop-stop.result inside c.in_ok-next.next (row c.read_row.new.row.items) fault
          line.line line.after line.within c.in_ok-bad.ensures.row
          (c.row_fault-fault.ensures ∙ ap (λ ts. first_by_place (row_faults inside (row ts))) c.deref.ensures.value)
          (sym c.in_ok-next.ensures))
          c.loop-at.invariant.told;
    }
