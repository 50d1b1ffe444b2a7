use Rattle.std.proofs.Common.{ap, arith, sym, ◌∙◌}
use Rattle.tac_lines.specs.Tokens.{Row}
use Rattle.tac_lines.specs.code.Views.{tokens_view}
use Rattle.tac_hints.proofs.HintTexts.{opened_more, opened_none, opened_past}
use Rattle.tac_hints.specs.Texts.{opened_line}
use Rattle.tac_hints.proofs.text_hints.opened_hint.Goals as goal
use Rattle.tac_hints.proofs.text_hints.opened_hint.Goals.{then-loop-left-test+else-at-text, else-loop-left-test}

pub loop-left-preserved : goal.loop-left-preserved
loop-left-preserved c =
    let text = c.args.text.now in
    let line = c.line_stop-stop.ensures in
    let before = c.loop-left.invariant in
    let row : Row = record { tokens = tokens_view text c.read_row.new.row.items; bad = c.in_ok-read_row.field-0 } in
    record {
      within = line.within;
      number = omega (arith, before.number, line.after);
      left = opened_more text c.loop-left.left c.loop-left.at c.line_stop-stop.result c.loop-left.line row c.loop-left.hint
          c.opened_line-hint.result _ c.loop-left-test.true line.line line.after line.within c.in_ok-read_row.ensures.row
          (ap (λ ts. opened_line c.loop-left.line (tokens_view text ts) c.loop-left.hint) (sym c.deref.ensures.value)
          ∙ c.opened_line-hint.ensures text)
          before.left;
    }

pub returns : goal.returns
returns c =
    elim c.loop-left-test.branch [
      | then-loop-left-test+else-at-text w ↦
          opened_past c.args.text.now c.loop-left.left c.loop-left.at c.loop-left.line c.loop-left.hint _ w.if-at-text.false
          c.loop-left.invariant.left
      | else-loop-left-test w ↦
          opened_none c.args.text.now c.loop-left.left c.loop-left.at c.loop-left.line c.loop-left.hint _ (omega (arith, w.loop-left-test.false))
          c.loop-left.invariant.left
    ]
