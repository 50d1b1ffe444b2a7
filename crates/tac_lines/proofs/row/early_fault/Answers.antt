use Rattle.std.proofs.Common.{◌≡◌, ◌∙◌, sym, ap, length, arith, ◌≤◌}
use Rattle.std.proofs.lemmas.List.{length-map}
use Rattle.tac_lines.specs.Tokens.{stop_of}
use Rattle.tac_lines.specs.code.Views.{token_view, tokens_view}
use Rattle.tac_lines.proofs.lines.EarlyFaults.{early}
use Rattle.tac_lines.proofs.row.early_fault.Goals as goal

pub returns-then-fault-at : goal.returns-then-fault-at
returns-then-fault-at c rest =
    let text = c.args.text.now in
    let ts = tokens_view text c.args.row.now in
    let stop : stop_of ts ≡ c.stop_of.result = c.stop_of.ensures text in
    let reach : c.args.at ≤ stop_of ts = omega (arith, stop, c.if-stop_of-at.false) in
    early c.args.inside ts c.args.at c.in-Some.fault rest reach
    (λ one. c.if-behind_labels-eq1.false
    (sym (length-map c.behind_labels.result.now (token_view text)) ∙ ap length (c.behind_labels.ensures.behind text) ∙ one))
    (sym c.row_fault.ensures ∙ c.in-Some.is) c.if-fault-at.true
