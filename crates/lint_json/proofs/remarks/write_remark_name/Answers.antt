use Rattle.std.proofs.Common.{◌++◌, codes, decimal, sym, ap, ◌∙◌}
use Rattle.flow_texts.specs.Tables.{line_at}
use Rattle.lint_json.specs.LintJson.{remark_name}
use Rattle.lint_texts.specs.code.Lines.{reached_in}
use Rattle.text_pieces.proofs.sinks.Taking.{takes_as, takes_then}
use Rattle.text_pieces.specs.Strings.{quoted}
use Rattle.lint_json.proofs.remarks.write_remark_name.Goals as goal

pub returns-in-NeverReached : goal.returns-in-NeverReached
returns-in-NeverReached g c =
    let program = c.args.lines.now.graph.now in
    takes_as _ _ _ _ (takes_then _ _ _ _ _ c.write.ensures c.write_size.ensures)
    (ap (λ n. codes ",\"last_line\":" ++ decimal n) (c.line.ensures ∙ ap (line_at program) c.last_unreached.ensures.last)
    ∙ ap (remark_name program (reached_in c.args.lines.now) c.args.point) (sym c.in-NeverReached.is))

pub returns-in-Unset : goal.returns-in-Unset
returns-in-Unset g c =
    takes_as _ _ _ _ (takes_then _ _ _ _ _ c.write-in-Unset.ensures c.write_quoted.ensures)
    (ap (λ n. codes ",\"variable\":" ++ quoted n) c.variable.ensures
    ∙ ap (remark_name c.args.lines.now.graph.now (reached_in c.args.lines.now) c.args.point) (sym c.in-Unset.is))

pub returns-in-Computed : goal.returns-in-Computed
returns-in-Computed g c =
    takes_as _ _ _ _ (takes_then _ _ _ _ _ c.write-in-Computed.ensures c.write_quoted-in-Computed.ensures)
    (ap (λ n. codes ",\"expression\":" ++ quoted n) c.expression.ensures
    ∙ ap (remark_name c.args.lines.now.graph.now (reached_in c.args.lines.now) c.args.point) (sym c.in-Computed.is))

pub returns-in-VeryBusy : goal.returns-in-VeryBusy
returns-in-VeryBusy g c =
    takes_as _ _ _ _ (takes_then _ _ _ _ _ c.write-in-VeryBusy.ensures c.write_quoted-in-VeryBusy.ensures)
    (ap (λ n. codes ",\"expression\":" ++ quoted n) c.expression-in-VeryBusy.ensures
    ∙ ap (remark_name c.args.lines.now.graph.now (reached_in c.args.lines.now) c.args.point) (sym c.in-VeryBusy.is))

pub returns-in-Dead : goal.returns-in-Dead
returns-in-Dead g c =
    takes_as _ _ _ _ (takes_then _ _ _ _ _ c.write-in-Dead.ensures c.write_quoted-in-Dead.ensures)
    (ap (λ n. codes ",\"variable\":" ++ quoted n) c.variable-in-Dead.ensures
    ∙ ap (remark_name c.args.lines.now.graph.now (reached_in c.args.lines.now) c.args.point) (sym c.in-Dead.is))
