use Rattle.std.proofs.Common.{◌++◌, codes, sym, ap, ◌∙◌}
use Rattle.lint_texts.specs.LintTexts.{remark_words}
use Rattle.lint_texts.specs.code.Lines.{reached_in}
use Rattle.text_pieces.proofs.sinks.Taking.{takes_as, takes_then}
use Rattle.lint_texts.proofs.lines.LintLines.write_remark.Goals as goal

pub returns-in-Unset : goal.returns-in-Unset
returns-in-Unset g c =
    takes_as _ _ _ _ (takes_then _ _ _ _ _ c.write.ensures c.write-in-Unset.ensures)
    (ap (λ n. n ++ codes " may be used before it is set") c.variable.ensures
    ∙ ap (remark_words c.args.self.now.graph.now (reached_in c.args.self.now) c.args.point) (sym c.in-Unset.is))

pub returns-in-Computed : goal.returns-in-Computed
returns-in-Computed g c =
    takes_as _ _ _ _ (takes_then _ _ _ _ _ c.write-in-Computed.ensures c.write-in-Computed-2.ensures)
    (ap (λ n. n ++ codes " is already computed") c.expression.ensures
    ∙ ap (remark_words c.args.self.now.graph.now (reached_in c.args.self.now) c.args.point) (sym c.in-Computed.is))

pub returns-in-VeryBusy : goal.returns-in-VeryBusy
returns-in-VeryBusy g c =
    takes_as _ _ _ _ (takes_then _ _ _ _ _ c.write-in-VeryBusy.ensures c.write-in-VeryBusy-2.ensures)
    (ap (λ n. n ++ codes " is very busy") c.expression-in-VeryBusy.ensures
    ∙ ap (remark_words c.args.self.now.graph.now (reached_in c.args.self.now) c.args.point) (sym c.in-VeryBusy.is))

pub returns-in-Dead : goal.returns-in-Dead
returns-in-Dead g c =
    takes_as _ _ _ _ (takes_then _ _ _ _ _ (takes_then _ _ _ _ _ c.write-in-Dead.ensures c.write-in-Dead-2.ensures) c.write-in-Dead-3.ensures)
    (ap (λ n. codes "the value assigned to " ++ n ++ codes " is never used") c.variable-in-Dead.ensures
    ∙ ap (remark_words c.args.self.now.graph.now (reached_in c.args.self.now) c.args.point) (sym c.in-Dead.is))
