use Rattle.std.proofs.Common.{◌∙◌, ◌++◌, List, true, false, sym, ap}
use Rattle.std.proofs.lemmas.Result.{on_ok_weaker}
use Rattle.flow_reports.specs.Listed.{placed_at}
use Rattle.flow_reports.specs.code.Findings.{knowledge_of}
use Rattle.flow_reports.specs.declared.remark.Remark.{Remark}
use Rattle.flow_reports.proofs.knowledge.RemarkLines.{remarks_if}
use Rattle.flow_reports.proofs.findings.Findings.put_remarks.Goals as goal

pub returns-then-reaches : goal.returns-then-reaches
returns-then-reaches c =
    on_ok_weaker c.put_when_reached.result
    (λ put. put
    ∙ ap (λ (rs : List Remark). c.args.remarks.now.items ++ placed_at c.args.point rs)
    (sym (remarks_if c.args.self.now.graph.now (knowledge_of c.args.self.now) c.args.point c.in-Some.stmt.now true (sym c.in-Some.ensures.stmt)
    (sym c.reaches.ensures ∙ c.if-reaches.true))))
    c.put_when_reached.ensures

pub returns : goal.returns
returns c =
    on_ok_weaker c.put_if.result
    (λ put. put
    ∙ ap (λ (rs : List Remark). c.args.remarks.now.items ++ placed_at c.args.point rs)
    (sym (remarks_if c.args.self.now.graph.now (knowledge_of c.args.self.now) c.args.point c.in-Some.stmt.now false (sym c.in-Some.ensures.stmt)
    (sym c.reaches.ensures ∙ c.if-reaches.false))))
    c.put_if.ensures
