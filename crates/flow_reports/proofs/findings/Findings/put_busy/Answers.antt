use Rattle.std.proofs.Common.{◌∙◌, ℕ, ◌++◌, List, true, false, append-nil, map, sym, ap}
use Rattle.std.proofs.lemmas.Result.{on_ok_weaker}
use Rattle.flow_reports.specs.Listed.{placed_at}
use Rattle.flow_reports.specs.code.Findings.{knowledge_of}
use Rattle.flow_reports.specs.declared.remark.Remark.TheVariants.{VeryBusy}
use Rattle.flow_reports.proofs.knowledge.RemarkLines.{busy_is}
use Rattle.flow_reports.proofs.findings.Findings.put_busy.Goals as goal

pub returns : goal.returns
returns c =
    on_ok_weaker c.put_busy_words.result
    (λ put. put
    ∙ sym (ap (λ (xs : List ℕ). c.args.remarks.now.items ++ placed_at c.args.point (map (λ e. VeryBusy e) xs))
    (busy_is c.args.self.now.graph.now (knowledge_of c.args.self.now) c.args.point c.args.kind.now true c.requires.kind
    (sym c.tells_busy.ensures ∙ c.if-not-tells_busy.false))))
    c.put_busy_words.ensures

pub returns-then-not-tells_busy : goal.returns-then-not-tells_busy
returns-then-not-tells_busy c =
    sym (ap (λ (xs : List ℕ). c.args.remarks.now.items ++ placed_at c.args.point (map (λ e. VeryBusy e) xs))
    (busy_is c.args.self.now.graph.now (knowledge_of c.args.self.now) c.args.point c.args.kind.now false c.requires.kind
    (sym c.tells_busy.ensures ∙ c.if-not-tells_busy.true))
    ∙ append-nil c.args.remarks.now.items)
