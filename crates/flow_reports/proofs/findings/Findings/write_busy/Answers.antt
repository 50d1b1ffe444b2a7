use Rattle.std.proofs.Common.{ℕ, List, true, false, flat_map, ap, sym, ◌∙◌}
use Rattle.tac_program.specs.Programs.{Program}
use Rattle.flow_reports.specs.code.Findings.{knowledge_of}
use Rattle.flow_reports.specs.declared.remark.Remark.TheVariants.{VeryBusy}
use Rattle.flow_reports.proofs.knowledge.RemarkLines.{busy_is}
use Rattle.text_pieces.proofs.sinks.Taking.{takes_as, takes_nothing}
use Rattle.flow_reports.proofs.findings.Findings.write_busy.Goals as goal

pub returns : goal.returns
returns g c =
    let program : Program = c.args.self.now.graph.now in
    let text : ℕ → List ℕ = λ e. g.F.ChosenForm.text c.args.form.now program c.args.point (VeryBusy e) in
    takes_as _ _ _ _ c.write_busy_words.ensures
    (sym (ap (flat_map text) (busy_is program (knowledge_of c.args.self.now) c.args.point c.args.kind.now true c.requires.kind
    (sym c.tells_busy.ensures ∙ c.if-not-tells_busy.false))))

pub returns-then-not-tells_busy : goal.returns-then-not-tells_busy
returns-then-not-tells_busy g c =
    let program : Program = c.args.self.now.graph.now in
    let text : ℕ → List ℕ = λ e. g.F.ChosenForm.text c.args.form.now program c.args.point (VeryBusy e) in
    takes_as _ _ _ _ (takes_nothing _)
    (sym (ap (flat_map text) (busy_is program (knowledge_of c.args.self.now) c.args.point c.args.kind.now false c.requires.kind
    (sym c.tells_busy.ensures ∙ c.if-not-tells_busy.true))))
