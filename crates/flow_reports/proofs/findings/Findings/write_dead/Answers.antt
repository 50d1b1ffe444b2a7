-- The assigned variable is there, and so is the point after the assignment.
use Rattle.std.proofs.Common.{ℕ, List, true, flat_map, append-nil, ap, ◌∙◌, sym}
use Rattle.flow_graph.proofs.places.Standing.{stands}
use Rattle.tac_program.specs.Programs.{Program}
use Rattle.flow_reports.specs.code.Findings.{knowledge_of}
use Rattle.flow_reports.specs.declared.remark.Remark.TheVariants.{Dead}
use Rattle.flow_reports.proofs.knowledge.RemarkLines.{dead_is}
use Rattle.report_answers.proofs.queries.Statements.{assigned_there, next_below}
use Rattle.text_pieces.proofs.sinks.Taking.{takes_as}
use Rattle.flow_reports.proofs.findings.Findings.write_dead.Goals as goal

pub is_dead_after-requires-clause-next : goal.is_dead_after-requires-clause-next
is_dead_after-requires-clause-next g c =
    let program : Program = c.args.self.now.graph.now in
    next_below program c.args.point c.args.kind.now
    (stands program c.requires.found.sound c.args.point c.args.kind.now c.requires.point c.requires.kind)

pub write_remark-requires-clause-remark : goal.write_remark-requires-clause-remark
write_remark-requires-clause-remark g c =
    let program : Program = c.args.self.now.graph.now in
    assigned_there program c.args.point c.in-Some.variable c.args.kind.now
    (stands program c.requires.found.sound c.args.point c.args.kind.now c.requires.point c.requires.kind) (sym c.in-Some.ensures)

pub returns : goal.returns
returns g c =
    let program : Program = c.args.self.now.graph.now in
    let point : ℕ = c.args.point in
    let x : ℕ = c.in-Some.variable in
    let text : ℕ → List ℕ = λ v. g.F.ChosenForm.text c.args.form.now program point (Dead v) in
    takes_as _ _ _ _ c.write_remark.ensures
    (sym (ap (flat_map text) (dead_is program (knowledge_of c.args.self.now) point x c.args.kind.now true c.requires.kind (sym c.in-Some.ensures)
    (sym c.is_dead_after.ensures ∙ c.if-not-is_dead_after.false))
    ∙ append-nil (text x)))
