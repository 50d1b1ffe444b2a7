use Rattle.std.proofs.Common.{◌∙◌, ap, sym}
use Rattle.flow_graph.proofs.places.Standing.{stands}
use Rattle.tac_program.specs.Programs.{Program}
use Rattle.flow_reports.specs.code.Findings.{knowledge_of}
use Rattle.text_pieces.specs.code.Lists.{some_stand}
use Rattle.flow_reports.proofs.knowledge.RemarkLines.{dead_is, none_dead, some_if}
use Rattle.report_answers.proofs.queries.Statements.{next_below}
use Rattle.flow_reports.proofs.findings.Findings.finds_dead.Goals as goal

pub is_dead_after-requires-clause-next : goal.is_dead_after-requires-clause-next
is_dead_after-requires-clause-next c =
    let program : Program = c.args.self.now.graph.now in
    next_below program c.args.point c.args.kind.now
    (stands program c.requires.found.sound c.args.point c.args.kind.now c.requires.point c.requires.kind)

pub returns-in-Some : goal.returns-in-Some
returns-in-Some c =
    let program : Program = c.args.self.now.graph.now in
    sym (ap some_stand (dead_is program (knowledge_of c.args.self.now)
    c.args.point c.in-Some.variable c.args.kind.now c.is_dead_after.result c.requires.kind (sym c.in-Some.ensures) (sym c.is_dead_after.ensures))
    ∙ some_if c.is_dead_after.result c.in-Some.variable)

pub returns-in-None : goal.returns-in-None
returns-in-None c =
    let program : Program = c.args.self.now.graph.now in
    sym (ap some_stand (none_dead program (knowledge_of c.args.self.now) c.args.point c.args.kind.now c.requires.kind (sym c.in-None.ensures)))
