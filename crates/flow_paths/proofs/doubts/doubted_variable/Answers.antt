use Rattle.std.proofs.Common.{◌≡◌, ◌∙◌, Some, true, false, option_map, ap, sym}
use Rattle.flow_graph.specs.Points.{kind_at}
use Rattle.flow_graph.proofs.places.Standing.{stands}
use Rattle.report_answers.proofs.queries.Statements.{next_below}
use Rattle.flow_reports.specs.code.Findings.{knowledge_of}
use Rattle.tac_program.specs.Programs.{Program}
use Rattle.tac_program.specs.declared.program.Stmt.{Stmt}
use Rattle.flow_paths.specs.code.Doubted.{listed}
use Rattle.flow_paths.proofs.lists.Doubting.{doubted_is}
use Rattle.flow_paths.proofs.doubts.doubted_variable.Goals as goal

pub returns-then-is_doubted-clause-variable : goal.returns-then-is_doubted-clause-variable
returns-then-is_doubted-clause-variable c =
    let program : Program = c.args.sure.now.graph.now in
    let at : kind_at program c.args.point ≡ Some c.in-Some.stmt.now.kind = ap (option_map (λ (s : Stmt). s.kind)) (sym c.in-Some.ensures.stmt) in
    ap listed c.target.ensures
    ∙ doubted_is program (knowledge_of c.args.sure.now) c.requires.sure c.args.doubtful.now c.args.point c.in-Some.stmt.now.kind at true
    (sym c.if-is_doubted.true ∙ c.is_doubted.ensures)

pub returns-clause-variable : goal.returns-clause-variable
returns-clause-variable c =
    let program : Program = c.args.sure.now.graph.now in
    let at : kind_at program c.args.point ≡ Some c.in-Some.stmt.now.kind = ap (option_map (λ (s : Stmt). s.kind)) (sym c.in-Some.ensures.stmt) in
    doubted_is program (knowledge_of c.args.sure.now) c.requires.sure c.args.doubtful.now c.args.point c.in-Some.stmt.now.kind at false
    (sym c.if-is_doubted.false ∙ c.is_doubted.ensures)

pub is_doubted-requires-clause-next : goal.is_doubted-requires-clause-next
is_doubted-requires-clause-next c =
    let program : Program = c.args.sure.now.graph.now in
    let at : kind_at program c.args.point ≡ Some c.in-Some.stmt.now.kind = ap (option_map (λ (s : Stmt). s.kind)) (sym c.in-Some.ensures.stmt) in
    next_below program c.args.point c.in-Some.stmt.now.kind
    (stands program c.requires.found.sound c.args.point c.in-Some.stmt.now.kind c.requires.point at)
