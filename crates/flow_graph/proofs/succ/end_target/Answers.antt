use Rattle.std.proofs.Common.{rules, ◌≡◌, ◌<◌, List, length, get_or, ap, ◌∙◌, arith}
use Rattle.tac_program.specs.Programs.{Program, Procedure}
use Rattle.flow_graph.specs.Points.{Place, procedure_at}
use Rattle.flow_graph.proofs.places.PointLemmas.{points_have_places}
use Rattle.flow_graph.proofs.edges.SuccessorLemmas.{reads_end}
use Rattle.flow_graph.proofs.succ.end_target.Goals as goal

pub bounds-procs-procedure : goal.bounds-procs-procedure
bounds-procs-procedure c =
    let place = points_have_places c.args.points.now c.args.point c.requires.point in
    let same : c.place-procedure.result.procedure ≡ procedure_at c.args.points.now c.args.point =
    ap (λ (at : Place). at.procedure) c.place-procedure.ensures in
    let procs : c.procs-procs.result.now ≡ c.args.points.now.procedures =
    c.procs-procs.ensures.procedures ∙ ap (λ (p : Program). p.procedures) c.program.ensures in
    omega (arith, place.procedure, same, ap length procs)

pub overflow_cast-stmts : goal.overflow_cast-stmts
overflow_cast-stmts c =
    let same : c.place-procedure.result.procedure ≡ procedure_at c.args.points.now c.args.point =
    ap (λ (at : Place). at.procedure) c.place-procedure.ensures in
    let procs : c.procs-procs.result.now ≡ c.args.points.now.procedures =
    c.procs-procs.ensures.procedures ∙ ap (λ (p : Program). p.procedures) c.program.ensures in
    let ends = reads_end c.args.points.now c.args.point c.place-procedure.result.procedure c.index-procs-procedure.result c.stmts-stmts.result.now
    c.requires.point same
    (c.index-procs-procedure.is ∙ ap (λ (ps : List Procedure). get_or ps c.place-procedure.result.procedure c.index-procs-procedure.result) procs)
    c.stmts-stmts.ensures in
    let below : length c.stmts-stmts.result.now < 4294967296 = omega (arith, ends.few, c.requires.few) in
    search rules

pub point-requires : goal.point-requires
point-requires c =
    let same : c.place-procedure.result.procedure ≡ procedure_at c.args.points.now c.args.point =
    ap (λ (at : Place). at.procedure) c.place-procedure.ensures in
    let procs : c.procs-procs.result.now ≡ c.args.points.now.procedures =
    c.procs-procs.ensures.procedures ∙ ap (λ (p : Program). p.procedures) c.program.ensures in
    let ends = reads_end c.args.points.now c.args.point c.place-procedure.result.procedure c.index-procs-procedure.result c.stmts-stmts.result.now
    c.requires.point same
    (c.index-procs-procedure.is ∙ ap (λ (ps : List Procedure). get_or ps c.place-procedure.result.procedure c.index-procs-procedure.result) procs)
    c.stmts-stmts.ensures in
    record { procedure = ends.there; place = ends.place }

pub returns : goal.returns
returns c =
    let same : c.place-procedure.result.procedure ≡ procedure_at c.args.points.now c.args.point =
    ap (λ (at : Place). at.procedure) c.place-procedure.ensures in
    let procs : c.procs-procs.result.now ≡ c.args.points.now.procedures =
    c.procs-procs.ensures.procedures ∙ ap (λ (p : Program). p.procedures) c.program.ensures in
    let ends = reads_end c.args.points.now c.args.point c.place-procedure.result.procedure c.index-procs-procedure.result c.stmts-stmts.result.now
    c.requires.point same
    (c.index-procs-procedure.is ∙ ap (λ (ps : List Procedure). get_or ps c.place-procedure.result.procedure c.index-procs-procedure.result) procs)
    c.stmts-stmts.ensures in
    c.point.ensures ∙ ends.target
