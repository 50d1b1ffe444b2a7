use Rattle.std.proofs.Common.{rules, ◌≡◌, ◌<◌, List, length, get_or, ap, ◌∙◌, arith}
use Rattle.tac_program.specs.Programs.{Procedure, Program}
use Rattle.flow_views.proofs.facts.Tables.{ends_below, reads_statements}
use Rattle.flow_paths.proofs.shown.points_in.Goals as goal

pub overflow_cast-places : goal.overflow_cast-places
overflow_cast-places c =
    let program : Program = c.args.graph.now in
    let procs : c.procs-procs.result.now ≡ program.procedures =
    c.procs-procs.ensures.procedures ∙ ap (λ (p : Program). p.procedures) c.program.ensures in
    let ends = reads_statements program c.args.procedure c.index-procs-procedure.result c.stmts.result.now c.requires
    (c.index-procs-procedure.is ∙ ap (λ (ps : List Procedure). get_or ps c.args.procedure c.index-procs-procedure.result) procs) c.stmts.ensures in
    let below = ends_below program c.args.procedure c.requires in
    let small : length c.stmts.result.now < 4294967296 = omega (arith, ends, below, c.points.ensures.few) in
    search rules

pub returns-clause-end : goal.returns-clause-end
returns-clause-end c =
    let program : Program = c.args.graph.now in
    let procs : c.procs-procs.result.now ≡ program.procedures =
    c.procs-procs.ensures.procedures ∙ ap (λ (p : Program). p.procedures) c.program.ensures in
    let ends = reads_statements program c.args.procedure c.index-procs-procedure.result c.stmts.result.now c.requires
    (c.index-procs-procedure.is ∙ ap (λ (ps : List Procedure). get_or ps c.args.procedure c.index-procs-procedure.result) procs) c.stmts.ensures in
    omega (arith, ends, c.point-last.ensures)

pub returns-clause-there : goal.returns-clause-there
returns-clause-there c =
    let program : Program = c.args.graph.now in
    let procs : c.procs-procs.result.now ≡ program.procedures =
    c.procs-procs.ensures.procedures ∙ ap (λ (p : Program). p.procedures) c.program.ensures in
    let ends = reads_statements program c.args.procedure c.index-procs-procedure.result c.stmts.result.now c.requires
    (c.index-procs-procedure.is ∙ ap (λ (ps : List Procedure). get_or ps c.args.procedure c.index-procs-procedure.result) procs) c.stmts.ensures in
    omega (arith, ends, c.point-last.ensures, ends_below program c.args.procedure c.requires)
