use Rattle.std.proofs.Common.{rules, ◌≡◌, suc, ◌+◌, ◌-◌, ◌<◌, List, length, get_or, ap, ap₂, ◌∙◌, arith}
use Rattle.std.specs.List.{range_with_len}
use Rattle.flow_graph.specs.Points.{end_place, entry_point}
use Rattle.tac_program.specs.Programs.{Procedure, Program}
use Rattle.flow_views.proofs.facts.Tables.{ends_below, reads_statements}
use Rattle.flow_views.proofs.view_program.points_of.Goals as goal

pub overflow_cast-places : goal.overflow_cast-places
overflow_cast-places c =
    let program : Program = c.args.graph.now in
    let procs : c.procs-procs.result.now ≡ program.procedures =
    c.procs-procs.ensures.procedures ∙ ap (λ (p : Program). p.procedures) c.program.ensures in
    let ends = reads_statements program c.args.procedure c.index-procs-procedure.result c.stmts.result.now c.requires
    (c.index-procs-procedure.is ∙ ap (λ (ps : List Procedure). get_or ps c.args.procedure c.index-procs-procedure.result) procs) c.stmts.ensures in
    let below = ends_below program c.args.procedure c.requires in
    let small : length c.stmts.result.now < 4294967296 = omega (arith, ends, below, c.points.ensures.few) in
    search rules

pub returns-clause-numbers : goal.returns-clause-numbers
returns-clause-numbers c =
    let program : Program = c.args.graph.now in
    let procs : c.procs-procs.result.now ≡ program.procedures =
    c.procs-procs.ensures.procedures ∙ ap (λ (p : Program). p.procedures) c.program.ensures in
    let ends = reads_statements program c.args.procedure c.index-procs-procedure.result c.stmts.result.now c.requires
    (c.index-procs-procedure.is ∙ ap (λ (ps : List Procedure). get_or ps c.args.procedure c.index-procs-procedure.result) procs) c.stmts.ensures in
    let first : c.point-first.result ≡ entry_point program c.args.procedure = c.point-first.ensures in
    let many : c.point-last.result + 1 - c.point-first.result ≡ suc (end_place program c.args.procedure) =
    omega (arith, ends, c.point-first.ensures, c.point-last.ensures) in
    ap₂ range_with_len first many

pub returns-clause-end : goal.returns-clause-end
returns-clause-end c =
    let program : Program = c.args.graph.now in
    let procs : c.procs-procs.result.now ≡ program.procedures =
    c.procs-procs.ensures.procedures ∙ ap (λ (p : Program). p.procedures) c.program.ensures in
    let ends = reads_statements program c.args.procedure c.index-procs-procedure.result c.stmts.result.now c.requires
    (c.index-procs-procedure.is ∙ ap (λ (ps : List Procedure). get_or ps c.args.procedure c.index-procs-procedure.result) procs) c.stmts.ensures in
    omega (arith, ends, c.point-last.ensures)

pub returns-clause-there : goal.returns-clause-there
returns-clause-there c =
    let program : Program = c.args.graph.now in
    let procs : c.procs-procs.result.now ≡ program.procedures =
    c.procs-procs.ensures.procedures ∙ ap (λ (p : Program). p.procedures) c.program.ensures in
    let ends = reads_statements program c.args.procedure c.index-procs-procedure.result c.stmts.result.now c.requires
    (c.index-procs-procedure.is ∙ ap (λ (ps : List Procedure). get_or ps c.args.procedure c.index-procs-procedure.result) procs) c.stmts.ensures in
    omega (arith, ends, c.point-last.ensures, ends_below program c.args.procedure c.requires)
