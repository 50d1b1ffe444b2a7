use Rattle.std.proofs.Common.{◌≡◌, ℕ, List, ◌<◌, codes, length, ap, ◌∙◌, arith}
use Rattle.text_pieces.proofs.sinks.Taking.{takes_as, takes_then}
use Rattle.tac_program.specs.Programs.{Program}
use Rattle.text_pieces.specs.Strings.{quoted}
use Rattle.flow_views.proofs.texts.Rows.{joined_all, joined_behind, name_read}
use Rattle.json_texts.proofs.outlines.write_procedures.Goals as goal

pub loop-procedure-preserved : goal.loop-procedure-preserved
loop-procedure-preserved g c =
    let names : List (List ℕ) = c.args.graph.now.procedure_names in
    let i : ℕ = c.loop-procedure.procedure in
    let name : List ℕ = c.name_of_procedure.result.now in
    let procs : length c.procs-count.result.now ≡ length c.args.graph.now.procedures =
    ap length c.procs-count.ensures.procedures ∙ ap (λ (p : Program). length p.procedures) c.program.ensures in
    let below : i < length names = omega (arith, c.loop-procedure-test.true, procs, c.points.ensures.sound.named) in
    takes_as _ _ _ _ (takes_then _ _ _ _ _ (takes_then _ _ _ _ _ c.loop-procedure.invariant c.write_if.ensures)
    c.write_quoted.ensures)
    (joined_behind (codes "[") (codes ",") quoted names i name below (name_read names i name below c.name_of_procedure.ensures))

pub returns : goal.returns
returns g c =
    let names : List (List ℕ) = c.args.graph.now.procedure_names in
    let procs : length c.procs-count.result.now ≡ length c.args.graph.now.procedures =
    ap length c.procs-count.ensures.procedures ∙ ap (λ (p : Program). length p.procedures) c.program.ensures in
    let all : c.loop-procedure.procedure ≡ length names =
    omega (arith, c.loop-procedure-test.false, c.loop-procedure.auto.procedure-end, procs, c.points.ensures.sound.named) in
    takes_as _ _ _ _ (takes_then _ _ _ _ _ c.loop-procedure.invariant c.write-2.ensures)
    (joined_all (codes ",") quoted names c.loop-procedure.procedure all)
