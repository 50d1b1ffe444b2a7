use Rattle.std.proofs.Common.{◌≡◌, ◌∙◌, ℕ, Bool, List, false, length, map, not, sym, ap, subst, arith}
use Rattle.std.specs.List.{range_with_len}
use Rattle.std.specs.Prelude.{slice_index_or}
use Rattle.std.proofs.lemmas.List.FromFn.{length-map-range_with_len}
use Rattle.flow_graph.specs.Analyses.{shape_of}
use Rattle.flow_graph.specs.Leading.{TellLeading}
use Rattle.flow_graph.specs.Points.{point_count}
use Rattle.flow_graph.specs.Runs.{IsDoubtful}
use Rattle.flow_graph.specs.declared.analysis.Analysis.TheVariants.{Live}
use Rattle.flow_links.specs.Shapes.{LinkedProgram}
use Rattle.flow_reports.proofs.knowledge.Doubts.{tell_doubtful}
use Rattle.flow_reports.specs.code.Findings.{TellDoubtful}
use Rattle.tac_program.specs.Programs.{Program}
use Rattle.tac_program.specs.Sound.{IsSound}
use Rattle.flow_kept.specs.Kept.{KeptProgram}
use Rattle.flow_kept.specs.code.Flags.{AreNumbers}
use Rattle.flow_kept.proofs.facts.Flags.{flags_told, paths_tell}
use Rattle.flow_kept.proofs.kept.Kept.put_doubtful.Goals as goal

pub leads_to-requires : goal.leads_to-requires
leads_to-requires c =
    let values : List Bool = c.paths.result.now in
    ap length (c.as_slice.ensures.value ∙ c.in_ok-endless.ensures)
    ∙ length-map-range_with_len (λ (point : ℕ). not (slice_index_or values point false)) 0 (length values)
    ∙ c.paths.ensures.count
    ∙ ap (λ (routes : LinkedProgram). point_count routes.program) c.routes.ensures
    ∙ ap point_count (sym c.requires.graph)

pub returns-clause-doubtful : goal.returns-clause-doubtful
returns-clause-doubtful c =
    let program : Program = c.args.self.now.program in
    let values : List Bool = c.paths.result.now in
    let flag : ℕ → Bool = λ point. slice_index_or values point false in
    let sound : IsSound program = subst IsSound (ap (λ (kept : KeptProgram). kept.program) c.self.view_is) c.procs.ensures.sound in
    let count : length values ≡ point_count program =
    c.paths.ensures.count ∙ ap (λ (routes : LinkedProgram). point_count routes.program) c.routes.ensures in
    let marks = c.as_slice.ensures.value ∙ c.in_ok-endless.ensures ∙ ap (λ n. map (λ point. not (flag point)) (range_with_len 0 n)) count in
    let leads = subst (λ (p : Program). TellLeading p c.as_slice.result.now c.in_ok-doubtful.doubtful.items) c.requires.graph c.in_ok-doubtful.ensures in
    let told : TellDoubtful program c.in_ok-doubtful.doubtful.items =
    tell_doubtful program flag c.as_slice.result.now c.in_ok-doubtful.doubtful.items sound
    (λ point below. paths_tell program Live c.routes.result.now values sound c.routes.ensures c.paths.ensures point below) marks leads in
    flags_told (IsDoubtful (shape_of program)) c.in_ok-doubtful.doubtful.items c.args.points.0 c.args.points.1 c.args.flags.now c.put_flags.new.flags
    c.requires.room
    (subst (λ (bs : List Bool). AreNumbers bs c.args.points.0 c.args.flags.now c.put_flags.new.flags) c.as_slice-2.ensures.value c.put_flags.ensures)
    (λ point below. told.each point (omega (arith, below, c.requires.points.1)))
