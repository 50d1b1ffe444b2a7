use Rattle.std.proofs.Common.{List, Bool, ap, subst, arith}
use Rattle.flow_graph.specs.Analyses.{HasPathAt}
use Rattle.tac_program.specs.Programs.{Program}
use Rattle.tac_program.specs.Sound.{IsSound}
use Rattle.flow_kept.specs.Kept.{KeptProgram}
use Rattle.flow_kept.proofs.facts.Flags.{flags_told, paths_tell}
use Rattle.flow_kept.proofs.kept.Kept.put_paths.Goals as goal

pub returns : goal.returns
returns c =
    let program : Program = c.args.self.now.program in
    let values : List Bool = c.paths-paths.result.now in
    let sound : IsSound program = subst IsSound (ap (λ (kept : KeptProgram). kept.program) c.self.view_is) c.procs.ensures.sound in
    flags_told (HasPathAt program c.args.analysis) values c.args.points.0 c.args.points.1 c.args.flags.now c.put_flags.new.flags c.requires.room c.put_flags.ensures
    (λ point below. paths_tell program c.args.analysis c.routes.result.now values sound c.routes.ensures c.paths-paths.ensures point
    (omega (arith, below, c.requires.points.1)))
