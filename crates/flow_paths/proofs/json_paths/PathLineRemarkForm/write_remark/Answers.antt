use Rattle.std.proofs.Common.{◌++◌, codes, ap}
use Rattle.tac_program.specs.Programs.{Program}
use Rattle.text_pieces.proofs.sinks.Taking.{takes_as, takes_then}
use Rattle.flow_views.specs.Json.{remark_head}
use Rattle.flow_paths.specs.Paths.{path_field}
use Rattle.flow_paths.specs.Sets.{set_fields}
use Rattle.flow_paths.specs.code.Arounds.{around_at, sets_of}
use Rattle.flow_paths.specs.code.UnsetPaths.{hops_at}
use Rattle.flow_paths.proofs.json_paths.PathLineRemarkForm.write_remark.Goals as goal

pub returns : goal.returns
returns g c =
    takes_as _ _ _ _
    (takes_then _ _ _ _ _ (takes_then _ _ _ _ _ (takes_then _ _ _ _ _ c.write_remark_head.ensures c.write_path_if.ensures) c.write_sets.ensures)
    c.write.ensures)
    (ap (λ (p : Program). remark_head c.args.found.now.graph.now c.args.point c.args.remark
    ++ path_field (hops_at c.args.self.now.paths.now) c.args.point c.args.remark
    ++ set_fields (sets_of (around_at c.args.self.now.arounds.now)) p c.args.point c.args.remark ++ codes "}\n") c.program.ensures)
