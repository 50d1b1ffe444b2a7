use Rattle.std.proofs.Common.{ap, sym}
use Rattle.text_pieces.proofs.sinks.Taking.{takes_as}
use Rattle.flow_paths.specs.Paths.{path_field}
use Rattle.flow_paths.specs.code.UnsetPaths.{hops_at}
use Rattle.flow_paths.proofs.json_paths.PathLine.write_path_if.Goals as goal

pub returns-in-Unset : goal.returns-in-Unset
returns-in-Unset g c =
    takes_as _ _ _ _ c.write_path.ensures (sym (ap (path_field (hops_at c.args.self.now.paths.now) c.args.point) c.in-Unset.is))
