use Rattle.std.proofs.Common.{flat_map, take}
use Rattle.text_pieces.specs.Pieces.{Writes}
use Rattle.flow_paths.specs.Doubts.{doubt_line}
use Rattle.flow_paths.proofs.json_paths.write_doubts.Given as goal

abbrev pub invariant-loop-doubt : goal.invariant-loop-doubt
invariant-loop-doubt g l = Writes g.K.Sink l.fn.out l.out (flat_map (doubt_line l.fn.graph) (take l.doubt-index l.doubts))
