use Rattle.std.proofs.Common.{flat_map, take}
use Rattle.text_pieces.specs.Pieces.{Writes}
use Rattle.flow_paths.specs.Pictures.{hop_marks}
use Rattle.flow_paths.specs.code.Doubted.{is_shown}
use Rattle.flow_paths.proofs.path_picture.write_path_marks.Given as goal

abbrev pub invariant-loop-hop : goal.invariant-loop-hop
invariant-loop-hop g l = Writes g.K.Sink l.fn.out l.out (flat_map (hop_marks (is_shown l.fn.shown)) (take l.hop-index l.hops))
