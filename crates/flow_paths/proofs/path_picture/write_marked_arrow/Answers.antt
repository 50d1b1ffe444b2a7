use Rattle.text_pieces.proofs.sinks.Taking.{takes_then}
use Rattle.flow_paths.proofs.path_picture.write_marked_arrow.Goals as goal

pub returns : goal.returns
returns g c =
    let ends =
    takes_then _ _ _ _ _ (takes_then _ _ _ _ _ (takes_then _ _ _ _ _ c.write.ensures c.write_number.ensures) c.write-2.ensures)
    c.write_number-2.ensures in
    takes_then _ _ _ _ _ (takes_then _ _ _ _ _ (takes_then _ _ _ _ _ ends c.write-3.ensures) c.write-4.ensures) c.write-5.ensures
