use Rattle.text_pieces.proofs.sinks.Taking.{takes_then}
use Rattle.call_dots.proofs.marks.write_node_names.Goals as goal

pub returns : goal.returns
returns g c =
    takes_then _ _ _ _ _ (takes_then _ _ _ _ _ (takes_then _ _ _ _ _ (takes_then _ _ _ _ _ (takes_then _ _ _ _ _ (takes_then _ _ _ _ _
    c.write.ensures c.write_number.ensures) c.write-2.ensures) c.write_number-2.ensures) c.write-3.ensures) c.write_class.ensures) c.write-4.ensures
