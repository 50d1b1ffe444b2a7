use Rattle.text_pieces.proofs.sinks.Taking.{takes_as, takes_then}
use Rattle.json_parts.proofs.parts.JsonPartTextText.write.Goals as goal

pub returns : goal.returns
returns g c =
    takes_as _ _ _ _ (takes_then _ _ _ _ _ (takes_then _ _ _ _ _ (takes_then _ _ _ _ _ (takes_then _ _ _ _ _ (takes_then _ _ _ _ _
    c.write_heading.ensures c.write_program.ensures)
    c.write_points_if.ensures) c.write_remarks.ensures) c.write_count_if.ensures) c.write_last.ensures) c.self.view_is
