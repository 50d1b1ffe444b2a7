use Rattle.std.proofs.Common.{ℕ, ◌++◌, codes, decimal, ap₂}
use Rattle.tac_program.specs.Programs.{Program}
use Rattle.flow_texts.specs.Tables.{variable_text}
use Rattle.text_pieces.specs.Strings.{quoted}
use Rattle.text_pieces.proofs.sinks.Taking.{takes_as, takes_then}
use Rattle.flow_paths.proofs.json_paths.write_doubt.Goals as goal

pub returns : goal.returns
returns g c =
    let d = c.args.doubt in
    takes_as _ _ _ _
    (takes_then _ _ _ _ _ (takes_then _ _ _ _ _ (takes_then _ _ _ _ _ (takes_then _ _ _ _ _ (takes_then _ _ _ _ _ (takes_then _ _ _ _ _
    (takes_then _ _ _ _ _ (takes_then _ _ _ _ _ c.write.ensures c.write_number.ensures) c.write-2.ensures) c.write_number-2.ensures)
    c.write-3.ensures) c.write_variable.ensures) c.write-4.ensures) c.write_number-3.ensures) c.write-5.ensures)
    (ap₂ (λ (l : ℕ) (p : Program). codes "{\"type\":\"doubt\",\"point\":" ++ decimal d.point ++ codes ",\"line\":" ++ decimal l
    ++ codes ",\"variable\":" ++ quoted (variable_text p d.variable) ++ codes ",\"doubt\":" ++ decimal d.origin ++ codes "}\n")
    c.line.ensures c.program.ensures)
