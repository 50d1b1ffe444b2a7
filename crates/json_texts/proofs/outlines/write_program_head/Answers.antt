use Rattle.std.proofs.Common.{◌≡◌, List, ℕ, ◌++◌, codes, decimal, map, ap, ◌∙◌}
use Rattle.text_pieces.proofs.sinks.Taking.{takes_as, takes_then}
use Rattle.tac_program.specs.Programs.{Program}
use Rattle.flow_views.specs.Json.{array}
use Rattle.text_pieces.specs.Strings.{quoted}
use Rattle.json_texts.proofs.outlines.write_program_head.Goals as goal

-- the numbers that were found are those of the program
program_text : (procedures variables : List ℕ) {x y z k m n : ℕ} → x ≡ k → y ≡ m → z ≡ n
    → codes "{\"type\":\"program\",\"version\":1,\"points\":" ++ decimal x ++ codes ",\"procedures\":" ++ procedures ++ codes ",\"variables\":" ++ variables
    ++ codes ",\"definitions\":" ++ decimal y ++ codes ",\"expressions\":" ++ decimal z
    ≡ codes "{\"type\":\"program\",\"version\":1,\"points\":" ++ decimal k ++ codes ",\"procedures\":" ++ procedures ++ codes ",\"variables\":" ++ variables
    ++ codes ",\"definitions\":" ++ decimal m ++ codes ",\"expressions\":" ++ decimal n
program_text procedures variables {x} {y} {z} {k} {m} {n} e f g =
    ap (λ i. codes "{\"type\":\"program\",\"version\":1,\"points\":" ++ decimal i ++ codes ",\"procedures\":" ++ procedures ++ codes ",\"variables\":" ++ variables
    ++ codes ",\"definitions\":" ++ decimal y ++ codes ",\"expressions\":" ++ decimal z) e
    ∙ ap
    (λ i. codes "{\"type\":\"program\",\"version\":1,\"points\":" ++ decimal k ++ codes ",\"procedures\":" ++ procedures ++ codes ",\"variables\":" ++ variables
    ++ codes ",\"definitions\":" ++ decimal i ++ codes ",\"expressions\":" ++ decimal z) f
    ∙ ap
    (λ i. codes "{\"type\":\"program\",\"version\":1,\"points\":" ++ decimal k ++ codes ",\"procedures\":" ++ procedures ++ codes ",\"variables\":" ++ variables
    ++ codes ",\"definitions\":" ++ decimal m ++ codes ",\"expressions\":" ++ decimal i) g

pub returns : goal.returns
returns g c =
    let program : Program = c.args.graph.now in
    takes_as _ _ _ _
    (takes_then _ _ _ _ _ (takes_then _ _ _ _ _ (takes_then _ _ _ _ _ (takes_then _ _ _ _ _
    (takes_then _ _ _ _ _ (takes_then _ _ _ _ _ (takes_then _ _ _ _ _ (takes_then _ _ _ _ _ (takes_then _ _ _ _ _
    c.write.ensures c.write_number.ensures) c.write-2.ensures) c.write_procedures.ensures)
    c.write-3.ensures) c.write_variables.ensures) c.write-4.ensures) c.write_number-2.ensures)
    c.write-5.ensures) c.write_number-3.ensures)
    (program_text (array (map quoted program.procedure_names)) (array (map quoted program.variable_names))
    c.points.ensures.count c.bits.ensures.count c.bits-2.ensures.count)
