use Rattle.flow_team.specs.Tables.{facts_of}
use Rattle.std.proofs.Common.{◌≡◌, ℕ, List, ◌++◌, map, filter, ap, ◌∙◌, arith, if◌then◌else◌}
use Rattle.std.specs.Prelude.{codes}
use Rattle.std.specs.List.{range_with_len}
use Rattle.flow_graph.specs.Universes.{bits as bits_of}
use Rattle.text_pieces.specs.code.Lists.{text_at}
use Rattle.flow_texts.specs.Tables.{bit_text, bits_at, listed, place_text}
use Rattle.flow_texts.proofs.sets.ListTexts.{map-members}
use Rattle.text_pieces.proofs.sinks.Taking.{takes_as, takes_then}
use Rattle.flow_texts.proofs.table_texts.write_point.Goals as goal

pub returns : goal.returns
returns g c =
    let table = c.args.table.now in
    let program = c.args.graph.now in
    let texts = c.args.texts.now.texts in
    let count : ℕ = bits_of program table.analysis in
    let same : map (text_at texts) (filter ((facts_of table).contains c.args.point) (range_with_len 0 c.bits.result))
    ≡ map (bit_text program table.analysis) (bits_at program table.analysis (facts_of table) c.args.point) =
    ap (λ n. map (text_at texts) (filter ((facts_of table).contains c.args.point) (range_with_len 0 n)))
    (c.bits.ensures.count ∙ ap (bits_of program) c.analysis.ensures)
    ∙ map-members (text_at texts) (bit_text program table.analysis) ((facts_of table).contains c.args.point) 0 count
    (λ n below. c.requires.texts.texts.each n (omega (arith, below))) in
    let place : List ℕ = place_text program c.args.point in
    let mark : List ℕ = if (facts_of table).has_path c.args.point then codes ": " else codes " (no path): " in
    let marked : c.path_mark.result.now ≡ mark = c.path_mark.ensures ∙ ap (λ b. if b then codes ": " else codes " (no path): ") c.has_path.ensures in
    let found : List (List ℕ) = map (text_at texts) (filter ((facts_of table).contains c.args.point) (range_with_len 0 c.bits.result)) in
    takes_as _ _ _ _
    (takes_then _ _ _ _ _ (takes_then _ _ _ _ _ (takes_then _ _ _ _ _ c.write_place.ensures c.write.ensures) c.write_set.ensures)
    c.write-2.ensures)
    (ap (λ m. place ++ m ++ listed found ++ codes "\n") marked ∙ ap (λ xs. place ++ mark ++ listed xs ++ codes "\n") same)
