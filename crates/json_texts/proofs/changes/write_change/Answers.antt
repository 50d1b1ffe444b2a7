use Rattle.std.proofs.Common.{◌≡◌, ◌∙◌, ℕ, Bool, true, false, List, ◌++◌, filter, map, codes, ap, ap₂, sym, arith}
use Rattle.std.specs.List.{range_with_len}
use Rattle.flow_graph.specs.Universes.{bits}
use Rattle.flow_graph.specs.declared.analysis.Analysis.{Analysis}
use Rattle.flow_views.specs.Json.{array}
use Rattle.json_texts.specs.Changes.{numbers_in}
use Rattle.point_sets.specs.code.Changes.{changed}
use Rattle.json_texts.proofs.told.Numbers.{enough_numbers, numbers_told}
use Rattle.tac_program.specs.Programs.{Program}
use Rattle.text_pieces.proofs.sinks.Taking.{takes_as, takes_then}
use Rattle.text_pieces.specs.code.Lists.{text_at}
use Rattle.json_texts.proofs.changes.write_change.Goals as goal

pub write_changed-requires-clause-bits : goal.write_changed-requires-clause-bits
write_changed-requires-clause-bits g c =
    let analysis : Analysis = c.args.change.now.new.table.now.analysis in
    c.bits-bits.ensures.count ∙ ap (bits c.args.shown.now.found.graph.now) c.analysis.ensures
    ∙ sym (c.requires.change.new.bits ∙ ap (λ (p : Program). bits p analysis) c.requires.graph)

pub write_changed-requires-clause-texts : goal.write_changed-requires-clause-texts
write_changed-requires-clause-texts g c =
    let program : Program = c.args.shown.now.found.graph.now in
    let enough = enough_numbers program c.analysis.result c.args.shown.now.names.form c.args.shown.now.names.numbers c.requires.form
    c.requires.shown.names.numbers in
    omega (arith, c.bits-bits.ensures.count, enough)

pub write_changed-requires-2-clause-bits : goal.write_changed-requires-2-clause-bits
write_changed-requires-2-clause-bits g c =
    let analysis : Analysis = c.args.change.now.new.table.now.analysis in
    c.bits-bits.ensures.count ∙ ap (bits c.args.shown.now.found.graph.now) c.analysis.ensures
    ∙ sym (c.requires.change.new.bits ∙ ap (λ (p : Program). bits p analysis) c.requires.graph)

pub write_changed-requires-2-clause-texts : goal.write_changed-requires-2-clause-texts
write_changed-requires-2-clause-texts g c =
    let program : Program = c.args.shown.now.found.graph.now in
    let enough = enough_numbers program c.analysis.result c.args.shown.now.names.form c.args.shown.now.names.numbers c.requires.form
    c.requires.shown.names.numbers in
    omega (arith, c.bits-bits.ensures.count, enough)

pub returns : goal.returns
returns g c =
    let program : Program = c.args.shown.now.found.graph.now in
    let analysis : Analysis = c.args.change.now.new.table.now.analysis in
    let count : c.bits-bits.result ≡ bits program analysis = c.bits-bits.ensures.count ∙ ap (bits program) c.analysis.ensures in
    let told : (came : Bool)
    → array (map (text_at c.args.shown.now.names.numbers.texts) (filter (changed c.args.change.now came) (range_with_len 0 c.bits-bits.result)))
    ≡ numbers_in program analysis (changed c.args.change.now came) =
    λ came. numbers_told program analysis c.args.shown.now.names.form c.args.shown.now.names.numbers (changed c.args.change.now came) c.bits-bits.result
    c.requires.form c.requires.shown.names.numbers count in
    takes_as _ _ _ _
    (takes_then _ _ _ _ _ (takes_then _ _ _ _ _ (takes_then _ _ _ _ _ c.write.ensures c.write_changed.ensures) c.write-2.ensures)
    c.write_changed-2.ensures)
    (ap₂ (λ (a b : List ℕ). codes "\"came\":" ++ a ++ codes ",\"went\":" ++ b) (told true) (told false))
