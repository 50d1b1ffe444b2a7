use Rattle.std.proofs.Common.{ℕ, Bool, ◌&&◌, filter, map, sym, ap, ap₂, ◌∙◌, arith}
use Rattle.std.proofs.lemmas.Simd.{map-map}
use Rattle.std.specs.List.{range_with_len}
use Rattle.flow_graph.specs.Universes.{bits}
use Rattle.flow_graph.specs.declared.analysis.Analysis.{Analysis}
use Rattle.flow_texts.specs.Tables.{bit_text}
use Rattle.flow_texts.proofs.sets.ListTexts.{map-members}
use Rattle.flow_views.proofs.facts.Tables.{escaped_names}
use Rattle.flow_views.specs.code.Names.{AreNamesOf}
use Rattle.flow_views.specs.declared.names.NameForm.TheVariants.{Escaped}
use Rattle.point_sets.specs.Changes.{changed_from}
use Rattle.point_sets.specs.Sets.{is_bit_shown, shown_bits}
use Rattle.point_sets.specs.code.Changes.{changed, old_set, told_by}
use Rattle.point_sets.specs.code.Lines.{blank_line, names_on}
use Rattle.point_sets.specs.declared.change.Change.{Change}
use Rattle.tac_program.specs.Programs.{Program}
use Rattle.text_pieces.specs.code.Blocks.{SeparatedTexts}
use Rattle.text_pieces.specs.code.Lists.{text_at}
use Rattle.text_pieces.specs.Strings.{escaped}
use Rattle.text_pieces.proofs.sinks.Taking.{takes_as}
use Rattle.dot_texts.proofs.changes.write_changed_names.Goals as goal

pub write_names-requires-clause-bits : goal.write_names-requires-clause-bits
write_names-requires-clause-bits g c =
    let analysis : Analysis = c.args.change.now.new.table.now.analysis in
    let count = c.bits-bits.ensures.count ∙ ap (bits c.args.shown.now.found.graph.now) c.analysis-analysis.ensures in
    let all = c.requires.change.new.bits ∙ ap (λ (p : Program). bits p analysis) c.requires.graph in
    omega (arith, count, all)

pub write_names-requires-clause-texts : goal.write_names-requires-clause-texts
write_names-requires-clause-texts g c =
    let analysis : Analysis = c.args.change.now.new.table.now.analysis in
    let program : Program = c.args.shown.now.found.graph.now in
    let held = escaped_names _ program _ analysis c.names.result.now c.requires.form c.analysis-analysis.ensures c.names.ensures in
    let all = c.requires.change.new.bits ∙ ap (λ (p : Program). bits p analysis) c.requires.graph in
    omega (arith, held.texts.same_count, all)

pub returns : goal.returns
returns g c =
    let program : Program = c.args.shown.now.found.graph.now in
    let change : Change = c.args.change.now in
    let came : Bool = c.args.came in
    let analysis : Analysis = change.new.table.now.analysis in
    let hides : Bool = c.args.shown.now.view.look.hides_entry in
    let names : SeparatedTexts = c.names.result.now in
    let held : AreNamesOf Escaped program analysis names =
    escaped_names _ program _ analysis names c.requires.form c.analysis-analysis.ensures c.names.ensures in
    let told : Program → Bool → ℕ → Bool = λ p h bit. changed change came bit && is_bit_shown p analysis h bit in
    let set : ℕ → Bool = changed_from came (old_set change) (told_by change.new) in
    takes_as _ _ _ _ c.write_names.ensures
    (ap (names_on (blank_line c.args.column))
    (ap₂ (λ (p : Program) (h : Bool). map (text_at names.texts) (filter (told p h) (range_with_len 0 c.bits-bits.result))) c.requires.graph
    c.requires.hides
    ∙ ap (λ n. map (text_at names.texts) (filter (told program hides) (range_with_len 0 n)))
    (c.bits-bits.ensures.count ∙ ap (bits program) c.analysis-analysis.ensures)
    ∙ map-members (text_at names.texts) (λ bit. escaped (bit_text program analysis bit)) (told program hides) 0 (bits program analysis)
    (λ n below. held.texts.each n (omega (arith, below)))
    ∙ sym (map-map escaped (bit_text program analysis) (shown_bits program analysis hides set))))
