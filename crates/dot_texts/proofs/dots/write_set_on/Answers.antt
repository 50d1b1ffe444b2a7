use Rattle.std.proofs.Common.{ℕ, Bool, ◌&&◌, filter, map, sym, ap, ◌∙◌, arith}
use Rattle.std.proofs.lemmas.Simd.{map-map}
use Rattle.std.specs.List.{range_with_len}
use Rattle.flow_graph.specs.Universes.{bits}
use Rattle.flow_graph.specs.declared.analysis.Analysis.{Analysis}
use Rattle.flow_texts.specs.Tables.{bit_text}
use Rattle.flow_texts.proofs.sets.ListTexts.{map-members}
use Rattle.text_pieces.specs.code.Blocks.{SeparatedTexts}
use Rattle.text_pieces.specs.code.Lists.{text_at}
use Rattle.text_pieces.specs.Strings.{escaped}
use Rattle.text_pieces.proofs.sinks.Taking.{takes_as}
use Rattle.tac_program.specs.Programs.{Program}
use Rattle.flow_team.specs.Tables.{Facts, TableFacts, facts_of}
use Rattle.point_sets.specs.Sets.{is_bit_shown, set_on, shown_bits}
use Rattle.point_sets.specs.code.Lines.{set_from}
use Rattle.point_sets.specs.declared.side.Side.{Side}
use Rattle.flow_views.proofs.facts.Tables.{escaped_names}
use Rattle.flow_views.specs.code.Names.{AreNamesOf}
use Rattle.flow_views.specs.code.ViewProgram.{known_of}
use Rattle.flow_views.specs.declared.names.NameForm.TheVariants.{Escaped}
use Rattle.flow_views.specs.Views.{known_facts}
use Rattle.flow_views.proofs.facts.Sides.{next_there, same_set}
use Rattle.dot_texts.proofs.dots.write_set_on.Goals as goal

pub write_point_set-requires-clause-set : goal.write_point_set-requires-clause-set
write_point_set-requires-clause-set g c = record {
  point = c.requires.point;
  there = omega (arith, c.requires.table.points, c.requires.shows.1);
  bits = c.requires.table.bits;
  edges = c.edges.ensures;
  next = next_there c.args.shown.now c.requires.shown c.args.table.now c.requires.table c.args.point c.requires.shows c.requires.point c.args.side
      c.requires.side c.edges.result.now c.edges.ensures;
}

pub write_point_set-requires-clause-texts : goal.write_point_set-requires-clause-texts
write_point_set-requires-clause-texts g c =
    let held = escaped_names _ c.args.shown.now.found.graph.now _ c.args.table.now.analysis c.names.result.now c.requires.form c.analysis.ensures c.names.ensures in
    omega (arith, held.texts.same_count, c.requires.table.bits)

pub returns : goal.returns
returns g c =
    let program : Program = c.args.shown.now.found.graph.now in
    let table : TableFacts = c.args.table.now in
    let analysis : Analysis = table.analysis in
    let side : Side = c.args.side in
    let point : ℕ = c.args.point in
    let hides : Bool = c.args.shown.now.view.look.hides_entry in
    let facts : Facts = known_facts (known_of c.args.shown.now) analysis in
    let names : SeparatedTexts = c.names.result.now in
    let held : AreNamesOf Escaped program analysis names =
    escaped_names _ program _ analysis names c.requires.form c.analysis.ensures c.names.ensures in
    let told : ℕ → Bool = λ bit. set_on side program analysis (facts_of table) point bit && is_bit_shown program analysis hides bit in
    takes_as _ _ _ _ c.write_point_set.ensures
    (ap (set_from c.args.column)
    (ap (λ n. map (text_at names.texts) (filter told (range_with_len 0 n))) c.requires.table.bits
    ∙ map-members (text_at names.texts) (λ bit. escaped (bit_text program analysis bit)) told 0 (bits program analysis)
    (λ n below. held.texts.each n (omega (arith, below)))
    ∙ ap (λ (set : ℕ → Bool). map (λ bit. escaped (bit_text program analysis bit)) (shown_bits program analysis hides set))
    (same_set c.args.shown.now c.requires.shown table c.requires.table point c.requires.shows c.requires.point side c.requires.side)
    ∙ sym (map-map escaped (bit_text program analysis) (shown_bits program analysis hides (set_on side program analysis facts point)))))
