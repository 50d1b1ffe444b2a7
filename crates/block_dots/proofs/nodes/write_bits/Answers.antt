use Rattle.std.proofs.Common.{◌≡◌, ◌∙◌, ◌-◌, ℕ, Bool, true, false, List, ◌&&◌, filter, if◌then◌else◌, map, refl, sym, ap, arith}
use Rattle.std.proofs.lemmas.Simd.{map-map}
use Rattle.std.specs.List.{range_with_len}
use Rattle.flow_graph.specs.Universes.{bits}
use Rattle.flow_graph.specs.declared.analysis.Analysis.{Analysis}
use Rattle.flow_team.specs.Tables.{Facts}
use Rattle.flow_texts.specs.Tables.{bit_text}
use Rattle.flow_texts.proofs.sets.ListTexts.{map-members}
use Rattle.flow_views.proofs.facts.Tables.{escaped_names}
use Rattle.flow_views.specs.Views.{known_facts}
use Rattle.flow_views.specs.code.Names.{AreNamesOf}
use Rattle.flow_views.specs.code.ViewProgram.{known_of}
use Rattle.flow_views.specs.declared.names.NameForm.TheVariants.{Escaped}
use Rattle.point_sets.specs.Sets.{is_bit_shown, shown_bits}
use Rattle.point_sets.specs.code.Lines.{set_from}
use Rattle.tac_program.specs.Programs.{Program}
use Rattle.text_pieces.specs.Strings.{escaped}
use Rattle.text_pieces.specs.code.Blocks.{SeparatedTexts}
use Rattle.text_pieces.specs.code.Lists.{text_at}
use Rattle.text_pieces.proofs.sinks.Taking.{takes_as}
use Rattle.block_dots.specs.Blocks.{block_points}
use Rattle.block_dots.specs.BlockSets.{block_set, exposed, kills_some}
use Rattle.block_dots.specs.declared.block_set.BlockSet.{BlockSet}
use Rattle.block_dots.specs.declared.block_set.BlockSet.TheVariants.{Gen, Kill}
use Rattle.block_dots.proofs.nodes.write_bits.Goals as goal

-- gen or kill
chosen_set : (program : Program) (analysis : Analysis) (facts : Facts) (leader : ℕ) (kill : Bool)
    → (λ bit. if kill then kills_some program analysis (block_points program leader) bit else exposed program analysis
    (block_points program leader) bit)
    ≡ block_set (if kill then Kill else Gen) program analysis facts leader
chosen_set program analysis facts leader true = refl
chosen_set program analysis facts leader false = refl

pub write_block_bits-requires-clause-texts : goal.write_block_bits-requires-clause-texts
write_block_bits-requires-clause-texts g c =
    let held = escaped_names _ c.args.shown.now.found.graph.now _ c.analysis-analysis.result c.names.result.now c.requires.form refl
    c.names.ensures in
    omega (arith, held.texts.same_count)

pub returns : goal.returns
returns g c =
    let program : Program = c.args.shown.now.found.graph.now in
    let asked : Analysis = c.analysis-analysis.result in
    let leader : ℕ = c.args.block.leader in
    let hides : Bool = c.args.shown.now.view.look.hides_entry in
    let names : SeparatedTexts = c.names.result.now in
    let held : AreNamesOf Escaped program asked names = escaped_names _ program _ asked names c.requires.form refl c.names.ensures in
    let set : Analysis → BlockSet = λ analysis. if c.args.kill then Kill else Gen in
    let told : ℕ → ℕ → Bool = λ end bit.
    (if c.args.kill then kills_some program asked (range_with_len leader (end - leader)) bit
    else exposed program asked (range_with_len leader (end - leader)) bit) && is_bit_shown program asked hides bit in
    let facts : Facts = known_facts (known_of c.args.shown.now) asked in
    let shown : (ℕ → Bool) → List ℕ = shown_bits program asked hides in
    takes_as _ _ _ _ c.write_block_bits.ensures
    (ap (set_from c.args.column)
    (ap (λ end. map (text_at names.texts) (filter (told end) (range_with_len 0 (bits program asked)))) c.requires.block.ends
    ∙ map-members (text_at names.texts) (λ bit. escaped (bit_text program asked bit)) (told _) 0 (bits program asked)
    (λ n below. held.texts.each n (omega (arith, below)))
    ∙ ap (λ (s : ℕ → Bool). map (λ bit. escaped (bit_text program asked bit)) (shown s)) (chosen_set program asked facts leader c.args.kill)
    ∙ sym (map-map escaped (bit_text program asked) (shown (block_set (if c.args.kill then Kill else Gen) program asked facts leader)))
    ∙ ap (λ (a : Analysis). map escaped (map (bit_text program a) (shown_bits program a hides
    (block_set (if c.args.kill then Kill else Gen) program a (known_facts (known_of c.args.shown.now) a) leader)))) c.analysis-analysis.ensures))
