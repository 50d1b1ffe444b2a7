use Rattle.std.proofs.Common.{◌≡◌, codes, decimal, length, ap, subst, ◌∙◌, arith}
use Rattle.flow_graph.specs.declared.analysis.Analysis.{Analysis}
use Rattle.flow_team.specs.Tables.{Facts}
use Rattle.flow_texts.specs.Tables.{bit_text}
use Rattle.text_pieces.specs.code.Blocks.{HoldsTexts, SeparatedTexts}
use Rattle.flow_views.specs.code.ViewProgram.{known_of}
use Rattle.text_pieces.specs.code.Lists.{text_at}
use Rattle.flow_reports.specs.Reports.{Knowledge}
use Rattle.text_pieces.proofs.sinks.Taking.{takes_as, takes_then}
use Rattle.tac_program.specs.Programs.{Program}
use Rattle.text_pieces.specs.Strings.{quoted}
use Rattle.flow_views.specs.Views.{known_facts}
use Rattle.flow_views.specs.code.Names.{AreNamesOf, numbered}
use Rattle.flow_views.specs.declared.names.NameForm.TheVariants.{Quoted}
use Rattle.flow_views.proofs.facts.Tables.{facts_text, has_number, set_texts}
use Rattle.json_texts.proofs.json.write_facts_field.Goals as goal

pub write_array-requires-clause-bits : goal.write_array-requires-clause-bits
write_array-requires-clause-bits g c =
    let program : Program = c.args.shown.now.found.graph.now in
    let count : length c.args.shown.now.names.numbers.texts ≡ numbered Quoted program =
    c.requires.shown.names.numbers.texts.same_count ∙ ap (λ f. numbered f program) c.requires.form in
    omega (arith, count, c.bits-bits.ensures.count, has_number program c.args.analysis)

pub write_array-requires-2-clause-commas : goal.write_array-requires-2-clause-commas
write_array-requires-2-clause-commas g c =
    let held : AreNamesOf Quoted c.args.shown.now.found.graph.now c.args.analysis c.names.result.now =
    subst (λ f. AreNamesOf f c.args.shown.now.found.graph.now c.args.analysis c.names.result.now) c.requires.form c.names.ensures in
    held.separated

pub write_array-requires-2-clause-bits : goal.write_array-requires-2-clause-bits
write_array-requires-2-clause-bits g c = omega (arith, c.bits-bits.ensures.count, c.names.ensures.texts.same_count)

pub returns : goal.returns
returns g c =
    let program : Program = c.args.shown.now.found.graph.now in
    let known : Knowledge = known_of c.args.shown.now in
    let analysis : Analysis = c.args.analysis in
    let facts : Facts = known_facts known analysis in
    let names : SeparatedTexts = c.names.result.now in
    let numbers : SeparatedTexts = c.args.shown.now.names.numbers in
    let held : AreNamesOf Quoted program analysis names = subst (λ f. AreNamesOf f program analysis names) c.requires.form c.names.ensures in
    let numbered_all : HoldsTexts (codes ",") decimal (numbered Quoted program) numbers =
    subst (λ f. HoldsTexts (codes ",") decimal (numbered f program) numbers) c.requires.form c.requires.shown.names.numbers in
    takes_as _ _ _ _
    (takes_then _ _ _ _ _ (takes_then _ _ _ _ _ (takes_then _ _ _ _ _ (takes_then _ _ _ _ _ (takes_then _ _ _ _ _
    (takes_then _ _ _ _ _ (takes_then _ _ _ _ _ (takes_then _ _ _ _ _ c.write.ensures c.write-2.ensures)
    c.write-3.ensures) c.write_boolean.ensures) c.write-4.ensures) c.write_array.ensures)
    c.write-5.ensures) c.write_array-2.ensures) c.write-6.ensures)
    (facts_text c.analysis_name.ensures (c.has_path.ensures ∙ c.requires.facts.path)
    (set_texts program analysis c.args.table.now facts c.bits-bits.result c.args.point (text_at numbers.texts) decimal
    c.bits-bits.ensures.count c.requires.facts.set (λ n below. numbered_all.texts.each n (omega (arith, below, has_number program analysis))))
    (set_texts program analysis c.args.table.now facts c.bits-bits.result c.args.point (text_at names.texts)
    (λ bit. quoted (bit_text program analysis bit))
    c.bits-bits.ensures.count c.requires.facts.set held.texts.each))
