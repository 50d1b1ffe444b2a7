use Rattle.std.proofs.Common.{◌∙◌, ℕ, List, ◌++◌, codes, map, ap, subst, arith}
use Rattle.std.specs.List.{range_with_len}
use Rattle.flow_graph.specs.Universes.{bits}
use Rattle.flow_graph.specs.declared.analysis.Analysis.{Analysis}
use Rattle.flow_texts.specs.Tables.{bit_text}
use Rattle.flow_views.specs.Json.{joined}
use Rattle.flow_views.specs.code.Names.{AreNamesOf}
use Rattle.flow_views.specs.declared.names.NameForm.{NameForm}
use Rattle.flow_views.specs.declared.names.NameForm.TheVariants.{Quoted}
use Rattle.json_texts.proofs.told.Numbers.{same_map}
use Rattle.tac_program.specs.Programs.{Program}
use Rattle.text_pieces.proofs.sinks.Taking.{takes_as, takes_then}
use Rattle.text_pieces.specs.Strings.{quoted}
use Rattle.text_pieces.specs.code.Blocks.{SeparatedTexts}
use Rattle.text_pieces.specs.code.Lists.{text_at}
use Rattle.json_texts.proofs.changes.write_names_field.Goals as goal

pub write_all-requires-clause-commas : goal.write_all-requires-clause-commas
write_all-requires-clause-commas g c =
    let held : AreNamesOf Quoted c.args.shown.now.found.graph.now c.args.analysis c.names.result.now =
    subst (λ (f : NameForm). AreNamesOf f c.args.shown.now.found.graph.now c.args.analysis c.names.result.now) c.requires.form c.names.ensures in
    held.separated

pub write_all-requires-clause-count : goal.write_all-requires-clause-count
write_all-requires-clause-count g c = omega (arith, c.bits.ensures.count, c.names.ensures.texts.same_count)

pub returns : goal.returns
returns g c =
    let program : Program = c.args.shown.now.found.graph.now in
    let analysis : Analysis = c.args.analysis in
    let names : SeparatedTexts = c.names.result.now in
    let held : AreNamesOf Quoted program analysis names = subst (λ (f : NameForm). AreNamesOf f program analysis names) c.requires.form c.names.ensures in
    takes_as _ _ _ _ (takes_then _ _ _ _ _ (takes_then _ _ _ _ _ c.write.ensures c.write_all.ensures) c.write-2.ensures)
    (ap (λ (n : ℕ). codes "[" ++ joined (codes ",") (map (text_at names.texts) (range_with_len 0 n)) ++ codes "]") c.bits.ensures.count
    ∙ ap (λ (ts : List (List ℕ)). codes "[" ++ joined (codes ",") ts ++ codes "]")
    (same_map (text_at names.texts) (λ bit. quoted (bit_text program analysis bit)) 0 (bits program analysis)
    (λ k below. held.texts.each k (omega (arith, below)))))
