use Rattle.std.proofs.Common.{◌≡◌, ℕ, ◌+◌, ◌<◌, List, ◌++◌, length, map, codes, refl, sym, ap, ap₂, subst, ◌∙◌, arith}
use Rattle.tac_program.specs.Programs.{Program}
use Rattle.flow_graph.specs.declared.analysis.Analysis.{Analysis}
use Rattle.flow_graph.specs.declared.analysis.Analysis.TheVariants.{Reach, Live, Avail, Busy}
use Rattle.flow_views.specs.Views.{analysis_name}
use Rattle.flow_views.specs.code.ViewProgram.{known_of}
use Rattle.point_sets.specs.SetLines.{columns, width}
use Rattle.point_sets.specs.code.Lines.{set_from}
use Rattle.point_sets.proofs.sets.SetTexts.{set_written}
use Rattle.text_pieces.specs.Strings.{escaped}
use Rattle.text_pieces.proofs.sinks.Taking.{takes_as, takes_then}
use Rattle.block_dots.specs.BlockDots.{set_names}
use Rattle.block_dots.specs.BlockSets.{set_word}
use Rattle.block_dots.specs.declared.block_set.BlockSet.{BlockSet}
use Rattle.block_dots.specs.declared.block_set.BlockSet.TheVariants.{Gen, In, Kill, Out}
use Rattle.block_dots.proofs.nodes.write_lines_of.Goals as goal

-- what a set's first line begins with has no sign that stands behind a backslash
plain_head : (analysis : Analysis) (set : BlockSet) → escaped (analysis_name analysis ++ set_word set) ≡ analysis_name analysis ++ set_word set
plain_head Reach Gen = refl
plain_head Reach Kill = refl
plain_head Reach In = refl
plain_head Reach Out = refl
plain_head Live Gen = refl
plain_head Live Kill = refl
plain_head Live In = refl
plain_head Live Out = refl
plain_head Avail Gen = refl
plain_head Avail Kill = refl
plain_head Avail In = refl
plain_head Avail Out = refl
plain_head Busy Gen = refl
plain_head Busy Kill = refl
plain_head Busy In = refl
plain_head Busy Out = refl

head_width : (analysis : Analysis) (set : BlockSet)
    → length (analysis_name analysis) + length (set_word set) ≡ width (analysis_name analysis ++ set_word set)
head_width Reach Gen = refl
head_width Reach Kill = refl
head_width Reach In = refl
head_width Reach Out = refl
head_width Live Gen = refl
head_width Live Kill = refl
head_width Live In = refl
head_width Live Out = refl
head_width Avail Gen = refl
head_width Avail Kill = refl
head_width Avail In = refl
head_width Avail Out = refl
head_width Busy Gen = refl
head_width Busy Kill = refl
head_width Busy In = refl
head_width Busy Out = refl

head_fits : (analysis : Analysis) (set : BlockSet) → length (analysis_name analysis) + length (set_word set) < columns
head_fits Reach Gen = omega arith
head_fits Reach Kill = omega arith
head_fits Reach In = omega arith
head_fits Reach Out = omega arith
head_fits Live Gen = omega arith
head_fits Live Kill = omega arith
head_fits Live In = omega arith
head_fits Live Out = omega arith
head_fits Avail Gen = omega arith
head_fits Avail Kill = omega arith
head_fits Avail In = omega arith
head_fits Avail Out = omega arith
head_fits Busy Gen = omega arith
head_fits Busy Kill = omega arith
head_fits Busy In = omega arith
head_fits Busy Out = omega arith

pub write_set-requires-clause-column : goal.write_set-requires-clause-column
write_set-requires-clause-column g c =
    let analysis : Analysis = c.args.table.now.analysis in
    let named = c.analysis_name-name.ensures ∙ ap analysis_name c.analysis.ensures in
    subst (λ n. n < columns) (sym (ap₂ (λ (n s : List ℕ). length n + length s) named c.set_word-word.ensures)) (head_fits analysis c.args.set)

pub returns : goal.returns
returns g c =
    let program : Program = c.args.shown.now.found.graph.now in
    let analysis : Analysis = c.args.table.now.analysis in
    let set : BlockSet = c.args.set in
    let names : List (List ℕ) = set_names program (known_of c.args.shown.now) c.args.shown.now.view c.args.block.leader analysis set in
    let named : c.analysis_name-name.result.now ≡ analysis_name analysis = c.analysis_name-name.ensures ∙ ap analysis_name c.analysis.ensures in
    takes_as _ _ _ _
    (takes_then _ _ _ _ _ (takes_then _ _ _ _ _ (takes_then _ _ _ _ _ c.write.ensures c.write-2.ensures) c.write_set.ensures) c.write-3.ensures)
    (ap₂ (λ (n s : List ℕ). ((n ++ s) ++ set_from (length n + length s) (map escaped names)) ++ codes "\\l") named c.set_word-word.ensures
    ∙ ap₂ (λ (h : List ℕ) (w : ℕ). (h ++ set_from w (map escaped names)) ++ codes "\\l") (sym (plain_head analysis set)) (head_width analysis set)
    ∙ set_written (analysis_name analysis ++ set_word set) names)
