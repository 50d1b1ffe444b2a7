use Rattle.std.proofs.Common.{◌≡◌, ℕ, ◌+◌, ◌<◌, List, ◌++◌, length, map, codes, refl, sym, ap, ap₂, subst, ◌∙◌, arith}
use Rattle.tac_program.specs.Programs.{Program}
use Rattle.flow_graph.specs.declared.analysis.Analysis.{Analysis}
use Rattle.flow_graph.specs.declared.analysis.Analysis.TheVariants.{Reach, Live, Avail, Busy}
use Rattle.flow_views.specs.Dots.{set_names}
use Rattle.flow_views.specs.Views.{analysis_name}
use Rattle.flow_views.specs.code.ViewProgram.{known_of}
use Rattle.point_sets.specs.SetLines.{columns, width}
use Rattle.point_sets.specs.Sets.{side_text}
use Rattle.point_sets.specs.code.Lines.{set_from}
use Rattle.point_sets.specs.declared.side.Side.{Side}
use Rattle.point_sets.specs.declared.side.Side.TheVariants.{Before, Behind}
use Rattle.point_sets.proofs.sets.SetTexts.{set_written}
use Rattle.text_pieces.specs.Strings.{escaped}
use Rattle.text_pieces.proofs.sinks.Taking.{takes_as, takes_then}
use Rattle.dot_texts.proofs.dots.write_lines_on.Goals as goal

-- what a set's first line begins with has no sign that stands behind a backslash
plain_head : (analysis : Analysis) (side : Side) → escaped (analysis_name analysis ++ side_text side) ≡ analysis_name analysis ++ side_text side
plain_head Reach Before = refl
plain_head Reach Behind = refl
plain_head Live Before = refl
plain_head Live Behind = refl
plain_head Avail Before = refl
plain_head Avail Behind = refl
plain_head Busy Before = refl
plain_head Busy Behind = refl

head_width : (analysis : Analysis) (side : Side)
    → length (analysis_name analysis) + length (side_text side) ≡ width (analysis_name analysis ++ side_text side)
head_width Reach Before = refl
head_width Reach Behind = refl
head_width Live Before = refl
head_width Live Behind = refl
head_width Avail Before = refl
head_width Avail Behind = refl
head_width Busy Before = refl
head_width Busy Behind = refl

head_fits : (analysis : Analysis) (side : Side) → length (analysis_name analysis) + length (side_text side) < columns
head_fits Reach Before = omega arith
head_fits Reach Behind = omega arith
head_fits Live Before = omega arith
head_fits Live Behind = omega arith
head_fits Avail Before = omega arith
head_fits Avail Behind = omega arith
head_fits Busy Before = omega arith
head_fits Busy Behind = omega arith

pub write_set_on-requires-clause-column : goal.write_set_on-requires-clause-column
write_set_on-requires-clause-column g c =
    let analysis : Analysis = c.args.table.now.analysis in
    let named = c.analysis_name-name.ensures ∙ ap analysis_name c.analysis.ensures in
    subst (λ n. n < columns) (sym (ap₂ (λ (n s : List ℕ). length n + length s) named c.side_text-behind_name.ensures)) (head_fits analysis c.args.side)

pub returns : goal.returns
returns g c =
    let program : Program = c.args.shown.now.found.graph.now in
    let analysis : Analysis = c.args.table.now.analysis in
    let side : Side = c.args.side in
    let names : List (List ℕ) = set_names program (known_of c.args.shown.now) c.args.shown.now.view c.args.point analysis side in
    let named : c.analysis_name-name.result.now ≡ analysis_name analysis = c.analysis_name-name.ensures ∙ ap analysis_name c.analysis.ensures in
    takes_as _ _ _ _
    (takes_then _ _ _ _ _ (takes_then _ _ _ _ _ (takes_then _ _ _ _ _ c.write.ensures c.write-2.ensures) c.write_set_on.ensures) c.write-3.ensures)
    (ap₂ (λ (n s : List ℕ). ((n ++ s) ++ set_from (length n + length s) (map escaped names)) ++ codes "\\l") named c.side_text-behind_name.ensures
    ∙ ap₂ (λ (h : List ℕ) (w : ℕ). (h ++ set_from w (map escaped names)) ++ codes "\\l") (sym (plain_head analysis side)) (head_width analysis side)
    ∙ set_written (analysis_name analysis ++ side_text side) names)
