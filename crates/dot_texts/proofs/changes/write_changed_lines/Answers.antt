use Rattle.std.proofs.Common.{◌≡◌, ℕ, ◌+◌, ◌≤◌, Bool, true, false, List, [], ◌∷◌, ◌++◌, length, map, flat_map, codes, refl, sym, ap, ap₂, ◌∙◌, arith}
use Rattle.std.proofs.lemmas.List.{length-append}
use Rattle.flow_graph.specs.declared.analysis.Analysis.{Analysis}
use Rattle.flow_graph.specs.declared.analysis.Analysis.TheVariants.{Reach, Live, Avail, Busy}
use Rattle.flow_views.specs.Dots.{changed_names, label_line}
use Rattle.flow_views.specs.Views.{analysis_name}
use Rattle.point_sets.specs.Changes.{came_text}
use Rattle.point_sets.specs.SetLines.{lines_if_any, width}
use Rattle.point_sets.specs.Sets.{side_text}
use Rattle.point_sets.specs.code.Changes.{old_set, told_by}
use Rattle.point_sets.specs.code.Lines.{blank_line, names_on}
use Rattle.point_sets.specs.declared.change.Change.{Change}
use Rattle.point_sets.specs.declared.side.Side.{Side}
use Rattle.point_sets.specs.declared.side.Side.TheVariants.{Before, Behind}
use Rattle.point_sets.proofs.sets.SetTexts.{names_written}
use Rattle.text_pieces.specs.Strings.{escaped}
use Rattle.text_pieces.specs.code.Lists.{some_stand}
use Rattle.text_pieces.proofs.sinks.Escapes.{escaped-append}
use Rattle.text_pieces.proofs.sinks.Taking.{takes_as, takes_nothing, takes_then}
use Rattle.dot_texts.proofs.changes.write_changed_lines.Goals as goal

-- what the first line begins with has no sign that stands behind a backslash
plain_name : (analysis : Analysis) → escaped (analysis_name analysis) ≡ analysis_name analysis
plain_name Reach = refl
plain_name Live = refl
plain_name Avail = refl
plain_name Busy = refl

plain_came : (came : Bool) → escaped (came_text came) ≡ came_text came
plain_came true = refl
plain_came false = refl

plain_side : (side : Side) → escaped (side_text side) ≡ side_text side
plain_side Before = refl
plain_side Behind = refl

plain_head : (analysis : Analysis) (came : Bool) (side : Side)
    → escaped (analysis_name analysis ++ came_text came ++ side_text side) ≡ analysis_name analysis ++ came_text came ++ side_text side
plain_head analysis came side =
    escaped-append (analysis_name analysis ++ came_text came) (side_text side)
    ∙ ap₂ (λ (h s : List ℕ). h ++ s)
    (escaped-append (analysis_name analysis) (came_text came) ∙ ap₂ (λ (n w : List ℕ). n ++ w) (plain_name analysis) (plain_came came))
    (plain_side side)

head_width : (analysis : Analysis) (came : Bool) (side : Side)
    → length (analysis_name analysis) + length (came_text came) + length (side_text side)
    ≡ width (analysis_name analysis ++ came_text came ++ side_text side)
head_width analysis came side =
    sym (ap length (plain_head analysis came side)
    ∙ length-append (analysis_name analysis ++ came_text came) (side_text side)
    ∙ ap (λ n. n + length (side_text side)) (length-append (analysis_name analysis) (came_text came)))

short_name : (analysis : Analysis) → length (analysis_name analysis) ≤ 5
short_name Reach = omega arith
short_name Live = omega arith
short_name Avail = omega arith
short_name Busy = omega arith

short_came : (came : Bool) → length (came_text came) ≤ 5
short_came true = omega arith
short_came false = omega arith

short_side : (side : Side) → length (side_text side) ≤ 9
short_side Before = omega arith
short_side Behind = omega arith

-- lines of names, and none where there are none
no_lines : (head : List ℕ) (names : List (List ℕ)) → some_stand names ≡ false → [] ≡ flat_map label_line (lines_if_any head names)
no_lines head [] is = refl
no_lines head (name ∷ names) is = absurd (cc is)

some_lines : (head : List ℕ) (names : List (List ℕ)) → some_stand names ≡ true
    → (escaped head ++ names_on (blank_line (width head)) (map escaped names)) ++ codes "\\l" ≡ flat_map label_line (lines_if_any head names)
some_lines head [] is = absurd (cc is)
some_lines head (name ∷ names) is = names_written head name names

pub returns-then-not-has_changed : goal.returns-then-not-has_changed
returns-then-not-has_changed g c =
    let change : Change = c.args.change.now in
    let analysis : Analysis = change.new.table.now.analysis in
    let names : List (List ℕ) =
    changed_names c.args.shown.now.found.graph.now c.args.shown.now.view analysis c.args.came (old_set change) (told_by change.new) in
    takes_as _ _ _ _ (takes_nothing _)
    (no_lines (analysis_name analysis ++ came_text c.args.came ++ side_text c.args.side) names
    (sym c.has_changed.ensures ∙ c.if-not-has_changed.true))

pub write_changed_names-requires-clause-column : goal.write_changed_names-requires-clause-column
write_changed_names-requires-clause-column g c =
    let analysis : Analysis = c.args.change.now.new.table.now.analysis in
    let named : c.analysis_name-name.result.now ≡ analysis_name analysis = c.analysis_name-name.ensures ∙ ap analysis_name c.analysis.ensures in
    omega (
      arith,
      ap length named,
      ap length c.came_text-came_name.ensures,
      ap length c.side_text-side_name.ensures,
      short_name analysis,
      short_came c.args.came,
      short_side c.args.side,
    )

pub returns : goal.returns
returns g c =
    let change : Change = c.args.change.now in
    let analysis : Analysis = change.new.table.now.analysis in
    let came : Bool = c.args.came in
    let side : Side = c.args.side in
    let names : List (List ℕ) =
    changed_names c.args.shown.now.found.graph.now c.args.shown.now.view analysis came (old_set change) (told_by change.new) in
    let named : c.analysis_name-name.result.now ≡ analysis_name analysis = c.analysis_name-name.ensures ∙ ap analysis_name c.analysis.ensures in
    let line : List ℕ → List ℕ → List ℕ → List ℕ = λ n w s.
    (((n ++ w) ++ s) ++ names_on (blank_line (length n + length w + length s)) (map escaped names)) ++ codes "\\l" in
    takes_as _ _ _ _
    (takes_then _ _ _ _ _ (takes_then _ _ _ _ _ (takes_then _ _ _ _ _ (takes_then _ _ _ _ _ c.write.ensures c.write-2.ensures) c.write-3.ensures)
    c.write_changed_names.ensures) c.write-4.ensures)
    (ap (λ n. line n c.came_text-came_name.result.now c.side_text-side_name.result.now) named
    ∙ ap₂ (λ (w s : List ℕ). line (analysis_name analysis) w s) c.came_text-came_name.ensures c.side_text-side_name.ensures
    ∙ ap₂ (λ (h : List ℕ) (n : ℕ). (h ++ names_on (blank_line n) (map escaped names)) ++ codes "\\l") (sym (plain_head analysis came side))
    (head_width analysis came side)
    ∙ some_lines (analysis_name analysis ++ came_text came ++ side_text side) names (sym c.has_changed.ensures ∙ c.if-not-has_changed.false))
