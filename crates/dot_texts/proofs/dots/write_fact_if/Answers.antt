use Rattle.std.proofs.Common.{◌≡◌, ◌∙◌, ℕ, List, [], ◌∷◌, ◌++◌, flat_map, refl, ap, sym}
use Rattle.std.proofs.lemmas.Grind.{flat_map-append}
use Rattle.text_pieces.proofs.sinks.Taking.{takes_as, takes_then}
use Rattle.tac_program.specs.Programs.{Program}
use Rattle.flow_graph.specs.declared.analysis.Analysis.{Analysis}
use Rattle.flow_reports.specs.Reports.{Knowledge}
use Rattle.flow_views.specs.Dots.{fact_lines, label_line, told_on, sides}
use Rattle.flow_views.specs.Views.{is_chosen}
use Rattle.flow_views.specs.code.ViewProgram.{known_of}
use Rattle.flow_views.specs.declared.view.View.{View}
use Rattle.flow_views.proofs.facts.Tables.{one_chosen}
use Rattle.dot_texts.proofs.dots.write_fact_if.Goals as goal

-- lists of lines that are joined, one by one
joined_lines : {B : Type 0} (g : B → List (List ℕ)) (ys : List B)
    → flat_map (λ y. flat_map label_line (g y)) ys ≡ flat_map label_line (flat_map g ys)
joined_lines g [] = refl
joined_lines g (y ∷ ys) =
    ap (λ t. flat_map label_line (g y) ++ t) (joined_lines g ys) ∙ sym (flat_map-append label_line (g y) (flat_map g ys))

pub write_told_on-requires-clause-side : goal.write_told_on-requires-clause-side
write_told_on-requires-clause-side g c = λ is. absurd (cc is)

pub returns : goal.returns
returns g c =
    let program : Program = c.args.shown.now.found.graph.now in
    let known : Knowledge = known_of c.args.shown.now in
    let view : View = c.args.shown.now.view in
    let text : Analysis → List ℕ = λ a. flat_map label_line (fact_lines program known view c.args.point a) in
    let found : Analysis = c.in-Some.table.now.analysis in
    takes_as _ _ _ _ (takes_then _ _ _ _ _ c.write_told_on.ensures c.write_behind_if.ensures)
    (joined_lines (told_on program known view c.args.point found) (sides program view c.args.point)
    ∙ ap text c.in-Some.ensures.analysis
    ∙ one_chosen text (is_chosen view.facts c.args.analysis) c.args.analysis c.in-Some.ensures.some)
