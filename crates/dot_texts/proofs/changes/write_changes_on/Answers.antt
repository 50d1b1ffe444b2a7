use Rattle.std.proofs.Common.{ℕ, Bool, true, false, List, flat_map, sym, ap, ap₂, ◌∙◌}
use Rattle.std.proofs.lemmas.Grind.{flat_map-append}
use Rattle.flow_graph.specs.declared.analysis.Analysis.{Analysis}
use Rattle.flow_team.specs.Tables.{Facts, TableFacts}
use Rattle.flow_views.specs.Dots.{both_changed, changed_lines, label_line}
use Rattle.flow_views.specs.Views.{known_facts}
use Rattle.flow_views.specs.code.ViewProgram.{known_of}
use Rattle.flow_views.specs.declared.view.View.{View}
use Rattle.point_sets.specs.code.Changes.{old_set, told_by}
use Rattle.point_sets.specs.declared.change.Change.{Change}
use Rattle.tac_program.specs.Programs.{Program}
use Rattle.text_pieces.proofs.sinks.Taking.{takes_as, takes_then}
use Rattle.dot_texts.proofs.changes.write_changes_on.Goals as goal

pub returns : goal.returns
returns g c =
    let program : Program = c.args.shown.now.found.graph.now in
    let view : View = c.args.shown.now.view in
    let change : Change = c.change-change.result in
    let here : Analysis = change.new.table.now.analysis in
    let analysis : Analysis = c.args.table.now.analysis in
    let facts : Facts = known_facts (known_of c.args.shown.now) analysis in
    let lines : Bool → List (List ℕ) = λ came. changed_lines program view here c.args.side came (old_set change) (told_by change.new) in
    takes_as _ _ _ _ (takes_then _ _ _ _ _ c.write_changed_lines.ensures c.write_changed_lines-2.ensures)
    (sym (flat_map-append label_line (lines true) (lines false))
    ∙ ap (λ (a : Analysis). flat_map label_line (both_changed program view a c.args.side (old_set change) (told_by change.new)))
    (ap (λ (t : TableFacts). t.analysis) c.change-change.ensures.table)
    ∙ ap₂ (λ (old new : ℕ → Bool). flat_map label_line (both_changed program view analysis c.args.side old new)) c.change-change.ensures.old
    c.change-change.ensures.new)
