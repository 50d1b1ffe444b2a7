use Rattle.std.proofs.Common.{◌∙◌, ℕ, Bool, List, ◌++◌, codes, if◌then◌else◌, ap, sym}
use Rattle.flow_graph.specs.declared.analysis.Analysis.{Analysis}
use Rattle.flow_team.specs.Tables.{Facts}
use Rattle.flow_views.specs.Views.{known_facts}
use Rattle.flow_views.specs.code.ViewProgram.{known_of}
use Rattle.json_texts.specs.Changes.{change_fields}
use Rattle.point_sets.specs.Sets.{behind}
use Rattle.tac_program.specs.Programs.{Program}
use Rattle.text_pieces.proofs.sinks.Taking.{takes_as, takes_then}
use Rattle.json_texts.proofs.changes.write_behind_changes.Goals as goal

-- where a set of its own stands behind a statement, or where none does
abbrev text : Program → Analysis → Facts → ℕ → Bool → List ℕ
text program analysis facts point stands =
    if stands then codes "{" ++ change_fields program analysis (facts.contains point) (behind program analysis facts point) ++ codes "}"
    else codes "null"

pub returns-then-not-has_behind : goal.returns-then-not-has_behind
returns-then-not-has_behind g c =
    let facts : Facts = known_facts (known_of c.args.shown.now) c.args.table.now.analysis in
    takes_as _ _ _ _ c.write.ensures
    (sym (ap (text c.args.shown.now.found.graph.now c.args.table.now.analysis facts c.args.point) (sym c.has_behind.ensures ∙ c.if-not-has_behind.true)))

pub returns : goal.returns
returns g c =
    let facts : Facts = known_facts (known_of c.args.shown.now) c.args.table.now.analysis in
    takes_as _ _ _ _ (takes_then _ _ _ _ _ (takes_then _ _ _ _ _ c.write-2.ensures c.write_statement_change.ensures) c.write-3.ensures)
    (sym (ap (text c.args.shown.now.found.graph.now c.args.table.now.analysis facts c.args.point) (sym c.has_behind.ensures ∙ c.if-not-has_behind.false)))
