use Rattle.std.proofs.Common.{◌∙◌, ◌-◌, Bool, if◌then◌else◌, nat_eq, ap}
use Rattle.flow_graph.specs.declared.analysis.Analysis.{Analysis}
use Rattle.flow_graph.specs.declared.place.Place.{Place}
use Rattle.flow_team.specs.Tables.{Facts}
use Rattle.flow_views.proofs.facts.Ahead.{ahead_below, ahead_shown, set_from}
use Rattle.flow_views.specs.Views.{known_facts}
use Rattle.flow_views.specs.code.ViewProgram.{known_of}
use Rattle.point_sets.specs.code.Changes.{told_by}
use Rattle.tac_program.specs.Programs.{Program}
use Rattle.flow_views.proofs.view_program.ViewProgram.change_ahead.Goals as goal

pub point_set-requires-clause-point : goal.point_set-requires-clause-point
point_set-requires-clause-point c =
    let program : Program = c.args.self.now.found.graph.now in
    let first = ap (λ (p : Place). nat_eq p.place 0) c.place-is_first.ensures in
    ahead_below program c.args.point c.requires.point c.point_ahead-ahead.result
    (c.point_ahead-ahead.ensures ∙ ap (λ (b : Bool). if b then c.args.point else c.args.point - 1) first)

pub point_set-requires-clause-shows : goal.point_set-requires-clause-shows
point_set-requires-clause-shows c =
    let program : Program = c.args.self.now.found.graph.now in
    let first = ap (λ (p : Place). nat_eq p.place 0) c.place-is_first.ensures in
    ahead_shown program c.args.self.now.view.procedure c.requires.shown.procedure c.args.point c.requires.point c.requires.shows
    c.point_ahead-ahead.result
    (c.point_ahead-ahead.ensures ∙ ap (λ (b : Bool). if b then c.args.point else c.args.point - 1) first)

pub returns-clause-old : goal.returns-clause-old
returns-clause-old c =
    let program : Program = c.args.self.now.found.graph.now in
    let analysis : Analysis = c.args.table.now.analysis in
    let facts : Facts = known_facts (known_of c.args.self.now) analysis in
    let first = ap (λ (p : Place). nat_eq p.place 0) c.place-is_first.ensures in
    set_from program facts c.args.point c.point_ahead-ahead.result (told_by c.point_set.result) (nat_eq c.place-is_first.result.place 0) first
    c.point_set.ensures.tells c.point_ahead-ahead.ensures
