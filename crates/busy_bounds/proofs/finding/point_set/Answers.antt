use Rattle.std.proofs.Common.{◌∙◌, ℕ, List, true, slice_index_or, sym, ap, subst}
use Rattle.flow_graph.specs.Points.{point_count}
use Rattle.flow_links.specs.Shapes.{IsNumbered, LinkedProgram, directed_shape}
use Rattle.flow_regions.specs.code.Ways.{AreWays, point_in}
use Rattle.flow_regions.specs.declared.way.Hop.TheVariants.{Begins, Passes, Steps}
use Rattle.flow_regions.specs.declared.way.Way.{Way}
use Rattle.gen_kill.specs.Selections.{Selection}
use Rattle.busy_bounds.specs.code.Kept.{IsPointSet, IsStepped, busy_shape, reversed_program}
use Rattle.busy_bounds.specs.code.Sets.{Joins}
use Rattle.busy_bounds.specs.declared.bound.Bound.{Bound}
use Rattle.busy_bounds.specs.declared.bound.Bound.TheVariants.{Unknown}
use Rattle.busy_bounds.proofs.sets_left.Leaving.{at_entry, before_there, by_one_call, by_one_step, exit_there, hop_here, on_ok, step_before, way_there}
use Rattle.tac_program.specs.Programs.{Program}
use Rattle.busy_bounds.proofs.finding.point_set.Goals as goal

pub stepped-requires-clause-point : goal.stepped-requires-clause-point
stepped-requires-clause-point c =
    let program : Program = c.args.busy.graph.now in
    let paths = c.args.paths in
    let linked = c.requires.paths.linked in
    let ways : List Way = paths.ways.now in
    let are : AreWays (reversed_program program) ways = subst (λ (l : LinkedProgram). AreWays l ways) linked c.requires.paths.ways in
    let numbered : IsNumbered (busy_shape program) true (point_count program) =
    subst (λ (l : LinkedProgram). IsNumbered (directed_shape l) l.backward (point_count l.program)) linked c.points.ensures.numbered in
    let number : ℕ = c.args.number in
    way_there program numbered ways are number c.requires.there (Steps c.in-Steps.before)
    (hop_here program numbered ways are number c.requires.there (Steps c.in-Steps.before) c.in-Steps.is)

pub returns-in-Begins-clause-set : goal.returns-in-Begins-clause-set
returns-in-Begins-clause-set c =
    let program : Program = c.args.busy.graph.now in
    let paths = c.args.paths in
    let linked = c.requires.paths.linked in
    let ways : List Way = paths.ways.now in
    let are : AreWays (reversed_program program) ways = subst (λ (l : LinkedProgram). AreWays l ways) linked c.requires.paths.ways in
    let numbered : IsNumbered (busy_shape program) true (point_count program) =
    subst (λ (l : LinkedProgram). IsNumbered (directed_shape l) l.backward (point_count l.program)) linked c.points.ensures.numbered in
    let number : ℕ = c.args.number in
    at_entry program numbered ways are number c.args.items.now.items c.requires.there
    (hop_here program numbered ways are number c.requires.there Begins c.in-Begins.is)

pub returns-in-Steps-clause-set : goal.returns-in-Steps-clause-set
returns-in-Steps-clause-set c =
    let program : Program = c.args.busy.graph.now in
    let paths = c.args.paths in
    let linked = c.requires.paths.linked in
    let ways : List Way = paths.ways.now in
    let are : AreWays (reversed_program program) ways = subst (λ (l : LinkedProgram). AreWays l ways) linked c.requires.paths.ways in
    let numbered : IsNumbered (busy_shape program) true (point_count program) =
    subst (λ (l : LinkedProgram). IsNumbered (directed_shape l) l.backward (point_count l.program)) linked c.points.ensures.numbered in
    let number : ℕ = c.args.number in
    let before : ℕ = c.in-Steps.before in
    let hop = hop_here program numbered ways are number c.requires.there (Steps before) c.in-Steps.is in
    let old : List ℕ = c.args.items.now.items in
    let new : List ℕ = c.stepped.new.items.items in
    let there = before_there program numbered ways are number before c.requires.there (step_before program ways number before hop) in
    let set : IsPointSet program old (point_in ways before) c.bound_at-bound.result =
    subst (λ (b : Bound). IsPointSet program old (point_in ways before) b)
    (ap (λ p. slice_index_or c.args.points.now p Unknown) (sym c.point_at.ensures) ∙ sym c.bound_at-bound.ensures)
    (c.requires.before.each (point_in ways before) there) in
    on_ok c.stepped.result (IsStepped c.args.busy.problem.now (point_in ways number) old new c.bound_at-bound.result)
    (IsPointSet program new (point_in ways number))
    (λ stepped is.
    by_one_step program numbered ways are number before old new c.bound_at-bound.result stepped c.requires.there hop set
    (subst (λ (s : Selection). IsStepped s (point_in ways number) old new c.bound_at-bound.result stepped) c.requires.problem is))
    c.stepped.ensures.stepped

pub returns-in-Passes-clause-set : goal.returns-in-Passes-clause-set
returns-in-Passes-clause-set c =
    let program : Program = c.args.busy.graph.now in
    let paths = c.args.paths in
    let linked = c.requires.paths.linked in
    let ways : List Way = paths.ways.now in
    let are : AreWays (reversed_program program) ways = subst (λ (l : LinkedProgram). AreWays l ways) linked c.requires.paths.ways in
    let numbered : IsNumbered (busy_shape program) true (point_count program) =
    subst (λ (l : LinkedProgram). IsNumbered (directed_shape l) l.backward (point_count l.program)) linked c.points.ensures.numbered in
    let number : ℕ = c.args.number in
    let before : ℕ = c.in-Passes.before in
    let exit : ℕ = c.in-Passes.exit in
    let hop = hop_here program numbered ways are number c.requires.there (Passes before exit) c.in-Passes.is in
    let old : List ℕ = c.args.items.now.items in
    let new : List ℕ = c.joined.new.items.items in
    let both = exit_there program ways number before exit hop in
    let there = before_there program numbered ways are number before c.requires.there both.0 in
    let behind = before_there program numbered ways are number exit c.requires.there both.1 in
    let here : IsPointSet program old (point_in ways before) c.bound_at-bound-in-Passes.result =
    subst (λ (b : Bound). IsPointSet program old (point_in ways before) b)
    (ap (λ p. slice_index_or c.args.points.now p Unknown) (sym c.point_at-in-Passes.ensures) ∙ sym c.bound_at-bound-in-Passes.ensures)
    (c.requires.before.each (point_in ways before) there) in
    let through : IsPointSet program old (point_in ways exit) c.bound_at-through.result =
    subst (λ (b : Bound). IsPointSet program old (point_in ways exit) b)
    (ap (λ p. slice_index_or c.args.points.now p Unknown) (sym c.point_at-in-Passes-2.ensures) ∙ sym c.bound_at-through.ensures)
    (c.requires.before.each (point_in ways exit) behind) in
    on_ok c.joined.result (Joins old new c.bound_at-bound-in-Passes.result c.bound_at-through.result)
    (IsPointSet program new (point_in ways number))
    (λ set joins.
    by_one_call program numbered ways are number before exit old new c.bound_at-bound-in-Passes.result c.bound_at-through.result set c.requires.there hop here through
    joins)
    c.joined.ensures.joins
