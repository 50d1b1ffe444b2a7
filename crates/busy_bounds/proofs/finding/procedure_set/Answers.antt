use Rattle.std.proofs.Common.{◌∙◌, ℕ, List, true, slice_index_or, sym, ap, subst}
use Rattle.flow_graph.specs.Points.{point_count}
use Rattle.flow_links.specs.Shapes.{IsNumbered, LinkedProgram, directed_shape}
use Rattle.flow_regions.specs.code.Ways.{AreWays, IsTree, point_in, procedure_in}
use Rattle.flow_regions.specs.declared.way.Way.{Way}
use Rattle.flow_regions.specs.declared.way.Branch.{Branch}
use Rattle.flow_regions.specs.declared.way.Hang.TheVariants.{Root, Call}
use Rattle.busy_bounds.specs.code.Kept.{IsPointSet, IsProcedureSet, busy_shape, reversed_program}
use Rattle.busy_bounds.specs.code.Sets.{Joins}
use Rattle.busy_bounds.specs.declared.bound.Bound.{Bound}
use Rattle.busy_bounds.specs.declared.bound.Bound.TheVariants.{Unknown}
use Rattle.busy_bounds.proofs.sets_left.Leaving.{at_root, by_site_called, caller_there, hang_here, on_ok}
use Rattle.tac_program.specs.Programs.{Program}
use Rattle.busy_bounds.proofs.finding.procedure_set.Goals as goal

pub returns-in-Root-clause-set : goal.returns-in-Root-clause-set
returns-in-Root-clause-set c =
    let program : Program = c.args._graph.now in
    let paths = c.args.paths in
    let linked = c.requires.paths.linked in
    let ways : List Way = paths.ways.now in
    let are : AreWays (reversed_program program) ways = subst (λ (l : LinkedProgram). AreWays l ways) linked c.requires.paths.ways in
    let numbered : IsNumbered (busy_shape program) true (point_count program) =
    subst (λ (l : LinkedProgram). IsNumbered (directed_shape l) l.backward (point_count l.program)) linked c.points.ensures.numbered in
    let number : ℕ = c.args.number in
    let tree : List Branch = paths.tree.now in
    let is_tree : IsTree (reversed_program program) ways tree = subst (λ (l : LinkedProgram). IsTree l ways tree) linked c.requires.paths.tree in
    at_root program numbered ways are tree is_tree number c.args.items.now.items c.requires.there
    (hang_here program numbered ways are tree is_tree number c.requires.there Root c.in-Root.is)

pub returns-in-Call-clause-set : goal.returns-in-Call-clause-set
returns-in-Call-clause-set c =
    let program : Program = c.args._graph.now in
    let paths = c.args.paths in
    let linked = c.requires.paths.linked in
    let ways : List Way = paths.ways.now in
    let are : AreWays (reversed_program program) ways = subst (λ (l : LinkedProgram). AreWays l ways) linked c.requires.paths.ways in
    let numbered : IsNumbered (busy_shape program) true (point_count program) =
    subst (λ (l : LinkedProgram). IsNumbered (directed_shape l) l.backward (point_count l.program)) linked c.points.ensures.numbered in
    let number : ℕ = c.args.number in
    let tree : List Branch = paths.tree.now in
    let is_tree : IsTree (reversed_program program) ways tree = subst (λ (l : LinkedProgram). IsTree l ways tree) linked c.requires.paths.tree in
    let caller : ℕ = c.in-Call.caller in
    let way : ℕ = c.in-Call.way in
    let hang = hang_here program numbered ways are tree is_tree number c.requires.there (Call caller way) c.in-Call.is in
    let there = caller_there program numbered ways are tree is_tree number caller way c.requires.there hang in
    let old : List ℕ = c.args.items.now.items in
    let above : IsProcedureSet program old (procedure_in tree caller) c.bound_at-brought.result =
    subst (λ (b : Bound). IsProcedureSet program old (procedure_in tree caller) b)
    (ap (λ p. slice_index_or c.args.procedures.now p Unknown) (sym c.procedure_of.ensures) ∙ sym c.bound_at-brought.ensures)
    (c.requires.before.each (procedure_in tree caller) there.0) in
    let here : IsPointSet program old (point_in ways way) c.bound_at-bound.result =
    subst (λ (b : Bound). IsPointSet program old (point_in ways way) b)
    (ap (λ p. slice_index_or c.args.points.now p Unknown) (sym c.point_at.ensures) ∙ sym c.bound_at-bound.ensures)
    (c.requires.points.each (point_in ways way) there.1) in
    on_ok c.joined.result (Joins old c.joined.new.items.items c.bound_at-brought.result c.bound_at-bound.result)
    (IsProcedureSet program c.joined.new.items.items (procedure_in tree number))
    (λ set joins.
    by_site_called program numbered ways are tree is_tree number caller way old c.joined.new.items.items c.bound_at-brought.result c.bound_at-bound.result
    set c.requires.there hang above here joins)
    c.joined.ensures.joins
