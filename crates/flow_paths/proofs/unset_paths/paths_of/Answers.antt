use Rattle.std.proofs.Common.{◌≡◌, ℕ, List, length, map, slice_index, refl, sym, ap, subst}
use Rattle.std.specs.Prelude.{All}
use Rattle.std.proofs.lemmas.Result.{IfOk-weaker}
use Rattle.gen_kill.specs.Selections.{Selection}
use Rattle.tac_program.specs.Programs.{Program}
use Rattle.flow_paths.specs.code.UnsetPaths.{IsUnsetUse, IsWitnessed, between, use_at, uses_in}
use Rattle.flow_paths.proofs.lists.Putting.{at_points, each_has, few_paths}
use Rattle.flow_paths.proofs.unset_paths.paths_of.Goals as goal

pub returns-clause-complete : goal.returns-clause-complete
returns-clause-complete c =
    let program_is = ap (λ (s : Selection). s.program) c.in_ok-problem.ensures in
    let starts : List ℕ = c.in_ok-by_variable.by_variable.starts.items in
    let places : List ℕ = c.in_ok-by_variable.by_variable.places.items in
    IfOk-weaker c.paths_by_variable.result _ _
    (λ paths put. each_has c.args.uses.now (length c.args.graph.now.variable_names) starts places c.in_ok-by_variable.ensures paths.items
    (subst (λ (p : Program). uses_in paths.items
    ≡ map (use_at c.args.uses.now) (between places (slice_index starts 0) (slice_index starts (length p.variable_names)))) program_is put)
    c.args.graph.now refl c.requires.uses)
    c.paths_by_variable.ensures.put

pub returns-clause-count : goal.returns-clause-count
returns-clause-count c =
    let program_is = ap (λ (s : Selection). s.program) c.in_ok-problem.ensures in
    let starts : List ℕ = c.in_ok-by_variable.by_variable.starts.items in
    let places : List ℕ = c.in_ok-by_variable.by_variable.places.items in
    IfOk-weaker c.paths_by_variable.result _ _
    (λ paths put. few_paths c.args.uses.now (length c.args.graph.now.variable_names) starts places c.in_ok-by_variable.ensures paths.items
    (subst (λ (p : Program). uses_in paths.items
    ≡ map (use_at c.args.uses.now) (between places (slice_index starts 0) (slice_index starts (length p.variable_names)))) program_is put))
    c.paths_by_variable.ensures.put

pub returns-clause-points : goal.returns-clause-points
returns-clause-points c =
    let program_is = ap (λ (s : Selection). s.program) c.in_ok-problem.ensures in
    let starts : List ℕ = c.in_ok-by_variable.by_variable.starts.items in
    let places : List ℕ = c.in_ok-by_variable.by_variable.places.items in
    IfOk-weaker c.paths_by_variable.result _ _
    (λ paths put. at_points c.args.uses.now (length c.args.graph.now.variable_names) starts places c.in_ok-by_variable.ensures paths.items
    (subst (λ (p : Program). uses_in paths.items
    ≡ map (use_at c.args.uses.now) (between places (slice_index starts 0) (slice_index starts (length p.variable_names)))) program_is put)
    c.args.graph.now c.requires.uses)
    c.paths_by_variable.ensures.put

pub returns-clause-witnessed : goal.returns-clause-witnessed
returns-clause-witnessed c =
    let program_is = ap (λ (s : Selection). s.program) c.in_ok-problem.ensures in
    IfOk-weaker c.paths_by_variable.result _ _
    (λ paths all. subst (λ (p : Program). All (IsWitnessed p) paths.items) program_is all)
    c.paths_by_variable.ensures.witnessed

pub paths_by_variable-requires-clause-uses : goal.paths_by_variable-requires-clause-uses
paths_by_variable-requires-clause-uses c =
    let program_is = ap (λ (s : Selection). s.program) c.in_ok-problem.ensures in
    subst (λ (p : Program). All (IsUnsetUse p) c.args.uses.now) (sym program_is) c.requires.uses
