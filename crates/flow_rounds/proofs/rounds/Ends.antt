-- The rounds end at the table
use Rattle.std.proofs.Common.{◌≡◌, ℕ, suc, ◌+◌, ◌-◌, ◌<◌, ◌≤◌, Bool, true, false, not, ◌&&◌, ◌||◌, List, refl, sym, ap, subst, ◌∙◌}
use Rattle.std.proofs.Common.{if◌then◌else◌, length, Contains, arith, inl, inr, ◌↔◌}
use Rattle.std.specs.List.{range_with_len}
use Rattle.tac_program.specs.Programs.{Program}
use Rattle.tac_program.specs.Sound.{IsSound}
use Rattle.flow_graph.specs.Analyses.{IsInTable, is_must, shape_of}
use Rattle.flow_graph.specs.Paths.{IsEdge}
use Rattle.flow_graph.specs.Points.{end_place, first_point, point_count, point_of, procedure_at}
use Rattle.flow_graph.specs.Problems.{directed_transfer, may_shape, may_transfer}
use Rattle.flow_graph.specs.ProgramLaws.{IsPlaceOf}
use Rattle.flow_graph.specs.Reversals.{complemented_transfer}
use Rattle.flow_graph.specs.Universes.{bits}
use Rattle.flow_graph.specs.declared.analysis.Analysis.{Analysis}
use Rattle.flow_graph.specs.declared.analysis.Analysis.TheVariants.{Reach, Live, Avail, Busy}
use Rattle.flow_graph.specs.declared.edge.Edge.TheVariants.{Step}
use Rattle.flow_graph.proofs.graphs.GraphLaws.{edges_join_points, may_forms_are_well_formed}
use Rattle.flow_graph.proofs.lists.Membership.{Contains-filter, Contains-nil, Contains-range}
use Rattle.flow_graph.proofs.paths.Reversal.{edge_back}
use Rattle.flow_graph.proofs.places.PointLemmas.{places_have_points, points_have_places}
use Rattle.flow_graph.proofs.searches.FiniteSearch.{contains_any}
use Rattle.point_sets.specs.Changes.{beyond}
use Rattle.summary_equations.specs.Equations.{HasFlag, IsInSolution}
use Rattle.summary_equations.proofs.solutions.Decided.{solution_is_decided}
use Rattle.summary_equations.proofs.tables.ProgramTables.{flags_are_solutions, may_tables_are_solutions, must_tables_are_solutions}
use Rattle.flow_rounds.specs.Laws.{RoundsEndAtTable}
use Rattle.flow_rounds.specs.Rounds.{BitProblem, after_rounds, is_computed}
use Rattle.flow_rounds.specs.Steps.{AreApart, IsInside, IsIteration, IsLast, Iteration, has_changed, problem_at, set_after}
use Rattle.flow_rounds.proofs.rounds.Above.{all_above}
use Rattle.flow_rounds.proofs.rounds.Below.{Knows, rounds_below}
use Rattle.flow_rounds.proofs.rounds.Complements.{complement, flip_rounds, twice}
use Rattle.flow_rounds.proofs.rounds.Stable.{round_stable, rounds_leave}

-- a point among those of a procedure stands in it, and the other way round
in_procedure : (program : Program) (procedure point : ℕ) → procedure < length program.procedures → IsInside program procedure point
    → procedure_at program point ≡ procedure
in_procedure program procedure point there (low, high) =
    let place : ℕ = point - first_point program procedure in
    let at : point_of program procedure place ≡ point = omega arith in
    let few : place ≤ end_place program procedure = omega arith in
    ap (procedure_at program) (sym at) ∙ ap (λ p. p.procedure) (places_have_points program procedure place there few).1

is_inside : (program : Program) (procedure point : ℕ) → point < point_count program → procedure_at program point ≡ procedure
    → IsInside program procedure point
is_inside program procedure point below same =
    subst (λ p. IsInside program p point) same
    (let of : IsPlaceOf program point = points_have_places program point below in
    let back = of.back in
    let place = of.place in
    (omega (arith, back), omega (arith, back, place)))

source_below : (program : Program) (analysis : Analysis) (source point : ℕ) → IsSound program → IsEdge (may_shape program analysis)
    (Step source point)
    → source < point_count program
source_below program Reach source point sound edge = (edges_join_points program sound (Step source point) edge).source
source_below program Avail source point sound edge = (edges_join_points program sound (Step source point) edge).source
source_below program Live source point sound edge =
    (edges_join_points program sound (Step point source) (edge_back (shape_of program) (Step source point) edge)).target
source_below program Busy source point sound edge =
    (edges_join_points program sound (Step point source) (edge_back (shape_of program) (Step source point) edge)).target

same_procedures : (program : Program) (analysis : Analysis) (point : ℕ) → (may_shape program analysis).procedure_of point ≡ procedure_at
    program point
same_procedures program Reach point = refl
same_procedures program Avail point = refl
same_procedures program Live point = refl
same_procedures program Busy point = refl

-- a union of steps whose round changes nothing
module _ (problem : BitProblem) (procedure : ℕ) (inside : ℕ → Type 0) (knows : Knows problem procedure inside) (order : List ℕ) (rounds : ℕ)
    (once : AreApart order)
    (listed : (point : ℕ) → Contains order point ↔ (inside point × (is_computed problem.shape procedure problem.has_path point ≡ true)))
    (still : (point : ℕ) → Contains order point → after_rounds problem procedure order (suc rounds) point ≡ after_rounds problem procedure
    order rounds point)
  where
    may_ends : (point : ℕ) → inside point
        → (after_rounds problem procedure order rounds point ≡ true) ↔ IsInSolution problem.shape problem.transfer point
    may_ends point within = (
      rounds_below problem procedure inside knows order rounds point within,
      all_above problem procedure inside knows (after_rounds problem procedure order rounds)
          (λ p at computed. round_stable problem order (after_rounds problem procedure order rounds) once still p ((listed p).1 (at, computed)))
          (λ p at none. rounds_leave problem procedure order rounds p (λ among. absurd (cc (none, ((listed p).0 among).1)))
          ∙ ap (λ b. if b then problem.is_must else problem.in_table p) none)
          point within,
    )

-- two sets of which neither has what the other lacks
same_bit : (a b : Bool) → ((a && not b) || (b && not a)) ≡ false → a ≡ b
same_bit true true is = refl
same_bit false false is = refl
same_bit true false is = absurd (cc is)
same_bit false true is = absurd (cc is)

is_false : (b : Bool) → ¬ (b ≡ true) → b ≡ false
is_false true none = absurd (none refl)
is_false false none = refl

module _ (iteration : Iteration) (rounds : ℕ) (sound : IsSound iteration.program)
    (there : iteration.procedure < length iteration.program.procedures) (is : IsIteration iteration) (last : IsLast iteration rounds) where
  abbrev program : Program
  program = iteration.program

  abbrev analysis : Analysis
  analysis = iteration.analysis

  abbrev inside : ℕ → Type 0
  inside = IsInside iteration.program iteration.procedure

  unchanged : (point : ℕ) → Contains iteration.order point → has_changed iteration rounds point ≡ false
  unchanged point among =
      is_false (has_changed iteration rounds point) (λ changed. Contains-nil point
      (subst (λ points. Contains points point) last.none (Contains-filter (has_changed iteration rounds) iteration.order point among changed)))

  same_at : (point bit : ℕ) → Contains iteration.order point → bit < bits iteration.program iteration.analysis
      → set_after iteration (rounds + 1) point bit ≡ set_after iteration rounds point bit
  same_at point bit among below =
      same_bit (set_after iteration (rounds + 1) point bit) (set_after iteration rounds point bit)
      (is_false (beyond (set_after iteration (rounds + 1) point) (set_after iteration rounds point) bit
      || beyond (set_after iteration rounds point) (set_after iteration (rounds + 1) point) bit)
      (λ differs. absurd (cc (
        unchanged point among,
        contains_any
            (λ b. beyond (set_after iteration (rounds + 1) point) (set_after iteration rounds point) b
            || beyond (set_after iteration rounds point) (set_after iteration (rounds + 1) point) b)
            (range_with_len 0 (bits iteration.program iteration.analysis)) bit
            (Contains-range 0 (bits iteration.program iteration.analysis) bit (omega arith) (omega (arith, below))) differs,
      ))))

  still : (point bit : ℕ) → Contains iteration.order point → bit < bits iteration.program iteration.analysis
      → set_after iteration (suc rounds) point bit ≡ set_after iteration rounds point bit
  still point bit among below =
      let more : suc rounds ≡ rounds + 1 = omega arith in
      ap (λ n. set_after iteration n point bit) more ∙ same_at point bit among below

  flag : (point : ℕ) → inside point → (iteration.facts.has_path point ≡ true) ↔ HasFlag (may_shape program analysis) point
  flag point within =
      let fact = is.facts.paths point within.0 within.1 in
      let solved = flags_are_solutions program analysis point sound in
      (λ has. solved.1 (fact.0 has), λ has. fact.1 (solved.0 has))

  steps_stay : (source point : ℕ) → IsEdge (may_shape program analysis) (Step source point) → inside point → inside source
  steps_stay source point edge within =
      is_inside program iteration.procedure source (source_below program analysis source point sound edge)
      (sym (same_procedures program analysis source)
      ∙ (may_forms_are_well_formed program analysis sound).step_inside source point edge
      ∙ same_procedures program analysis point ∙ in_procedure program iteration.procedure point there within)

  module _ (bit : ℕ) (below : bit < bits iteration.program iteration.analysis) where
    abbrev problem : BitProblem
    problem = problem_at iteration bit

    abbrev solution : ℕ → Type 0
    solution = IsInSolution (may_shape iteration.program iteration.analysis) (may_transfer iteration.program iteration.analysis bit)

    module _ (may : is_must iteration.analysis ≡ false) where
      same_transfer : may_transfer program analysis bit ≡ directed_transfer program analysis bit
      same_transfer =
          ap (λ (b : Bool). if b then complemented_transfer (directed_transfer program analysis bit) else directed_transfer program analysis bit) may

      may_known : (point : ℕ) → inside point
          → (problem.in_table point ≡ true) ↔ IsInSolution (may_shape program analysis) (directed_transfer program analysis bit) point
      may_known point within =
          let fact = is.facts.sets point bit within.0 within.1 below in
          let solved = may_tables_are_solutions program analysis point bit sound may in (
            λ has. subst (λ t. IsInSolution (may_shape program analysis) t point) same_transfer (solved.1 (fact.0 has)),
            λ has. fact.1 (solved.0 (subst (λ t. IsInSolution (may_shape program analysis) t point) (sym same_transfer) has)),
          )

      may_case : (point : ℕ) → inside point → (set_after iteration rounds point bit ≡ true) ↔ IsInTable program analysis point bit
      may_case point within =
          let ends = may_ends (problem_at iteration bit) iteration.procedure inside
          record {
            may = may;
            formed = may_forms_are_well_formed program analysis sound;
            of_procedure = λ p at. same_procedures program analysis p ∙ in_procedure program iteration.procedure p there at;
            back = steps_stay;
            flags = flag;
            table = may_known;
          } iteration.order rounds is.once is.ordered (λ p among. still p bit among below) point within in
          let known = may_known point within in
          let fact = is.facts.sets point bit within.0 within.1 below in
          (λ has. fact.0 (known.1 (ends.0 has)), λ has. ends.1 (known.0 (fact.1 has)))

    module _ (must : is_must iteration.analysis ≡ true) where
      same_complement : may_transfer program analysis bit ≡ complemented_transfer (directed_transfer program analysis bit)
      same_complement =
          ap (λ (b : Bool). if b then complemented_transfer (directed_transfer program analysis bit) else directed_transfer program analysis
          bit) must

      must_known : (point : ℕ) → inside point
          → (not (problem.in_table point) ≡ true)
          ↔ IsInSolution (may_shape program analysis) (complemented_transfer (directed_transfer program analysis bit)) point
      must_known point within =
          let fact = is.facts.sets point bit within.0 within.1 below in
          let solved = must_tables_are_solutions program analysis point bit sound must in (
            λ lacks. subst (λ t. IsInSolution (may_shape program analysis) t point) same_complement
                (elim (solution_is_decided (may_shape program analysis) (may_transfer program analysis bit) point).1 [
                  | inl there ↦ there
                  | inr none ↦ absurd (cc (lacks, fact.1 (solved.0 none)))
                ]),
            λ has. ap not (is_false (problem.in_table point) (λ in_table.
                solved.1 (fact.0 in_table) (subst (λ t. IsInSolution (may_shape program analysis) t point) (sym same_complement) has))),
          )

      flipped : (n : ℕ) (point : ℕ) → set_after iteration n point bit
          ≡ not (after_rounds (complement (problem_at iteration bit)) iteration.procedure iteration.order n point)
      flipped n point = ap (λ (set : ℕ → Bool). set point) (flip_rounds (problem_at iteration bit) must iteration.procedure iteration.order n)

      still_flipped : (point : ℕ) → Contains iteration.order point
          → after_rounds (complement (problem_at iteration bit)) iteration.procedure iteration.order (suc rounds) point
          ≡ after_rounds (complement (problem_at iteration bit)) iteration.procedure iteration.order rounds point
      still_flipped point among =
          sym (twice (after_rounds (complement (problem_at iteration bit)) iteration.procedure iteration.order (suc rounds) point))
          ∙ ap not (sym (flipped (suc rounds) point) ∙ still point bit among below ∙ flipped rounds point)
          ∙ twice (after_rounds (complement (problem_at iteration bit)) iteration.procedure iteration.order rounds point)

      must_case : (point : ℕ) → inside point → (set_after iteration rounds point bit ≡ true) ↔ IsInTable program analysis point bit
      must_case point within =
          let ends = may_ends (complement (problem_at iteration bit)) iteration.procedure inside
          record {
            may = refl;
            formed = may_forms_are_well_formed program analysis sound;
            of_procedure = λ p at. same_procedures program analysis p ∙ in_procedure program iteration.procedure p there at;
            back = steps_stay;
            flags = flag;
            table = must_known;
          } iteration.order rounds is.once is.ordered still_flipped point within in
          let known = must_known point within in
          let fact = is.facts.sets point bit within.0 within.1 below in
          by_bits (problem.in_table point) (after_rounds (complement (problem_at iteration bit)) iteration.procedure iteration.order rounds point)
          (set_after iteration rounds point bit) (flipped rounds point) known ends fact
        where
          by_bits : {A B : Type 0} (table other set : Bool) → set ≡ not other → (not table ≡ true) ↔ A → (other ≡ true) ↔ A → (table ≡ true) ↔ B
              → (set ≡ true) ↔ B
          by_bits true true set is known ends fact = absurd (cc (known.1 (ends.0 refl)))
          by_bits true false set is known ends fact = (λ _. fact.0 refl, λ _. is)
          by_bits false true set is known ends fact = (λ has. absurd (cc (has, is)), λ b. absurd (cc (fact.1 b)))
          by_bits false false set is known ends fact = absurd (cc (ends.1 (known.0 refl)))

    at_bit : (b : Bool) → is_must iteration.analysis ≡ b → (point : ℕ) → inside point
        → (set_after iteration rounds point bit ≡ true) ↔ IsInTable program analysis point bit
    at_bit true must point within = must_case must point within
    at_bit false may point within = may_case may point within

pub ends_at_table : RoundsEndAtTable
ends_at_table iteration rounds point bit sound there is last within below =
    at_bit iteration rounds sound there is last bit below (is_must iteration.analysis) refl point within
