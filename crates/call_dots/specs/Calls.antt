-- The calls of a program, and which procedures they lead back to.
use Rattle.std.specs.Prelude.{◌≡◌, ◌↔◌, ℕ, ◌<◌, Bool, true, List, [], ◌∷◌, ◌++◌, map, flat_map, fold, length, count_by, nat_eq}
use Rattle.std.specs.Prelude.{if◌then◌else◌}
use Rattle.std.specs.List.{list_any, range_with_len}
use Rattle.flow_graph.specs.Edges.{callees_at}
use Rattle.flow_graph.specs.Points.{procedure_at}
use Rattle.flow_views.specs.Views.{points_in}
use Rattle.graph_components.specs.Components.{Joins, Leads}
use Rattle.graph_components.specs.declared.arc.Arc.{Arc}
use Rattle.tac_program.specs.Programs.{Program}
use Rattle.call_dots.specs.declared.calls.CallEdge.{CallEdge}
use Rattle.call_dots.specs.declared.calls.NamedCall.{NamedCall}

-- the calls that the statement at a point names, one for each procedure that it may call
abbrev pub calls_at : Program → ℕ → List NamedCall
calls_at program site = map (λ callee. record { caller = procedure_at program site; callee = callee; site = site }) (callees_at program site)

-- those in a procedure, and all
abbrev pub calls_in : Program → ℕ → List NamedCall
calls_in program procedure = flat_map (calls_at program) (points_in program procedure)

abbrev pub procedures_of : Program → List ℕ
procedures_of program = range_with_len 0 (length program.procedures)

abbrev pub all_calls : Program → List NamedCall
all_calls program = flat_map (calls_in program) (procedures_of program)

-- the pairs of callers and callees as arcs
abbrev pub arc_of : NamedCall → Arc
arc_of call = record { from = call.caller; to = call.callee }

abbrev pub arcs_of : Program → List Arc
arcs_of program = map arc_of (all_calls program)

-- A procedure is recursive that calls itself, through one call or more.
abbrev pub IsRecursive : Program → ℕ → Type 0
IsRecursive program procedure = (first : ℕ) × Joins (arcs_of program) procedure first × Leads (arcs_of program) first procedure

-- A call is recursive whose callee leads back to its caller.
abbrev pub LeadsBack : Program → (caller callee : ℕ) → Type 0
LeadsBack program caller callee = Leads (arcs_of program) callee caller

-- What is said of recursion: of each procedure, and of each call from one to another.
pub record Recursion : Type 0 where
  pub procedures : ℕ → Bool
  pub calls : (caller callee : ℕ) → Bool

pub record IsRecursion (program : Program) (recursion : Recursion) : Type 0 where
  pub procedures : (p : ℕ) → p < length program.procedures → (recursion.procedures p ≡ true) ↔ IsRecursive program p
  pub calls : (caller callee : ℕ) → Joins (arcs_of program) caller callee → (recursion.calls caller callee ≡ true) ↔ LeadsBack program caller callee

-- Of calls in one procedure those that are the first to name their callees.
abbrev pub noted_call : List NamedCall → NamedCall → List NamedCall
noted_call known call = if list_any (λ k. nat_eq call.callee k.callee) known then known else known ++ call ∷ []

abbrev pub first_calls : List NamedCall → List NamedCall
first_calls calls = fold noted_call [] calls

-- How many of them name a callee. A statement names it at most once, so that these are statements.
abbrev pub count_of : List NamedCall → ℕ → ℕ
count_of calls callee = count_by (λ call. nat_eq call.callee callee) calls

-- the edge of a call: for all calls in its procedure of the same callee, with the first of them
abbrev pub edge_of : List NamedCall → NamedCall → CallEdge
edge_of calls call = record { call = call; count = count_of calls call.callee }

-- the edges out of a procedure, one for each that it calls, and all
abbrev pub edges_in : Program → ℕ → List CallEdge
edges_in program procedure = map (edge_of (calls_in program procedure)) (first_calls (calls_in program procedure))

abbrev pub edges_of : Program → List CallEdge
edges_of program = flat_map (edges_in program) (procedures_of program)
