-- The edges of a program's flow graph, each with its two points.
--
-- A step leads to where control may be after the statement in the same procedure. A call leads to the entry of each
-- procedure that it lists, and from that procedure's end a return leads to the point after each call that lists it. No
-- edge leads past a call (the supergraph of Reps, Horwitz, Sagiv 1995).
use Rattle.std.specs.Prelude.{ℕ, suc, Bool, List, [], ◌∷◌, map, flat_map, Some, None, option_and_then, option_map, slice_get, unwrap_or, nat_eq}
use Rattle.std.specs.Prelude.{if◌then◌else◌}
use Rattle.std.specs.List.{list_any}
use Rattle.tac_program.specs.Programs.{Program}
use Rattle.tac_program.specs.declared.program.StmtKind.{StmtKind}
use Rattle.tac_program.specs.declared.program.StmtKind.TheVariants as kind
use Rattle.flow_graph.specs.declared.edge.Edge.{Edge}
use Rattle.flow_graph.specs.declared.edge.Edge.TheVariants.{Step, Call, Ret}
use Rattle.flow_graph.specs.Points.{points, point_of, entry_point, end_point, procedure_at, kind_at}

-- the point that a label of a procedure stands for
abbrev pub label_point : Program → ℕ → ℕ → ℕ
label_point program procedure label =
    point_of program procedure
    (unwrap_or (option_map (λ l. l.place) (option_and_then (λ p. slice_get p.labels label) (slice_get program.procedures procedure))) 0)

-- to the next statement, or the end where there is none
abbrev pub next_step : ℕ → List Edge
next_step point = Step point (suc point) ∷ []

-- both outcomes of a test; one edge where they lead to one point
abbrev pub two_steps : ℕ → ℕ → List Edge
two_steps point target = if nat_eq target (suc point) then next_step point else Step point (suc point) ∷ Step point target ∷ []

-- the edges out of a statement, in their order
abbrev pub edges_of : Program → ℕ → StmtKind → List Edge
edges_of program point (kind.Copy x y) = next_step point
edges_of program point (kind.Unary x op y) = next_step point
edges_of program point (kind.Binary op x y z) = next_step point
edges_of program point (kind.Goto label) = Step point (label_point program (procedure_at program point) label) ∷ []
edges_of program point (kind.If y label) = two_steps point (label_point program (procedure_at program point) label)
edges_of program point (kind.IfFalse y label) = two_steps point (label_point program (procedure_at program point) label)
edges_of program point (kind.IfCompare op label y z) = two_steps point (label_point program (procedure_at program point) label)
edges_of program point (kind.Call callees) = map (λ callee. Call point point (entry_point program callee)) callees
edges_of program point kind.Return = Step point (end_point program (procedure_at program point)) ∷ []
edges_of program point (kind.Read x) = next_step point
edges_of program point (kind.Print y) = next_step point
edges_of program point kind.Skip = next_step point

-- the procedures that the statement at a point may call
abbrev pub callees_named : StmtKind → List ℕ
callees_named (kind.Copy x y) = []
callees_named (kind.Unary x op y) = []
callees_named (kind.Binary op x y z) = []
callees_named (kind.Goto label) = []
callees_named (kind.If y label) = []
callees_named (kind.IfFalse y label) = []
callees_named (kind.IfCompare op label y z) = []
callees_named (kind.Call callees) = callees
callees_named kind.Return = []
callees_named (kind.Read x) = []
callees_named (kind.Print y) = []
callees_named kind.Skip = []

abbrev pub callees_at : Program → ℕ → List ℕ
callees_at program point = unwrap_or (option_map callees_named (kind_at program point)) []

abbrev pub calls : Program → ℕ → ℕ → Bool
calls program site procedure = list_any (nat_eq procedure) (callees_at program site)

-- the edges out of a procedure's end: for each call of the procedure, in the order of points, to the point after it
abbrev pub return_to : Program → ℕ → ℕ → List Edge
return_to program procedure site = if calls program site procedure then Ret site (end_point program procedure) (suc site) ∷ [] else []

abbrev pub returns_of : Program → ℕ → List Edge
returns_of program procedure = flat_map (return_to program procedure) (points program)

-- the edges out of a point, in their order
abbrev pub edges_from : Program → ℕ → List Edge
edges_from program point = elim (kind_at program point) [ Some k ↦ edges_of program point k | None ↦ returns_of program (procedure_at program point) ]

-- all edges, in the order of the points that they leave
abbrev pub edges : Program → List Edge
edges program = flat_map (edges_from program) (points program)
