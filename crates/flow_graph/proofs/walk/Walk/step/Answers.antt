use Rattle.std.proofs.Common.{rules, ◌≡◌, ℕ, ◌+◌, ◌<◌, ◌≤◌, List, length, slice_get, sym, ap, ◌∙◌, subst, arith}
use Rattle.std.proofs.lemmas.Option.{slice_get_past, slice_get-get_or}
use Rattle.tac_program.specs.declared.program.Stmt.{Stmt}
use Rattle.flow_graph.specs.Points.{point_count, point_of, end_place, statement_at}
use Rattle.flow_graph.specs.code.Walks.{WalkAt}
use Rattle.flow_graph.proofs.places.Walking.{stands_in_procedure, statement_at_place, next_first_point}
use Rattle.flow_graph.proofs.walk.Walk.step.Goals as goal

pub overflow_add-procedure : goal.overflow_add-procedure
overflow_add-procedure c =
    let below = subst (λ (w : WalkAt). w.point < point_count w.program) (sym c.self.view_is) c.requires in
    let there = stands_in_procedure c.self.inside.program.now c.self.inside.procedure c.self.inside.place below in
    let fits : c.self.inside.procedure + 1 < 18446744073709551616 = omega (arith, there, ap length c.procs.ensures.procedures, c.procs.type_inv.0) in
    search rules

pub returns-then-self-clause-stmt : goal.returns-then-self-clause-stmt
returns-then-self-clause-stmt c =
    let program = c.self.inside.program.now in
    let procedure : ℕ = c.self.inside.procedure in
    let place : ℕ = c.self.inside.place in
    let below = subst (λ (w : WalkAt). w.point < point_count w.program) (sym c.self.view_is) c.requires in
    let there = stands_in_procedure program procedure place below in
    let within : place ≤ end_place program procedure = omega (arith, c.self.invariant.1, ap length c.self.invariant.2) in
    sym (slice_get-get_or c.self.inside.statements.now place c.index-self-self.result c.if-self.true)
    ∙ ap (λ (xs : List Stmt). slice_get xs place) c.self.invariant.2
    ∙ sym (statement_at_place program procedure place there within)
    ∙ ap (λ (w : WalkAt). statement_at w.program w.point) c.self.view_is

pub returns-else-self-clause-stmt : goal.returns-else-self-clause-stmt
returns-else-self-clause-stmt c =
    let program = c.self.inside.program.now in
    let procedure : ℕ = c.self.inside.procedure in
    let place : ℕ = c.self.inside.place in
    let below = subst (λ (w : WalkAt). w.point < point_count w.program) (sym c.self.view_is) c.requires in
    let there = stands_in_procedure program procedure place below in
    let within : place ≤ end_place program procedure = omega (arith, c.self.invariant.1, ap length c.self.invariant.2) in
    let past : length c.self.inside.statements.now ≤ place = omega (arith, c.if-self.false) in
    sym (slice_get_past c.self.inside.statements.now place past)
    ∙ ap (λ (xs : List Stmt). slice_get xs place) c.self.invariant.2
    ∙ sym (statement_at_place program procedure place there within)
    ∙ ap (λ (w : WalkAt). statement_at w.program w.point) c.self.view_is

pub returns-else-self-clause-next : goal.returns-else-self-clause-next
returns-else-self-clause-next c =
    let program = c.self.inside.program.now in
    let procedure : ℕ = c.self.inside.procedure in
    let place : ℕ = c.self.inside.place in
    let below = subst (λ (w : WalkAt). w.point < point_count w.program) (sym c.self.view_is) c.requires in
    let there = stands_in_procedure program procedure place below in
    let on : point_of program (procedure + 1) 0 ≡ point_of program procedure place + 1 =
    omega (arith, next_first_point program procedure there, c.self.invariant.1, c.if-self.false, ap length c.self.invariant.2) in
    ap (λ n. let w : WalkAt = record { program = program; point = n } in w) on
    ∙ ap (λ (w : WalkAt). let v : WalkAt = record { program = w.program; point = w.point + 1 } in v) c.self.view_is
