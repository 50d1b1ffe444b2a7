-- From a place to the next one
use Rattle.std.proofs.Common.{◌≡◌, ℕ, ◌+◌, ◌<◌, ◌≤◌, ◌⊎◌, inl, inr, length, get_or, option_map, slice_get, unwrap_or, sum_by, ap, ◌∙◌, arith}
use Rattle.std.proofs.Common.{take_all, []}
use Rattle.std.proofs.lemmas.Bool.{cases_lt}
use Rattle.std.proofs.lemmas.List.Sums.{sum_by_more}
use Rattle.std.proofs.lemmas.Option.{get_or_from_slice_get}
use Rattle.tac_program.specs.Programs.{Procedure, Program}
use Rattle.flow_graph.specs.Points.{Place, size_of, first_point, point_of, point_count, end_place, statements_of, statement_at}
use Rattle.flow_graph.proofs.places.PointLemmas.{places_have_points}
use Rattle.flow_graph.proofs.places.Standing.{slice_get_some}

-- a point stands in a procedure that is there
pub stands_in_procedure : (program : Program) (procedure place : ℕ) → point_of program procedure place < point_count program
    → procedure < length program.procedures
stands_in_procedure program procedure place below = by_case (cases_lt procedure (length program.procedures))
  where
    by_case : (procedure < length program.procedures) ⊎ (length program.procedures ≤ procedure) → procedure < length program.procedures
    by_case (inl there) = there
    by_case (inr past) =
        let all : first_point program procedure ≡ point_count program = ap (sum_by size_of) (take_all procedure program.procedures past) in
        absurd (omega (arith, all, below))

pub statement_at_place : (program : Program) (procedure place : ℕ) → procedure < length program.procedures → place ≤ end_place program procedure
    → statement_at program (point_of program procedure place) ≡ slice_get (statements_of program procedure) place
statement_at_place program procedure place there within =
    ap (λ (at : Place). slice_get (statements_of program at.procedure) at.place) (places_have_points program procedure place there within).1

-- the points of a procedure lie between its first and that of the next
pub next_first_point : (program : Program) (procedure : ℕ) → procedure < length program.procedures
    → first_point program (procedure + 1) ≡ first_point program procedure + end_place program procedure + 1
next_first_point program procedure there =
    let (p, known) = slice_get_some program.procedures procedure there in
    let ends : end_place program procedure ≡ length p.statements =
    ap (λ o. length (unwrap_or (option_map (λ (p : Procedure). p.statements) o) [])) known in
    let element : size_of (get_or program.procedures procedure p) ≡ length p.statements + 1 = ap size_of
    (get_or_from_slice_get program.procedures procedure p p known) ∙ (let e : size_of p ≡ length p.statements + 1 = omega arith in e) in
    omega (arith, sum_by_more size_of program.procedures procedure p there, element, ends)
