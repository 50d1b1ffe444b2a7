-- The places before a point, looked at from the point back
use Rattle.std.proofs.Common.{◌≡◌, ◌↔◌, ℕ, Bool, true, false, ◌+◌, ◌<◌, ◌≤◌, length, inl, inr, sym, subst, arith}
use Rattle.std.proofs.lemmas.Bool.{cases_eq}
use Rattle.tac_program.specs.Programs.{Program}
use Rattle.flow_graph.specs.Analyses.{shape_of}
use Rattle.flow_graph.specs.Paths.{HasPath}
use Rattle.flow_graph.specs.Points.{end_place, place_of, point_count, procedure_at}
use Rattle.flow_graph.proofs.places.PointLemmas.{places_have_points, points_have_places}
use Rattle.flow_links.specs.Shapes.{LinkedProgram, directed_shape}
use Rattle.flow_reasons.specs.Reached.{IsLastReached, NoneReachedFrom, beside}

-- what the places before a point's own are
pub record IsBefore (program : Program) (point at : ℕ) : Type 0 where
  pub procedure : procedure_at program point < length program.procedures
  pub place : at ≤ end_place program (procedure_at program point)
  pub there : beside program point at < point_count program

pub before_it : (program : Program) (point at : ℕ) → point < point_count program → at < (place_of program point).place → IsBefore program point at
before_it program point at below low =
    let is = points_have_places program point below in
    let inside : at ≤ end_place program (procedure_at program point) = omega (arith, is.place, low) in
    record { procedure = is.procedure; place = inside; there = (places_have_points program (procedure_at program point) at is.procedure inside).0 }

-- a way of a search forwards is a valid path
pub reaches_is : (program : Program) (linked : LinkedProgram) (at : ℕ) → linked ≡ record { program = program; backward = false }
    → HasPath (directed_shape linked) at ↔ HasPath (shape_of program) at
reaches_is program linked at is =
    subst (λ (l : LinkedProgram). HasPath (directed_shape l) at ↔ HasPath (shape_of program) at) (sym is) (λ has. has, λ has. has)

-- a place that is looked at
module _ (program : Program) (linked : LinkedProgram) (point place at : ℕ) (has : Bool) (ways : linked ≡ record { program = program; backward = false })
    (at_is : at ≡ beside program point place) (tells : (has ≡ true) ↔ HasPath (directed_shape linked) at) (first : ℕ)
    (none : NoneReachedFrom program point first) (next : first ≡ place + 1) where
  -- it is reached
  pub found_it : has ≡ true → place < (place_of program point).place → IsLastReached program point at
  found_it reached before = record {
    at = place;
    before = before;
    is = at_is;
    reached = (reaches_is program linked at ways).0 (tells.0 reached);
    nearest = subst (NoneReachedFrom program point) next none;
  }

  not_it : has ≡ false → ¬ (HasPath (shape_of program) (beside program point place))
  not_it missed reached =
      absurd (cc (missed, tells.1 ((reaches_is program linked at ways).1 (subst (HasPath (shape_of program)) (sym at_is) reached))))

  -- it is not
  pub passed_it : has ≡ false → (last : ℕ) → last ≡ place → NoneReachedFrom program point last
  passed_it missed last same further low high =
      elim (cases_eq further place) [
        | inl here ↦ subst (λ n. ¬ (HasPath (shape_of program) (beside program point n))) (sym here) (not_it missed)
        | inr other ↦ none further (omega (arith, low, same, other, next)) high
      ]
