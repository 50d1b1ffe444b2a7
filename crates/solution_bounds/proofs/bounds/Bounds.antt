-- Values above and below the least solution bound it, and where they agree they are it
use Rattle.std.proofs.Common.{◌≡◌, ℕ, true, ◌&&◌, ◌||◌, ◌⊎◌, inl, inr, ◌∙◌}
use Rattle.std.proofs.lemmas.Bool.{and_from, and_parts, or_cases, or_left, or_right}
use Rattle.flow_graph.specs.Paths.{Shape, Transfer}
use Rattle.summary_equations.specs.Equations.{Generated, Brought, Preserved, IsInSolution}
use Rattle.summary_equations.specs.Laws.{Passes}
use Rattle.summary_equations.proofs.solutions.Least.{reached_least, preserved_least, generated_least, entered_least, brought_least}
use Rattle.solution_bounds.specs.Bounds.{Values, is_in_values, IsUpperBound, IsLowerBound}
use Rattle.solution_bounds.specs.Laws.{ClosedValuesAreAbove, PointsAreBounded, AgreeingBoundsAreExact}

pub closed_values_are_above : ClosedValuesAreAbove
closed_values_are_above shape transfer values closed = record {
  reached = λ x holds. reached_least closed.reached holds;
  preserved = λ x holds. preserved_least closed.reached closed.preserved holds;
  generated = λ x holds. generated_least closed.reached closed.preserved closed.generated holds;
  entered = λ p holds. entered_least closed.reached closed.entered holds;
  brought = λ p holds. brought_least closed.reached closed.preserved closed.generated closed.entered closed.brought holds;
}

point_above : (shape : Shape) (transfer : Transfer) (values : Values) (point : ℕ) → IsUpperBound shape transfer values
    → IsInSolution shape transfer point → Passes (is_in_values shape values) point
point_above shape transfer values point upper member =
    and_from _ _ (and_from _ _ (upper.entered _ member.0.0) (upper.reached point member.0.1)) (go member.1)
  where
    go : Generated shape transfer point ⊎ (Brought shape transfer (shape.procedure_of point) × Preserved shape transfer.kill point)
        → (values.generated point || (values.brought (shape.procedure_of point) && values.preserved point)) ≡ true
    go (inl generated) = or_left (values.generated point) _ (upper.generated point generated)
    go (inr both) = or_right (values.generated point) _ (and_from _ _ (upper.brought _ both.0) (upper.preserved point both.1))

point_below : (shape : Shape) (transfer : Transfer) (values : Values) (point : ℕ) → IsLowerBound shape transfer values
    → Passes (is_in_values shape values) point → IsInSolution shape transfer point
point_below shape transfer values point lower passes =
    let (flags, has) = and_parts (values.entered (shape.procedure_of point) && values.reached point) _ passes in
    let (entered, reached) = and_parts (values.entered (shape.procedure_of point)) (values.reached point) flags in (
      (lower.entered _ entered, lower.reached point reached),
      go (or_cases (values.generated point) (values.brought (shape.procedure_of point) && values.preserved point) has),
    )
  where
    go : (values.generated point ≡ true) ⊎ ((values.brought (shape.procedure_of point) && values.preserved point) ≡ true)
        → Generated shape transfer point ⊎ (Brought shape transfer (shape.procedure_of point) × Preserved shape transfer.kill point)
    go (inl generated) = inl (lower.generated point generated)
    go (inr both) =
        let (brought, preserved) = and_parts (values.brought (shape.procedure_of point)) (values.preserved point) both in
        inr (lower.brought _ brought, lower.preserved point preserved)

pub points_are_bounded : PointsAreBounded
points_are_bounded shape transfer values point = (point_above shape transfer values point, point_below shape transfer values point)

pub agreeing_bounds_are_exact : AgreeingBoundsAreExact
agreeing_bounds_are_exact shape transfer lower upper point below above agree =
    (point_below shape transfer lower point below, λ member. agree ∙ point_above shape transfer upper point above member)
