-- A packed problem solves each bit that was chosen
use Rattle.std.proofs.Common.{◌≡◌, Bool, ◌↔◌, ap, subst, sym}
use Rattle.std.specs.Prelude.{if◌then◌else◌}
use Rattle.flow_graph.specs.Analyses.{shape_of}
use Rattle.flow_graph.specs.Paths.{Shape}
use Rattle.flow_graph.specs.Problems.{may_shape, may_transfer}
use Rattle.flow_graph.specs.Reversals.{reversed_shape}
use Rattle.summary_equations.specs.Equations.{IsInSolution}
use Rattle.summary_equations.proofs.solutions.Least.{bits_are_apart}
use Rattle.solution_bounds.specs.Laws.{SelectionsAreSolved, SelectedBitsAreSolved}

pub selections_are_solved : SelectionsAreSolved
selections_are_solved shape chosen packed place transfer point selection found =
    bits_are_apart shape (packed place) transfer point (selection place transfer found)

pub selected_bits_are_solved : SelectedBitsAreSolved
selected_bits_are_solved form chosen packed place choice point selection found =
    let (direction, agrees) = selection place choice found in
    let transfer = may_transfer form.program choice.analysis choice.bit in
    let same_shape : may_shape form.program form.analysis ≡ may_shape form.program choice.analysis =
    ap (λ (backward : Bool). if backward then reversed_shape (shape_of form.program) else shape_of form.program) (sym direction) in
    subst (λ (shape : Shape). IsInSolution (may_shape form.program form.analysis) (packed place) point ↔ IsInSolution shape transfer point) same_shape
    (bits_are_apart (may_shape form.program form.analysis) (packed place) transfer point agrees)
