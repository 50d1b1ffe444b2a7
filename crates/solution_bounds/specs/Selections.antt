-- Bits of one or several analyses, chosen and solved side by side.
--
-- Gen-kill problems are separable: each bit is a problem of its own (Kildall 1973; locally separable problems: Reps, Horwitz, Sagiv 1995).
use Rattle.std.specs.Prelude.{◌≡◌, ℕ, Some, List, slice_get}
use Rattle.flow_graph.specs.Analyses.{is_backward}
use Rattle.flow_graph.specs.Paths.{Shape, Transfer}
use Rattle.flow_graph.specs.Problems.{MayForm, may_shape, may_transfer}
use Rattle.flow_graph.specs.declared.analysis.Analysis.{Analysis}
use Rattle.flow_graph.specs.WellFormed.{AgreesOnSteps}

-- A packed problem: at each place it has, on the steps of the shape, the gen, the kill and the boundary of the transfer that was chosen
-- for that place. The chosen transfers may belong to different analyses, as long as they are problems over this shape.
abbrev pub IsSelection : Shape → List Transfer → (ℕ → Transfer) → Type 0
IsSelection shape chosen packed =
    (place : ℕ) (transfer : Transfer) → slice_get chosen place ≡ Some transfer → AgreesOnSteps shape (packed place) transfer

-- a bit of an analysis
pub record Choice : Type 0 where
  pub analysis : Analysis
  pub bit : ℕ

-- The same of a program: at each place the may form of the chosen bit. Its analysis has the direction of the form over whose shape the
-- packed problem is solved.
abbrev pub IsSelectionOfBits : MayForm → List Choice → (ℕ → Transfer) → Type 0
IsSelectionOfBits form chosen packed =
    (place : ℕ) (choice : Choice) → slice_get chosen place ≡ Some choice
    → (is_backward choice.analysis ≡ is_backward form.analysis)
    × AgreesOnSteps (may_shape form.program form.analysis) (packed place) (may_transfer form.program choice.analysis choice.bit)
