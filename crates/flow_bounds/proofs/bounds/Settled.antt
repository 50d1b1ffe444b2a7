-- What the words of a frame that bounds from above or below tell of a column's bit on valid paths
use Rattle.std.proofs.Common.{◌≡◌, ◌<◌, ℕ, true, false, sym, subst, ◌∙◌}
use Rattle.flow_graph.specs.Analyses.{is_backward}
use Rattle.flow_graph.specs.Paths.{SomePathHas, Transfer}
use Rattle.flow_graph.specs.Points.{point_count}
use Rattle.flow_graph.specs.Problems.{may_shape}
use Rattle.flow_links.specs.Shapes.{LinkedProgram, directed_shape}
use Rattle.gen_kill.specs.Selections.{Selection}
use Rattle.summary_equations.proofs.paths.Meet.{solution_is_meet}
use Rattle.flow_bounds.specs.Bounds.{IsAbove, IsBelow, is_in_words}
use Rattle.flow_bounds.specs.Clauses.{IsPointInside, IsTaken, shape_in}
use Rattle.flow_bounds.specs.code.Bounded.{AreBounding}
use Rattle.flow_bounds.specs.code.Frames.{IsFrame}
use Rattle.flow_bounds.specs.declared.bounding.Bounded.{Bounded}
use Rattle.flow_bounds.specs.declared.frame.Frame.{Frame}
use Rattle.flow_bounds.proofs.bounds.Above.{words_are_above}
use Rattle.flow_bounds.proofs.bounds.Below.{words_are_below}

abbrev linked_of : Selection → LinkedProgram
linked_of selection = record { program = selection.program; backward = is_backward selection.analysis }

module _ (frame : Frame) (bounded : Bounded) (is_frame : IsFrame frame) (are : AreBounding frame bounded) (transfer : Transfer) (bit x : ℕ)
    (small : bit < 64) (there : x < point_count frame.links.now.program) (inside : IsPointInside frame x) where
  pub lacks : IsAbove frame transfer bit → bounded.closed ≡ true → is_in_words frame bounded.words.items x bit ≡ false
      → SomePathHas (shape_in frame) transfer x → ⊥
  lacks above closed not_in path =
      cc (sym not_in ∙ words_are_above frame transfer bit small are.rules bounded.words.items is_frame are.tells (are.closed closed)
      (are.always bit small) above x inside ((solution_is_meet (shape_in frame) transfer x is_frame.numbered.formed).1.1 path))

  pub has : IsBelow frame transfer bit → IsTaken frame x → is_in_words frame bounded.words.items x bit ≡ true
      → SomePathHas (shape_in frame) transfer x
  has below taken is_in =
      (solution_is_meet (shape_in frame) transfer x is_frame.numbered.formed).1.0
      (words_are_below frame transfer bit small are.rules are.given is_frame are.tells (are.only bit) below bounded.words.items
      (λ cell. are.follows cell bit) x there inside (below.taken x taken) is_in)

-- a shape is that of the program in the analysis's direction
pub in_shape : (selection : Selection) (linked : LinkedProgram) (transfer : Transfer) (x : ℕ) → linked ≡ linked_of selection
    → SomePathHas (directed_shape linked) transfer x → SomePathHas (may_shape selection.program selection.analysis) transfer x
in_shape selection linked transfer x same path = subst (λ l. SomePathHas (directed_shape l) transfer x) same path

pub of_shape : (selection : Selection) (linked : LinkedProgram) (transfer : Transfer) (x : ℕ) → linked ≡ linked_of selection
    → SomePathHas (may_shape selection.program selection.analysis) transfer x → SomePathHas (directed_shape linked) transfer x
of_shape selection linked transfer x same path = subst (λ l. SomePathHas (directed_shape l) transfer x) (sym same) path
