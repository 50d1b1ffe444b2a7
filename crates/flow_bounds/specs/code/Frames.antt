-- What holds of a frame's tables, and how rules tell clauses.
use Rattle.std.specs.Prelude.{◌≡◌, ◌⊎◌, ◌<◌, ◌≤◌, ℕ, true, false, List, Some, length, slice_get, slice_index}
use Rattle.bit_rows.specs.Words.{has_bit}
use Rattle.flow_graph.specs.Points.{point_count}
use Rattle.flow_links.specs.Shapes.{IsNumbered}
use Rattle.flow_links.specs.declared.link.CallLink.{CallLink}
use Rattle.flow_graph.specs.declared.edge.Edge.TheVariants.{Step}
use Rattle.flow_graph.specs.Paths.{IsEdge}
use Rattle.summary_equations.specs.Equations.{CallsAt, ReturnsTo}
use Rattle.flow_bounds.specs.Clauses.{InnerClause, IsPointInside, IsTaken, OuterClause, ProcedureClause, StepClause, is_inside, shape_in}
use Rattle.flow_bounds.specs.Rules.{IsRuleAt, IsRuleOf}
use Rattle.flow_bounds.specs.declared.frame.Frame.{Frame}
use Rattle.flow_bounds.specs.declared.rule.Rule.{Rule}
use Rattle.tac_program.specs.Limits.{most_points, most_procedures}
use Rattle.tac_program.specs.declared.limits.Limits.TheVariants.{Large}

-- Each point of a procedure inside has its place, and each table a word for each place, point or procedure.
pub record IsFrame (frame : Frame) : Type 0 where
  pub numbered : IsNumbered (shape_in frame) frame.links.now.backward (point_count frame.links.now.program)
  pub few_points : length frame.points.now ≤ most_points Large
  pub few_procedures : (shape_in frame).procedures ≤ most_procedures Large
  pub inside : length frame.inside.now ≡ (shape_in frame).procedures
  pub places : length frame.places.now ≡ point_count frame.links.now.program
  pub placed : (x : ℕ) → x < point_count frame.links.now.program → IsPointInside frame x
      → (slice_index frame.places.now x < length frame.points.now) × (slice_index frame.points.now (slice_index frame.places.now x) ≡ x)
  pub within : (i : ℕ) → i < length frame.points.now
      → (slice_index frame.points.now i < point_count frame.links.now.program) × IsPointInside frame (slice_index frame.points.now i)
  pub gens : length frame.gens.now ≡ length frame.points.now
  pub kills : length frame.kills.now ≡ length frame.points.now
  pub through : length frame.through.now ≡ (shape_in frame).procedures
  pub leads : length frame.leads.now ≡ (shape_in frame).procedures
  pub hung : length frame.hung.now ≡ (shape_in frame).procedures
  pub called : length frame.called.now ≡ (shape_in frame).procedures
  pub taken : length frame.taken.now ≡ point_count frame.links.now.program

-- some of the rules gives a cell the bit of two others
pub record Gives (rules : List Rule) (bit to first second : ℕ) : Type 0 where
  pub number : ℕ
  pub rule : Rule
  pub there : IsRuleAt rules number rule
  pub to_is : rule.to ≡ to
  pub first_is : rule.first ≡ first
  pub second_is : rule.second ≡ second
  pub lets : has_bit rule.mask bit ≡ true

-- a rule is of so many cells, and of each bit that it lets through a clause
pub record IsOf (cells : ℕ) (holds : ℕ → ℕ → ℕ → ℕ → Type 0) (rule : Rule) : Type 0 where
  pub of_cells : IsRuleOf cells rule
  pub clauses : (bit : ℕ) → bit < 64 → has_bit rule.mask bit ≡ true → holds bit rule.to rule.first rule.second

-- Rules that were added tell exactly these clauses.
pub record Adds (cells : ℕ) (holds : ℕ → ℕ → ℕ → ℕ → Type 0) (old new : List Rule) : Type 0 where
  pub kept : (i : ℕ) (rule : Rule) → IsRuleAt old i rule → IsRuleAt new i rule
  pub only : (i : ℕ) (rule : Rule) → IsRuleAt new i rule → IsRuleAt old i rule ⊎ IsOf cells holds rule
  pub has : (bit to first second : ℕ) → bit < 64 → holds bit to first second → Gives new bit to first second

-- the clauses of one rule
abbrev pub RuleClause : Rule → ℕ → ℕ → ℕ → ℕ → Type 0
RuleClause rule bit to first second = (rule.to ≡ to) × (rule.first ≡ first) × (rule.second ≡ second) × (has_bit rule.mask bit ≡ true)

-- of a call at a point, by its callee and the point behind it
abbrev pub LinkClause : Frame → ℕ → ℕ → ℕ → ℕ → ℕ → ℕ → ℕ → Type 0
LinkClause frame x callee z bit to first second =
    ((is_inside frame callee ≡ true) × InnerClause frame x callee z bit to first second)
    ⊎ ((is_inside frame callee ≡ false) × OuterClause frame x callee z bit to first second)

-- of all steps from a point, and of all calls
abbrev pub StepsClause : Frame → ℕ → ℕ → ℕ → ℕ → ℕ → Type 0
StepsClause frame x bit to first second = (y : ℕ) × IsEdge (shape_in frame) (Step x y) × StepClause frame x y bit to first second

abbrev pub CallsClause : Frame → ℕ → ℕ → ℕ → ℕ → ℕ → Type 0
CallsClause frame x bit to first second = (site : ℕ) × (callee : ℕ) × (z : ℕ) × CallsAt (shape_in frame) site x callee
    × ReturnsTo (shape_in frame) site callee z × LinkClause frame x callee z bit to first second

-- of a point, if its edges are looked at
abbrev pub PointClause : Frame → ℕ → ℕ → ℕ → ℕ → ℕ → Type 0
PointClause frame x bit to first second =
    IsTaken frame x × (StepsClause frame x bit to first second ⊎ CallsClause frame x bit to first second)

-- of a call of a list, by its number
abbrev pub CallClause : Frame → ℕ → List CallLink → ℕ → ℕ → ℕ → ℕ → ℕ → Type 0
CallClause frame x calls j bit to first second = (link : CallLink) × (slice_get calls j ≡ Some link)
    × LinkClause frame x ((shape_in frame).procedure_of link.exit) link.after bit to first second

-- of a procedure, if it is inside
abbrev pub InsideClause : Frame → ℕ → ℕ → ℕ → ℕ → ℕ → Type 0
InsideClause frame procedure bit to first second = (is_inside frame procedure ≡ true) × ProcedureClause frame procedure bit to first second

-- of those that have a number below one
abbrev pub BelowClause : (ℕ → ℕ → ℕ → ℕ → ℕ → Type 0) → ℕ → ℕ → ℕ → ℕ → ℕ → Type 0
BelowClause holds until bit to first second = (j : ℕ) × (j < until) × holds j bit to first second
