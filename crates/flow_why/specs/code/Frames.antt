-- What a frame says of the question that a search answers.
use Rattle.std.specs.Prelude.{◌≡◌, ◌<◌, ◌≤◌, ℕ, Bool, true, false, slice_index_or, if◌then◌else◌}
use Rattle.flow_graph.specs.Paths.{Transfer}
use Rattle.flow_graph.specs.Points.{point_count}
use Rattle.flow_links.specs.Shapes.{IsNumbered, LinkedProgram, after_site, call_site, directed_shape}
use Rattle.gen_kill.specs.Selections.{Selection, column_count, column_transfer}
use Rattle.tac_program.specs.Programs.{Program}
use Rattle.summary_equations.specs.Equations.{HasFlag, Preserved, Reached}
use Rattle.flow_why.specs.Directed.{direction_of}
use Rattle.flow_why.specs.PointBits.{StatementBit, point_transfer, step_statement}
use Rattle.flow_why.specs.code.Closed.{Scope, idle_transfer}
use Rattle.flow_why.specs.code.Found.{marks_of}
use Rattle.flow_why.specs.code.Marked.{BaseHas, Question}
use Rattle.flow_why.specs.declared.claim.Claim.{Claim}
use Rattle.flow_why.specs.declared.claim.Claim.TheVariants as claim
use Rattle.flow_why.specs.declared.frame.Asked.{Asked}
use Rattle.flow_why.specs.declared.frame.Asked.TheVariants.{Paths, Column, Points}
use Rattle.flow_why.specs.declared.frame.Frame.{Frame}
use Rattle.flow_why.specs.declared.hop.Effect.{Effect}
use Rattle.flow_why.specs.declared.hop.Effect.TheVariants.{Reaches, Preserves}
use Rattle.tac_program.specs.Limits.{most_points}
use Rattle.tac_program.specs.declared.limits.Limits.TheVariants.{Large}

-- the transfer of what is asked: a bit that is always there, a column's bit, or a bit of one's own
abbrev pub transfer_of_asked : Bool → Asked → Transfer
transfer_of_asked backward Paths = idle_transfer
transfer_of_asked backward (Column problem column) = column_transfer problem.now column
transfer_of_asked backward (Points graph bit) = point_transfer backward bit.now

abbrev pub transfer_for : Frame → Transfer
transfer_for frame = transfer_of_asked frame.links.now.backward frame.asked

-- whether the bit is spoken of
abbrev pub is_asked : Asked → Bool
is_asked Paths = false
is_asked (Column problem column) = true
is_asked (Points graph bit) = true

abbrev pub effect_of : Asked → Effect
effect_of Paths = Reaches
effect_of (Column problem column) = Preserves
effect_of (Points graph bit) = Preserves

-- what is asked is of a program, in its direction
abbrev pub IsAskedOf : LinkedProgram → Asked → Type 0
IsAskedOf linked Paths = Unit {0}
IsAskedOf linked (Column problem column) = (linked ≡ direction_of problem.now) × (column < column_count problem.now)
IsAskedOf linked (Points graph bit) = graph.now ≡ linked.program

-- what its search leaves out
abbrev pub scope_of : Frame → Scope
scope_of frame = record {
  skipped = λ p. slice_index_or frame.scope.skipped.now p false;
  kept = λ p. slice_index_or frame.scope.kept.now p false;
}

-- the question of a frame
abbrev pub question_of : Frame → Question
question_of frame = record {
  shape = directed_shape frame.links.now;
  backward = frame.links.now.backward;
  points = point_count frame.links.now.program;
  transfer = transfer_for frame;
  value = is_asked frame.asked;
  base = frame.base.now;
  scope = scope_of frame;
}

-- the ends of a program's step in a direction
abbrev pub step_begin : Bool → ℕ → ℕ → ℕ
step_begin backward x y = if backward then y else x

abbrev pub step_end : Bool → ℕ → ℕ → ℕ
step_end backward x y = if backward then x else y

-- where the calls from a point return to
abbrev pub call_after : Bool → ℕ → ℕ
call_after backward x = after_site backward (call_site backward x)

-- what a frame is: edges, what is asked of them, where their paths lead, and procedures that keep the bit
pub record IsFrame (frame : Frame) : Type 0 where
  pub asked : IsAskedOf frame.links.now frame.asked
  pub few : point_count frame.links.now.program ≤ most_points Large
  pub numbered : IsNumbered (directed_shape frame.links.now) frame.links.now.backward (point_count frame.links.now.program)
  pub base : (c : Claim) → (marks_of frame.base.now c).points ≡ point_count frame.links.now.program
  pub flags : (x : ℕ) → BaseHas frame.base.now claim.Holds x → HasFlag (directed_shape frame.links.now) x
  pub reaches : (x : ℕ) → BaseHas frame.base.now claim.Generated x → Reached (directed_shape frame.links.now) x
  pub kept : (p : ℕ) → (scope_of frame).kept p ≡ true
      → Preserved (directed_shape frame.links.now) (transfer_for frame).kill ((directed_shape frame.links.now).exit p)

-- a frame asks for a column
pub record IsColumnFrame (frame : Frame) (form : Selection) (column : ℕ) : Type 0 where
  pub linked : frame.links.now ≡ direction_of form
  pub within : column < column_count form
  pub transfer : transfer_for frame ≡ column_transfer form column

-- a frame asks for a bit of one's own
pub record IsPointFrame (frame : Frame) (program : Program) (bit : StatementBit) : Type 0 where
  pub of : program ≡ frame.links.now.program
  pub transfer : transfer_for frame ≡ point_transfer frame.links.now.backward bit

-- all steps of the statement at a point generate the bit
abbrev pub GeneratesAt : Frame → ℕ → Type 0
GeneratesAt frame point = (x y : ℕ) → step_statement frame.links.now.backward x y ≡ point → (transfer_for frame).gen x y ≡ true
