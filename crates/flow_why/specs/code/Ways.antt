-- What ways are, and what a search for a bit stands on.
use Rattle.std.specs.Prelude.{◌≡◌, ◌<◌, ◌≤◌, ℕ, true}
use Rattle.flow_graph.specs.Paths.{Transfer}
use Rattle.flow_graph.specs.Points.{point_count}
use Rattle.flow_links.specs.Shapes.{IsNumbered, LinkedProgram, directed_shape}
use Rattle.tac_program.specs.Programs.{Program}
use Rattle.gen_kill.specs.Selections.{Selection, column_count, column_transfer}
use Rattle.flow_why.specs.Directed.{direction_of}
use Rattle.flow_why.specs.PointBits.{StatementBit, point_transfer}
use Rattle.flow_why.specs.code.Closed.{IsGround, IsScope, whole_scope}
use Rattle.flow_why.specs.code.Found.{Found, nothing_found}
use Rattle.flow_why.specs.code.Frames.{question_of}
use Rattle.flow_why.specs.code.Marked.{AreMarks, BaseHas, Question}
use Rattle.flow_why.specs.code.Trails.{IsAskedFrame, base_question}
use Rattle.flow_why.specs.code.Visits.{IsComplete}
use Rattle.flow_why.specs.declared.frame.Frame.{Frame}
use Rattle.tac_program.specs.Limits.{most_points}
use Rattle.tac_program.specs.declared.limits.Limits.TheVariants.{Large}

-- a program in a direction, and what was found of where its paths lead
pub record KnownWays : Type 0 where
  pub linked : LinkedProgram
  pub found : Found

-- nothing is found at the points of a program
abbrev pub IsBare : LinkedProgram → Found → Type 0
IsBare linked found = found ≡ nothing_found (point_count linked.program)

-- there are few points, and the edges are numbered
pub record IsSited (linked : LinkedProgram) : Type 0 where
  pub few : point_count linked.program ≤ most_points Large
  pub numbered : IsNumbered (directed_shape linked) linked.backward (point_count linked.program)

-- all is found of where paths lead
pub record AreWays (ways : KnownWays) : Type 0 where
  pub sited : IsSited ways.linked
  pub marks : AreMarks (base_question ways.linked) ways.found
  pub ground : IsGround (directed_shape ways.linked) (BaseHas ways.found)

-- a bit of a problem
pub record AskedBit : Type 0 where
  pub form : Selection
  pub column : ℕ

-- the question of a transfer, over ways
abbrev pub ways_question : KnownWays → Transfer → Question
ways_question ways transfer = record {
  shape = directed_shape ways.linked;
  backward = ways.linked.backward;
  points = point_count ways.linked.program;
  transfer = transfer;
  value = true;
  base = ways.found;
  scope = whole_scope;
}

-- the question of a bit
abbrev pub bit_question : KnownWays → AskedBit → Question
bit_question ways asked = ways_question ways (column_transfer asked.form asked.column)

-- the question of a bit of one's own
abbrev pub point_question : KnownWays → StatementBit → Question
point_question ways bit = ways_question ways (point_transfer ways.linked.backward bit)

-- a bit that is there, of a problem in the direction of the ways
pub record IsOver (ways : KnownWays) (asked : AskedBit) : Type 0 where
  pub linked : ways.linked ≡ direction_of asked.form
  pub column : asked.column < column_count asked.form

-- all is found of a bit
pub record IsAnswered (ways : KnownWays) (asked : AskedBit) (found : Found) : Type 0 where
  pub over : IsOver ways asked
  pub marks : AreMarks (bit_question ways asked) found
  pub complete : IsComplete (bit_question ways asked) found

-- all is found of a bit of one's own, of a graph of the ways' program
pub record IsPointAnswered (ways : KnownWays) (program : Program) (bit : StatementBit) (found : Found) : Type 0 where
  pub of : program ≡ ways.linked.program
  pub marks : AreMarks (point_question ways bit) found
  pub complete : IsComplete (point_question ways bit) found

-- all is found of what a frame asks, as far as its scope goes
pub record IsAnsweredIn (frame : Frame) (found : Found) : Type 0 where
  pub asked : IsAskedFrame frame
  pub ground : IsGround (directed_shape frame.links.now) (BaseHas frame.base.now)
  pub scope : IsScope (directed_shape frame.links.now) (question_of frame).scope
  pub marks : AreMarks (question_of frame) found
  pub complete : IsComplete (question_of frame) found
