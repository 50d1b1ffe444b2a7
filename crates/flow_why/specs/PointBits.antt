-- A bit of one's own: which statements generate it and which kill it, by the points of the statements.
use Rattle.std.specs.Prelude.{ℕ, Bool, false, List, nat_eq, slice_index_or, if◌then◌else◌}
use Rattle.std.specs.List.{list_any}
use Rattle.flow_graph.specs.Paths.{Transfer}
use Rattle.flow_links.specs.Shapes.{LinkedProgram}

-- the points whose statements generate the bit, by point whether the statement there kills it, and whether the boundary has it
pub record StatementBit : Type 0 where
  pub gens : List ℕ
  pub kills : List Bool
  pub boundary : Bool

-- the point of a step's statement: its beginning in a program's own direction, its end where it is reversed
abbrev pub step_statement : Bool → ℕ → ℕ → ℕ
step_statement backward x y = if backward then y else x

-- The bit's transfer over the edges of a program, or over the reversed ones: a step generates the bit, or kills it, where its statement
-- does. What is killed and generated is there: gen union (X minus kill) (Aho, Lam, Sethi, Ullman, 2nd edition, 9.2).
abbrev pub point_transfer : Bool → StatementBit → Transfer
point_transfer backward bit = record {
  gen = λ x y. list_any (nat_eq (step_statement backward x y)) bit.gens;
  kill = λ x y. slice_index_or bit.kills (step_statement backward x y) false;
  boundary = bit.boundary;
}

-- a bit of one's own, over a program in a direction
pub record AskedPoints : Type 0 where
  pub linked : LinkedProgram
  pub bit : StatementBit

abbrev pub asked_transfer : AskedPoints → Transfer
asked_transfer asked = point_transfer asked.linked.backward asked.bit
