-- The problem in the other direction, and over the bits that are not there.
use Rattle.std.specs.Prelude.{List, [], ◌∷◌, ◌++◌, map, not, ◌&&◌}
use Rattle.flow_graph.specs.Paths.{Edge, Step, Call, Ret, Shape, Transfer}

-- An edge reversed: a return becomes a call, a call a return.
abbrev pub reversed_edge : Edge → Edge
reversed_edge (Step source target) = Step target source
reversed_edge (Call site source target) = Ret site target source
reversed_edge (Ret site source target) = Call site target source

-- its edges reversed, in the opposite order
abbrev pub reversed_path : List Edge → List Edge
reversed_path [] = []
reversed_path (edge ∷ path) = reversed_path path ++ reversed_edge edge ∷ []

-- the shape of the reversed problem: each edge reversed, entries and exits exchanged
abbrev pub reversed_shape : Shape → Shape
reversed_shape shape = record shape { entry = shape.exit; exit = shape.entry; edges = map reversed_edge shape.edges }

-- the transfer of the reversed problem: a step has the gen and kill of the step that it reverses
abbrev pub reversed_transfer : Transfer → Transfer
reversed_transfer transfer = record transfer { gen = λ x y. transfer.gen y x; kill = λ x y. transfer.kill y x }

-- the transfer of the complemented problem: gen becomes kill minus gen, kill becomes gen, the boundary its opposite
abbrev pub complemented_transfer : Transfer → Transfer
complemented_transfer transfer = record {
  gen = λ x y. transfer.kill x y && not (transfer.gen x y);
  kill = transfer.gen;
  boundary = not transfer.boundary;
}
