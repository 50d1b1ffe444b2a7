-- Marks by point, and the points that a search finds among marked ones.
use Rattle.std.specs.Prelude.{◌≡◌, ◌<◌, ℕ, Bool, true, false, List, [], ◌∷◌, Contains, length, slice_index_or, ◌||◌}
use Rattle.flow_graph.specs.Paths.{SomePathHas}
use Rattle.flow_links.specs.Shapes.{LinkedProgram, directed_shape}
use Rattle.flow_why.specs.PointBits.{StatementBit, point_transfer}
use Rattle.gen_kill.specs.Selections.{Selection, column_gens, column_kills}

-- so many marks, each what it is to be
pub record AreMarks (many : ℕ) (of : ℕ → Bool) (marks : List Bool) : Type 0 where
  pub count : length marks ≡ many
  pub each : (x : ℕ) → x < many → slice_index_or marks x false ≡ of x

-- whether a statement generates or kills a column
abbrev pub touches : Selection → ℕ → ℕ → Bool
touches form column x = column_gens form x column || column_kills form x column

-- the bit of a statement that is met before any that is marked
abbrev pub meeting_bit : List Bool → ℕ → StatementBit
meeting_bit stops q = record { gens = q ∷ []; kills = stops; boundary = false }

-- some valid path to a point comes from the statement, past none that is marked
abbrev pub Meets : LinkedProgram → List Bool → ℕ → ℕ → Type 0
Meets linked stops at q = SomePathHas (directed_shape linked) (point_transfer linked.backward (meeting_bit stops q)) at

-- a marked statement from which such a path comes
pub record IsMet (linked : LinkedProgram) (wanted stops : List Bool) (at q : ℕ) : Type 0 where
  pub below : q < length wanted
  pub marked : slice_index_or wanted q false ≡ true
  pub meets : Meets linked stops at q

-- all numbers of a kind below one, rising
pub record AreAllBelow (kind : ℕ → Type 0) (until : ℕ) (numbers : List ℕ) : Type 0 where
  pub rising : (i j : ℕ) → i < j → j < length numbers → slice_index_or numbers i 0 < slice_index_or numbers j 0
  pub below : (n : ℕ) → Contains numbers n → (n < until) × kind n
  pub all : (n : ℕ) → n < until → kind n → Contains numbers n
