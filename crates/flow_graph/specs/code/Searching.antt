-- How the search for points that lead to marked ones goes: backwards from these.
use Rattle.std.specs.Prelude.{ℕ, Bool, true, false, List, [], ◌∷◌, ◌++◌, flat_map, get_or, slice_set, nat_eq, if◌then◌else◌}
use Rattle.tac_program.specs.Programs.{Program}
use Rattle.flow_graph.specs.Edges.{edges_from}
use Rattle.flow_graph.specs.Paths.{Edge, target_of}
use Rattle.flow_graph.specs.Points.{points, point_count}
use Rattle.flow_graph.specs.code.NumberLists.{AreLists}

-- the source of each of some edges that leads to a point, where all of them leave one source
abbrev pub sources_among : List Edge → ℕ → ℕ → List ℕ
sources_among among source target = flat_map (λ edge. if nat_eq target (target_of edge) then source ∷ [] else []) among

-- the points from which an edge leads to a point
abbrev pub sources_of : Program → ℕ → List ℕ
sources_of program target = flat_map (λ source. sources_among (edges_from program source) source target) (points program)

abbrev pub AreSources : Program → List (List ℕ) → Type 0
AreSources program lists = AreLists lists (point_count program) (sources_of program)

-- Which points are known to lead to a marked one, and those of them whose sources have not been looked at.
pub record Search : Type 0 where
  pub known : List Bool
  pub work : List ℕ

abbrev pub search_of : List Bool → List ℕ → Search
search_of known work = record { known = known; work = work }

-- one point more is known; where it was not, it is put to the work
abbrev pub with_known : Search → ℕ → Search
with_known search point = record {
  known = slice_set search.known point true;
  work = if get_or search.known point false then search.work else search.work ++ point ∷ [];
}
