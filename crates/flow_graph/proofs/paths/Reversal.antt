-- Reversal
use Rattle.std.proofs.Common.{◌≡◌, ℕ, Bool, List, [], ◌∷◌, ◌++◌, map, length, Option, Some, None, option_and_then, Contains, ◌<◌, refl, sym, ap, ap₂}
use Rattle.std.proofs.Common.{append-nil, append_assoc, ◌∙◌, subst}
use Rattle.std.proofs.lemmas.List.{length-map, get_or-map}
use Rattle.flow_graph.specs.Paths.{Edge, Step, Call, Ret, source_of, target_of, Shape, Transfer, IsEdge, IsPath, sites_after_edge, open_sites_after}
use Rattle.flow_graph.specs.Paths.{IsValidPath, value_across, value_after, sites_before_edge, open_sites_before, HasPath, SomePathHas, EveryPathHas}
use Rattle.flow_graph.specs.Paths.{HasBackwardPath, SomeBackwardPathHas, EveryBackwardPathHas, IsBackwardValidPath, value_before}
use Rattle.flow_graph.specs.Reversals.{reversed_edge, reversed_path, reversed_shape, reversed_transfer}
use Rattle.flow_graph.specs.PathLaws.{ValidPathsReverse, ValuesReverse, MeetsReverse, ReversalUndoesItself, ReversedIsWellFormed}
use Rattle.flow_graph.proofs.paths.PathLemmas.{IsPath-append, open_sites_after-append, value_after-append}

reversed_edge-twice : (edge : Edge) → reversed_edge (reversed_edge edge) ≡ edge
reversed_edge-twice (Step x y) = refl
reversed_edge-twice (Call site x y) = refl
reversed_edge-twice (Ret site x y) = refl

pub edges-twice : (edges : List Edge) → map reversed_edge (map reversed_edge edges) ≡ edges
edges-twice [] = refl
edges-twice (edge ∷ edges) = ap₂ ◌∷◌ (reversed_edge-twice edge) (edges-twice edges)

pub reversed_shape-twice : (shape : Shape) → reversed_shape (reversed_shape shape) ≡ shape
reversed_shape-twice shape = ap (λ edges. record shape { edges = edges }) (edges-twice shape.edges)

pub Contains-map : {A B : Type 0} (f : A → B) (xs : List A) (x : A) → Contains xs x → Contains (map f xs) (f x)
Contains-map f xs x at =
    let in_range : at.0 < length (map f xs) = rw (length-map xs f) at.1 in
    (at.0, in_range, get_or-map f xs at.0 x (f x) at.1 ∙ ap f at.2)

pub edge_reversed : (shape : Shape) (edge : Edge) → IsEdge shape edge → IsEdge (reversed_shape shape) (reversed_edge edge)
edge_reversed shape edge is_edge = Contains-map reversed_edge shape.edges edge is_edge

pub edge_back : (shape : Shape) (edge : Edge) → IsEdge (reversed_shape shape) edge → IsEdge shape (reversed_edge edge)
edge_back shape edge is_edge =
    subst (λ (g : Shape). IsEdge g (reversed_edge edge)) (reversed_shape-twice shape) (edge_reversed (reversed_shape shape) edge is_edge)

reversed_path-append : (front back : List Edge) → reversed_path (front ++ back) ≡ reversed_path back ++ reversed_path front
reversed_path-append [] back = sym (append-nil (reversed_path back))
reversed_path-append (edge ∷ front) back =
    rw (reversed_path-append front back) (append_assoc (reversed_path back) (reversed_path front) (reversed_edge edge ∷ []))

pub reversed_path-twice : (path : List Edge) → reversed_path (reversed_path path) ≡ path
reversed_path-twice [] = refl
reversed_path-twice (edge ∷ path) =
    reversed_path-append (reversed_path path) (reversed_edge edge ∷ []) ∙ ap₂ ◌∷◌ (reversed_edge-twice edge) (reversed_path-twice path)

source_of-reversed : (edge : Edge) → source_of (reversed_edge edge) ≡ target_of edge
source_of-reversed (Step x y) = refl
source_of-reversed (Call site x y) = refl
source_of-reversed (Ret site x y) = refl

target_of-reversed : (edge : Edge) → target_of (reversed_edge edge) ≡ source_of edge
target_of-reversed (Step x y) = refl
target_of-reversed (Call site x y) = refl
target_of-reversed (Ret site x y) = refl

pub path_reversed : (shape : Shape) (path : List Edge) (x y : ℕ) → IsPath shape x path y → IsPath (reversed_shape shape) y (reversed_path path) x
path_reversed shape [] x y is_path = sym is_path
path_reversed shape (edge ∷ path) x y is_path =
    IsPath-append (reversed_shape shape) (reversed_path path) _ y (target_of edge) x
    (path_reversed shape path (target_of edge) y is_path.2)
    (edge_reversed shape edge is_path.0, source_of-reversed edge, target_of-reversed edge ∙ is_path.1)

pub path_back : (shape : Shape) (path : List Edge) (x y : ℕ) → IsPath (reversed_shape shape) x path y → IsPath shape y (reversed_path path) x
path_back shape path x y is_path =
    subst (λ (g : Shape). IsPath g y (reversed_path path) x) (reversed_shape-twice shape) (path_reversed (reversed_shape shape) path x y is_path)

sites_after_edge-reversed : (edge : Edge) (sites : List ℕ) → sites_after_edge (reversed_edge edge) sites ≡ sites_before_edge edge sites
sites_after_edge-reversed (Step x y) sites = refl
sites_after_edge-reversed (Call site x y) [] = refl
sites_after_edge-reversed (Call site x y) (latest ∷ sites) = refl
sites_after_edge-reversed (Ret site x y) sites = refl

pub open_sites_after-reversed : (path : List Edge) (sites : Option (List ℕ))
    → open_sites_after (reversed_path path) sites ≡ open_sites_before path sites
open_sites_after-reversed [] sites = refl
open_sites_after-reversed (edge ∷ path) sites =
    open_sites_after-append (reversed_path path) _ sites ∙ (rw (open_sites_after-reversed path sites) (go (open_sites_before path sites)))
  where
    go : (sites : Option (List ℕ)) → option_and_then (sites_after_edge (reversed_edge edge)) sites ≡ option_and_then (sites_before_edge edge) sites
    go None = refl
    go (Some list) = sites_after_edge-reversed edge list

value_across-reversed : (transfer : Transfer) (edge : Edge) (value : Bool)
    → value_across (reversed_transfer transfer) (reversed_edge edge) value ≡ value_across transfer edge value
value_across-reversed transfer (Step x y) value = refl
value_across-reversed transfer (Call site x y) value = refl
value_across-reversed transfer (Ret site x y) value = refl

pub value_after-reversed : (transfer : Transfer) (path : List Edge) (value : Bool)
    → value_after (reversed_transfer transfer) (reversed_path path) value ≡ value_before transfer path value
value_after-reversed transfer [] value = refl
value_after-reversed transfer (edge ∷ path) value =
    value_after-append (reversed_transfer transfer) (reversed_path path) _ value
    ∙ (value_across-reversed transfer edge _ ∙ ap (value_across transfer edge) (value_after-reversed transfer path value))

pub valid_reversed : (shape : Shape) (path : List Edge) (point : ℕ) → IsBackwardValidPath shape path point
    → IsValidPath (reversed_shape shape) (reversed_path path) point
valid_reversed shape path point valid = (path_reversed shape path point _ valid.0, rw (open_sites_after-reversed path (Some [])) valid.1)

pub valid_back : (shape : Shape) (path : List Edge) (point : ℕ) → IsValidPath (reversed_shape shape) path point
    → IsBackwardValidPath shape (reversed_path path) point
valid_back shape path point valid =
    (path_back shape path _ point valid.0, rw (← open_sites_after-reversed (reversed_path path) (Some []), reversed_path-twice path) valid.1)

pub valid_paths_reverse : ValidPathsReverse
valid_paths_reverse shape path point = (
  valid_reversed shape path point,
  (λ valid. rw (reversed_path-twice path) at (valid_back shape (reversed_path path) point valid)),
)

pub values_reverse : ValuesReverse
values_reverse transfer path value = sym (value_after-reversed transfer path value)

module _ (shape : Shape) (transfer : Transfer) (point : ℕ) where
  has_reversed : HasBackwardPath shape point → HasPath (reversed_shape shape) point
  has_reversed has = (reversed_path has.0, valid_reversed shape has.0 point has.1)

  has_back : HasPath (reversed_shape shape) point → HasBackwardPath shape point
  has_back has = (reversed_path has.0, valid_back shape has.0 point has.1)

  some_reversed : SomeBackwardPathHas shape transfer point → SomePathHas (reversed_shape shape) (reversed_transfer transfer) point
  some_reversed some =
      (reversed_path some.0, valid_reversed shape some.0 point some.1, value_after-reversed transfer some.0 transfer.boundary ∙ some.2)

  -- the value of a path of the reversed problem, walked backwards
  value_back : (path : List Edge)
      → value_before transfer (reversed_path path) transfer.boundary ≡ value_after (reversed_transfer transfer) path transfer.boundary
  value_back path = rw (← value_after-reversed transfer (reversed_path path) transfer.boundary, reversed_path-twice path)

  some_back : SomePathHas (reversed_shape shape) (reversed_transfer transfer) point → SomeBackwardPathHas shape transfer point
  some_back some = (reversed_path some.0, valid_back shape some.0 point some.1, value_back some.0 ∙ some.2)

  every_reversed : EveryBackwardPathHas shape transfer point → EveryPathHas (reversed_shape shape) (reversed_transfer transfer) point
  every_reversed every path valid = sym (value_back path) ∙ every (reversed_path path) (valid_back shape path point valid)

  every_back : EveryPathHas (reversed_shape shape) (reversed_transfer transfer) point → EveryBackwardPathHas shape transfer point
  every_back every path valid =
      sym (value_after-reversed transfer path transfer.boundary) ∙ every (reversed_path path) (valid_reversed shape path point valid)

pub meets_reverse : MeetsReverse
meets_reverse shape transfer point = (
  (has_reversed shape transfer point, has_back shape transfer point),
  (some_reversed shape transfer point, some_back shape transfer point),
  (every_reversed shape transfer point, every_back shape transfer point),
)

pub reversal_undoes_itself : ReversalUndoesItself
reversal_undoes_itself = (reversed_shape-twice, reversed_path-twice)

pub reversed_is_well_formed : ReversedIsWellFormed
reversed_is_well_formed shape well = record {
  root_in_range = well.root_in_range;
  entry_inside = well.exit_inside;
  exit_inside = well.entry_inside;
  step_inside = λ x y edge. sym (well.step_inside y x (edge_back shape (Step x y) edge));
  call_to_entry = λ site x y edge. well.return_from_exit site y x (edge_back shape (Call site x y) edge);
  return_from_exit = λ site x y edge. well.call_to_entry site y x (edge_back shape (Ret site x y) edge);
  site_inside =
      λ site x y u z call return. sym (well.site_inside site z u y x (edge_back shape (Ret site u z) return) (edge_back shape (Call site x y) call));
}
