-- Problems that agree in their edges and transfers
use Rattle.std.proofs.Common.{◌≡◌, ℕ, Bool, List, [], ◌∷◌, refl, sym, ap, ◌∙◌}
use Rattle.flow_graph.specs.Paths.{Edge, Step, Call, Ret, target_of, Shape, Transfer, IsEdge, IsPath, IsValidPath, value_across, value_after, HasPath}
use Rattle.flow_graph.specs.Paths.{SomePathHas, EveryPathHas, IsBackwardValidPath, value_before, HasBackwardPath, SomeBackwardPathHas}
use Rattle.flow_graph.specs.Paths.{EveryBackwardPathHas}
use Rattle.flow_graph.specs.WellFormed.{HasSameEdges, AgreesOnSteps}
use Rattle.flow_graph.specs.PathLaws.{SameEdgesSamePaths, SameEdgesSameBackwardPaths}

same_edges-sym : {first second : Shape} → HasSameEdges first second → HasSameEdges second first
same_edges-sym same = record {
  same_root = sym same.same_root;
  same_final = sym same.same_final;
  same_edges = λ edge. ((same.same_edges edge).1, (same.same_edges edge).0);
}

agrees-sym : {first second : Shape} {transfer other : Transfer} → HasSameEdges first second → AgreesOnSteps first transfer other
    → AgreesOnSteps second other transfer
agrees-sym same agrees = record {
  same_gen = λ x y edge. sym (agrees.same_gen x y ((same.same_edges (Step x y)).1 edge));
  same_kill = λ x y edge. sym (agrees.same_kill x y ((same.same_edges (Step x y)).1 edge));
  same_boundary = sym agrees.same_boundary;
}

path_same : {first second : Shape} → HasSameEdges first second → (path : List Edge) (x y : ℕ) → IsPath first x path y → IsPath second x path y
path_same same [] x y is_path = is_path
path_same same (edge ∷ path) x y is_path = ((same.same_edges edge).0 is_path.0, is_path.1, path_same same path (target_of edge) y is_path.2)

valid_same : {first second : Shape} → HasSameEdges first second → (path : List Edge) (x : ℕ) → IsValidPath first path x → IsValidPath second path x
valid_same {second} same path x valid = (rw (← same.same_root) (path_same same path _ x valid.0), valid.1)

backward_same : {first second : Shape} → HasSameEdges first second → (path : List Edge) (x : ℕ) → IsBackwardValidPath first path x
    → IsBackwardValidPath second path x
backward_same {second} same path x valid = (rw (← same.same_final) (path_same same path x _ valid.0), valid.1)

across_same : {shape : Shape} {transfer other : Transfer} → AgreesOnSteps shape transfer other → (edge : Edge) (value : Bool) → IsEdge shape edge
    → value_across transfer edge value ≡ value_across other edge value
across_same agrees (Step x y) value is_edge = rw (agrees.same_gen x y is_edge, agrees.same_kill x y is_edge)
across_same agrees (Call site x y) value is_edge = refl
across_same agrees (Ret site x y) value is_edge = refl

after_same : {shape : Shape} {transfer other : Transfer} → AgreesOnSteps shape transfer other → (path : List Edge) (x y : ℕ) (value : Bool)
    → IsPath shape x path y
    → value_after transfer path value ≡ value_after other path value
after_same agrees [] x y value is_path = refl
after_same {other} agrees (edge ∷ path) x y value is_path =
    after_same agrees path (target_of edge) y _ is_path.2 ∙ ap (value_after other path) (across_same agrees edge value is_path.0)

before_same : {shape : Shape} {transfer other : Transfer} → AgreesOnSteps shape transfer other → (path : List Edge) (x y : ℕ) (value : Bool)
    → IsPath shape x path y
    → value_before transfer path value ≡ value_before other path value
before_same agrees [] x y value is_path = refl
before_same {transfer} agrees (edge ∷ path) x y value is_path =
    ap (value_across transfer edge) (before_same agrees path (target_of edge) y value is_path.2) ∙ across_same agrees edge _ is_path.0

-- the value that both have, each from its own boundary
after_boundary : {shape : Shape} {transfer other : Transfer} → AgreesOnSteps shape transfer other → (path : List Edge) (x y : ℕ)
    → IsPath shape x path y
    → value_after transfer path transfer.boundary ≡ value_after other path other.boundary
after_boundary {other} agrees path x y is_path = after_same agrees path x y _ is_path ∙ ap (value_after other path) agrees.same_boundary

before_boundary : {shape : Shape} {transfer other : Transfer} → AgreesOnSteps shape transfer other → (path : List Edge) (x y : ℕ)
    → IsPath shape x path y
    → value_before transfer path transfer.boundary ≡ value_before other path other.boundary
before_boundary {other} agrees path x y is_path = before_same agrees path x y _ is_path ∙ ap (value_before other path) agrees.same_boundary

module _ (first second : Shape) (transfer other : Transfer) (point : ℕ) (same : HasSameEdges first second)
    (agrees : AgreesOnSteps first transfer other) where
  has_same : HasPath first point → HasPath second point
  has_same has = (has.0, valid_same same has.0 point has.1)

  some_same : SomePathHas first transfer point → SomePathHas second other point
  some_same some = (some.0, valid_same same some.0 point some.1, sym (after_boundary agrees some.0 _ point some.1.0) ∙ some.2)

  every_same : EveryPathHas first transfer point → EveryPathHas second other point
  every_same every path valid =
      let there = valid_same (same_edges-sym same) path point valid in
      sym (after_boundary agrees path _ point there.0) ∙ every path there

  has_same_backward : HasBackwardPath first point → HasBackwardPath second point
  has_same_backward has = (has.0, backward_same same has.0 point has.1)

  some_same_backward : SomeBackwardPathHas first transfer point → SomeBackwardPathHas second other point
  some_same_backward some = (some.0, backward_same same some.0 point some.1, sym (before_boundary agrees some.0 point _ some.1.0) ∙ some.2)

  every_same_backward : EveryBackwardPathHas first transfer point → EveryBackwardPathHas second other point
  every_same_backward every path valid =
      let there = backward_same (same_edges-sym same) path point valid in
      sym (before_boundary agrees path point _ there.0) ∙ every path there

pub same_edges_same_paths : SameEdgesSamePaths
same_edges_same_paths first second transfer other point same agrees =
    let back = same_edges-sym same in
    let back_agrees = agrees-sym same agrees in (
      (has_same first second transfer other point same agrees, has_same second first other transfer point back back_agrees),
      (some_same first second transfer other point same agrees, some_same second first other transfer point back back_agrees),
      (every_same first second transfer other point same agrees, every_same second first other transfer point back back_agrees),
    )

pub same_edges_same_backward_paths : SameEdgesSameBackwardPaths
same_edges_same_backward_paths first second transfer other point same agrees =
    let back = same_edges-sym same in
    let back_agrees = agrees-sym same agrees in (
      (has_same_backward first second transfer other point same agrees, has_same_backward second first other transfer point back back_agrees),
      (some_same_backward first second transfer other point same agrees, some_same_backward second first other transfer point back back_agrees),
      (every_same_backward first second transfer other point same agrees, every_same_backward second first other transfer point back back_agrees),
    )
