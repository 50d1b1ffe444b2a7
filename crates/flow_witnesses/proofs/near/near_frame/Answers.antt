use Rattle.std.proofs.Common.{◌≡◌, Bool, List, true, false, slice_index_or, refl, sym, subst}
use Rattle.flow_graph.specs.Points.{point_count}
use Rattle.flow_links.specs.Shapes.{LinkedProgram, directed_shape}
use Rattle.summary_equations.specs.Equations.{Preserved}
use Rattle.flow_why.specs.Directed.{direction_of}
use Rattle.flow_why.specs.code.Closed.{IsScope, Scope}
use Rattle.flow_why.proofs.solutions.Frames.{asked_frame, ground_in}
use Rattle.gen_kill.specs.Selections.{column_transfer}
use Rattle.flow_witnesses.proofs.near.near_frame.Goals as goal

pub returns-clause-frame : goal.returns-clause-frame
returns-clause-frame c =
    asked_frame c.args.ways.now _ c.links.ensures.ways c.links.ensures.links c.search.ensures
    (subst (λ (l : LinkedProgram). l ≡ direction_of c.args.problem.now) (sym c.links.ensures.links) c.requires.over.linked, c.requires.over.column) refl
    (λ p known. subst (λ (l : LinkedProgram). Preserved (directed_shape l) (column_transfer c.args.problem.now c.args.column).kill ((directed_shape l).exit p))
    (sym c.links.ensures.links)
    (c.requires.left.kept p (subst (λ (m : List Bool). slice_index_or m p false ≡ true) c.scope.ensures.kept known)))

pub returns-clause-ground : goal.returns-clause-ground
returns-clause-ground c = ground_in c.args.ways.now _ _ c.links.ensures.ways c.links.ensures.links c.search.ensures

pub returns-clause-scope : goal.returns-clause-scope
returns-clause-scope c =
    let here : Scope = record {
      skipped = λ p. slice_index_or c.scope.result.skipped.now p false;
      kept = λ p. slice_index_or c.scope.result.kept.now p false;
    } in
    subst (λ (l : LinkedProgram). IsScope (directed_shape l) here) (sym c.links.ensures.links)
    (subst (λ (m : List Bool). IsScope (directed_shape c.args.ways.now.linked)
    (record { skipped = λ p. slice_index_or m p false; kept = λ p. slice_index_or c.scope.result.kept.now p false }))
    (sym c.scope.ensures.skipped) c.requires.left.scope)

pub returns-clause-question : goal.returns-clause-question
returns-clause-question c i = record {
  shape = directed_shape (c.links.ensures.links i);
  backward = (c.links.ensures.links i).backward;
  points = point_count (c.links.ensures.links i).program;
  transfer = column_transfer c.args.problem.now c.args.column;
  value = true;
  base = c.search.ensures i;
  scope = record {
    skipped = λ p. slice_index_or (c.scope.ensures.skipped i) p false;
    kept = λ p. slice_index_or (c.scope.ensures.kept i) p false;
  };
}
