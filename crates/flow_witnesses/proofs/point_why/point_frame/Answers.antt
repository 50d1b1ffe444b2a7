use Rattle.std.proofs.Common.{◌∙◌, true, false, slice_index_or, ap, refl, sym}
use Rattle.flow_why.specs.PointBits.{point_transfer}
use Rattle.flow_graph.specs.Points.{point_count}
use Rattle.flow_links.specs.Shapes.{LinkedProgram, directed_shape}
use Rattle.flow_why.proofs.solutions.Frames.{goes_everywhere, ground_in, none_skipped, whole_frame}
use Rattle.flow_witnesses.proofs.point_why.point_frame.Goals as goal

pub returns-clause-frame : goal.returns-clause-frame
returns-clause-frame c =
    whole_frame c.args.ways.now _ c.links.ensures.ways c.links.ensures.links c.search.ensures
    (c.requires ∙ ap (λ (l : LinkedProgram). l.program) (sym c.links.ensures.links)) refl c.whole.ensures.kept

pub returns-clause-ground : goal.returns-clause-ground
returns-clause-ground c = ground_in c.args.ways.now _ _ c.links.ensures.ways c.links.ensures.links c.search.ensures

pub returns-clause-scope : goal.returns-clause-scope
returns-clause-scope c =
    goes_everywhere (directed_shape c.links.result.now) c.whole.result.skipped.now c.whole.result.kept.now c.whole.ensures.skipped

pub returns-clause-into : goal.returns-clause-into
returns-clause-into c = none_skipped c.whole.result.skipped.now c.whole.ensures.skipped

pub returns-clause-question : goal.returns-clause-question
returns-clause-question c i = record {
  shape = directed_shape (c.links.ensures.links i);
  backward = (c.links.ensures.links i).backward;
  points = point_count (c.links.ensures.links i).program;
  transfer = point_transfer (c.links.ensures.links i).backward c.args.bit.now;
  value = true;
  base = c.search.ensures i;
  scope = record {
    skipped = λ p. slice_index_or (c.whole.ensures.skipped i) p false;
    kept = λ p. slice_index_or (c.whole.ensures.kept i) p false;
  };
}
