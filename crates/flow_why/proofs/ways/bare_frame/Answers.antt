use Rattle.std.proofs.Common.{false, slice_index_or, refl}
use Rattle.flow_graph.specs.Points.{point_count}
use Rattle.flow_why.specs.code.Closed.{idle_transfer}
use Rattle.flow_links.specs.Shapes.{directed_shape}
use Rattle.flow_why.proofs.solutions.Frames.{bare_frame, sited}
use Rattle.flow_why.proofs.ways.bare_frame.Goals as goal

pub returns-clause-frame : goal.returns-clause-frame
returns-clause-frame c =
    bare_frame _ refl c.whole.ensures.kept
    (sited c.args.links.now c.points.ensures.few c.points.ensures.numbered) c.requires

pub returns-clause-question : goal.returns-clause-question
returns-clause-question c i = record {
  shape = directed_shape c.args.links.now;
  backward = c.args.links.now.backward;
  points = point_count c.args.links.now.program;
  transfer = idle_transfer;
  value = false;
  base = c.requires i;
  scope = record {
    skipped = λ p. slice_index_or (c.whole.ensures.skipped i) p false;
    kept = λ p. slice_index_or (c.whole.ensures.kept i) p false;
  };
}
