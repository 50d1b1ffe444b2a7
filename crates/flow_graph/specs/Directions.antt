-- What the direction of an analysis and its join say: the truth values in which the definitions speak of them.
use Rattle.std.specs.Prelude.{Bool, true, false}
use Rattle.flow_graph.specs.declared.analysis.Direction.{Direction}
use Rattle.flow_graph.specs.declared.analysis.Direction.TheVariants.{Forward, Backward}
use Rattle.flow_graph.specs.declared.analysis.Join.{Join}
use Rattle.flow_graph.specs.declared.analysis.Join.TheVariants.{Union, Intersection}

abbrev pub goes_backward : Direction → Bool
goes_backward Forward = false
goes_backward Backward = true

abbrev pub is_intersection : Join → Bool
is_intersection Union = false
is_intersection Intersection = true
