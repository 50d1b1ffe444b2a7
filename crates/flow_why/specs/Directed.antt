-- The program of a problem, in the direction in which it is solved.
use Rattle.flow_graph.specs.Analyses.{is_backward}
use Rattle.flow_links.specs.Shapes.{LinkedProgram}
use Rattle.gen_kill.specs.Selections.{Selection}

abbrev pub direction_of : Selection → LinkedProgram
direction_of form = record { program = form.program; backward = is_backward form.analysis }
