-- The analyses of a direction, and what solves them.
use Rattle.std.specs.Prelude.{◌≡◌, ℕ, Bool, List, Some, slice_get}
use Rattle.std.specs.List.{filter}
use Rattle.flow_graph.specs.AnalysisNumbers.{goes}
use Rattle.gen_kill.specs.Selections.{Selection, all_bits}
use Rattle.flow_graph.specs.declared.analysis.Analysis.{Analysis}
use Rattle.flow_graph.specs.declared.analysis.TheConstants.Analysis as all
use Rattle.flow_links.specs.Shapes.{LinkedProgram}
use Rattle.tac_program.specs.Programs.{Program}

-- the bits of an analysis of a program that are solved: all
abbrev pub selection_of : Program → Analysis → Selection
selection_of program analysis = all_bits program analysis

-- the analyses that go one way, in the order of their numbers
abbrev pub analyses_of : Bool → List Analysis
analyses_of backward = filter (goes backward) all.ALL

-- There is a solver for each analysis of the direction.
abbrev pub AreSolversOf : LinkedProgram → List Selection → Type 0
AreSolversOf linked solvers = (k : ℕ) (analysis : Analysis) → slice_get (analyses_of linked.backward) k ≡ Some analysis
    → slice_get solvers k ≡ Some (selection_of linked.program analysis)
