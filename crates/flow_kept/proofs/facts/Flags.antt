-- Flags of points as numbers tell what the flags tell.
use Rattle.std.proofs.Common.{◌≡◌, ◌↔◌, ◌∙◌, ℕ, ◌+◌, ◌-◌, ◌<◌, Bool, true, false, List, length, arith}
use Rattle.std.specs.Prelude.{slice_index_or}
use Rattle.flow_graph.specs.Analyses.{HasPathAt, is_backward}
use Rattle.flow_graph.specs.Points.{point_count}
use Rattle.flow_graph.specs.declared.analysis.Analysis.{Analysis}
use Rattle.flow_graph.proofs.graphs.GraphLaws.{may_forms_are_well_formed}
use Rattle.flow_graph.proofs.graphs.MayForms.{flags_are_may_forms}
use Rattle.flow_links.specs.Shapes.{LinkedProgram, directed_shape}
use Rattle.gen_kill.specs.Selections.{Selection, all_bits}
use Rattle.gk_solve.specs.Tables.Flags.{ArePathFlags}
use Rattle.gk_solve.proofs.words.SolvedWords.{flags_tell}
use Rattle.tac_program.specs.Programs.{Program}
use Rattle.tac_program.specs.Sound.{IsSound}
use Rattle.flow_kept.specs.Facts.{AreFlagsOf}
use Rattle.flow_kept.specs.code.Flags.{AreNumbers}
use Rattle.flow_kept.proofs.facts.Told.{below_two, one_where}

pub flags_told : (Holds : ℕ → Type 0) (values : List Bool) (from until : ℕ) (old flags : List ℕ) → length old ≡ until - from
    → AreNumbers values from old flags
    → ((point : ℕ) → point < until → (slice_index_or values point false ≡ true) ↔ Holds point)
    → AreFlagsOf Holds from until flags
flags_told Holds values from until old flags room numbers tell = record {
  count = numbers.count ∙ room;
  flag = λ row there. below_two _ _ (numbers.each row (omega (arith, there, room)));
  told = λ row there. one_where (Holds (from + row)) _ _ (numbers.each row (omega (arith, there, room))) (tell (from + row) (omega (arith, there)));
}

-- the flags of routes tell where the program has valid paths
pub paths_tell : (program : Program) (analysis : Analysis) (routes : LinkedProgram) (values : List Bool) → IsSound program
    → routes ≡ record { program = program; backward = is_backward analysis }
    → ArePathFlags (directed_shape routes) (point_count routes.program) values
    → (point : ℕ) → point < point_count program → (slice_index_or values point false ≡ true) ↔ HasPathAt program analysis point
paths_tell program analysis routes values sound is are point below =
    let form : Selection = all_bits program analysis in
    let tells = flags_tell form routes is (may_forms_are_well_formed program analysis sound) values are in
    let law = flags_are_may_forms program analysis point in
    let here = tells.flag point below in
    ((λ has. law.1 (here.0 has)), (λ path. here.1 (law.0 path)))
