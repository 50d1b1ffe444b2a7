-- Lines with paths are the first one and all behind it
use Rattle.std.proofs.Common.{◌≡◌, ◌∙◌, ℕ, Bool, true, false, List, ◌++◌, flat_map, Option, sym, ap, append_assoc}
use Rattle.flow_reports.specs.Reports.{Knowledge}
use Rattle.flow_views.specs.Json.{end_line, point_line, program_line}
use Rattle.flow_views.specs.Views.{shown_points}
use Rattle.flow_views.specs.declared.view.View.{View}
use Rattle.flow_why.specs.declared.hop.Hop.{Hop}
use Rattle.json_texts.specs.Changes.{changed_point_line, named_program_line}
use Rattle.json_texts.specs.code.Lined.{remarks_with}
use Rattle.json_texts.proofs.told.Lined.{regrouped}
use Rattle.tac_program.specs.Programs.{Program}
use Rattle.flow_paths.specs.Doubts.{doubt_line}
use Rattle.flow_paths.specs.Paths.{json_with_paths, remark_with_path}
use Rattle.flow_paths.specs.Sets.{Sets}
use Rattle.flow_paths.specs.code.Lined.{first_line, path_lines}
use Rattle.flow_paths.specs.declared.doubts.Doubt.{Doubt}

regrouped_more : (a b c d e : List ℕ) → a ++ (b ++ c ++ d ++ e) ≡ a ++ b ++ c ++ d ++ e
regrouped_more a b c d e = sym (append_assoc a (b ++ c ++ d) e) ∙ ap (λ (t : List ℕ). t ++ e) (regrouped a b c d)

pub lined_is : (changes : Bool) (origins : ℕ → Option ℕ) (hops : ℕ → ℕ → List Hop) (sets : Sets) (doubts : List Doubt) (program : Program)
    (known : Knowledge) (view : View)
    → first_line changes program ++ path_lines changes origins hops sets doubts program known view
    ≡ json_with_paths changes origins hops sets doubts program known view
lined_is false origins hops sets doubts program known view =
    regrouped_more (program_line program) (flat_map (point_line program known view.facts) (shown_points program view))
    (remarks_with (remark_with_path hops sets) program known view) (flat_map (doubt_line program) doubts) (end_line program view)
lined_is true origins hops sets doubts program known view =
    regrouped_more (named_program_line program) (flat_map (changed_point_line origins program known view.facts) (shown_points program view))
    (remarks_with (remark_with_path hops sets) program known view) (flat_map (doubt_line program) doubts) (end_line program view)
