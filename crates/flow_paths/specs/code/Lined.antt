-- Lines with paths by the first one and all behind it.
use Rattle.std.specs.Prelude.{ℕ, Bool, true, false, List, ◌++◌, flat_map, Option}
use Rattle.flow_reports.specs.Reports.{Knowledge}
use Rattle.flow_reports.specs.declared.remark.Remark.{Remark}
use Rattle.flow_views.specs.Json.{end_line, program_line}
use Rattle.flow_views.specs.declared.view.View.{View}
use Rattle.flow_why.specs.declared.hop.Hop.{Hop}
use Rattle.json_texts.specs.Changes.{named_program_line}
use Rattle.json_texts.specs.code.Lined.{differences_with, sets_with}
use Rattle.tac_program.specs.Programs.{Program}
use Rattle.flow_paths.specs.Doubts.{doubt_line}
use Rattle.flow_paths.specs.Paths.{remark_with_path}
use Rattle.flow_paths.specs.Sets.{Sets}
use Rattle.flow_paths.specs.declared.doubts.Doubt.{Doubt}

-- the first line, with names of bits or without
abbrev pub first_line : (changes : Bool) → Program → List ℕ
first_line false = program_line
first_line true = named_program_line

-- the points and the remarks
abbrev pub rest_with : (changes : Bool) → (ℕ → Option ℕ) → (Program → ℕ → Remark → List ℕ) → Program → Knowledge → View → List ℕ
rest_with false origins = sets_with
rest_with true origins = differences_with origins

-- all lines but the first
abbrev pub path_lines : (changes : Bool) → (ℕ → Option ℕ) → (ℕ → ℕ → List Hop) → Sets → List Doubt → Program → Knowledge → View → List ℕ
path_lines changes origins hops sets doubts program known view =
    rest_with changes origins (remark_with_path hops sets) program known view ++ flat_map (doubt_line program) doubts ++ end_line program view
