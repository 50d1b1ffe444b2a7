-- The text of a part of lines of JSON without facts.
use Rattle.std.specs.Prelude.{◌≡◌, ℕ, ◌==◌, false, List, [], ◌++◌, flat_map, if◌then◌else◌, codes, decimal}
use Rattle.flow_graph.specs.Points.{point_count, points}
use Rattle.flow_parts.specs.Parts.{part_remarks}
use Rattle.flow_reports.specs.Reports.{IsKnowledge, Knowledge}
use Rattle.flow_reports.specs.declared.listed.PlacedRemark.{PlacedRemark}
use Rattle.flow_views.specs.Json.{point_line, program_line, remark_object}
use Rattle.flow_views.specs.declared.view.Chosen.{Chosen}
use Rattle.tac_program.specs.Programs.{Program}

-- the analyses whose facts stand in a part
abbrev pub no_facts : Chosen
no_facts = record { reach = false; live = false; avail = false; busy = false }

-- `{"type":"part","version":1,"part":K,"parts":N,"digest":"DIGEST"}`
abbrev pub heading_object : (digest : List ℕ) (count part : ℕ) → List ℕ
heading_object digest count part =
    codes "{\"type\":\"part\",\"version\":1,\"part\":" ++ decimal part ++ codes ",\"parts\":" ++ decimal count
    ++ codes ",\"digest\":\"" ++ digest ++ codes "\"}\n"

-- `{"type":"end-part","part":K}`: where it lacks, the text was cut short
abbrev pub last_object : ℕ → List ℕ
last_object part = codes "{\"type\":\"end-part\",\"part\":" ++ decimal part ++ codes "}\n"

-- What part 1 alone has: the lines of points, and the line that ends them all.
abbrev pub point_lines : Program → Knowledge → List ℕ
point_lines program known = flat_map (point_line program known no_facts) (points program)

abbrev pub count_object : Program → List ℕ
count_object program = codes "{\"type\":\"end\",\"points\":" ++ decimal (point_count program) ++ codes "}\n"

abbrev pub in_first : (part : ℕ) → List ℕ → List ℕ
in_first part lines = if part == 1 then lines else []

abbrev pub remark_objects : Program → List PlacedRemark → List ℕ
remark_objects program remarks = flat_map (λ placed. remark_object program placed.point placed.remark) remarks

-- The text of a part: its first line, the line of the program, in part 1 those of the points, those of its remarks, in part 1 the one that ends
-- them all, and its last line.
abbrev pub json_part_of : (digest : List ℕ) → Program → Knowledge → (count part : ℕ) → List ℕ
json_part_of digest program known count part =
    heading_object digest count part ++ program_line program ++ in_first part (point_lines program known)
    ++ remark_objects program (part_remarks program known count part) ++ in_first part (count_object program) ++ last_object part

-- The text is that part of the lines over the meets over all valid paths.
pub record IsJsonPart (program : Program) (digest : List ℕ) (count part : ℕ) (text : List ℕ) : Type 0 where
  pub known : Knowledge
  pub is_known : IsKnowledge program known
  pub is_text : text ≡ json_part_of digest program known count part
