-- Lines of JSON in which a path shows each variable that may be used before it is set: the hops of a witness of reaching definitions
-- (interprocedurally valid paths: Reps, Horwitz, Sagiv 1995). The bit is the variable's value at the beginning, its dummy definition, which
-- has the variable's number. Each other remark has what stands around it, and behind the remarks the doubts of assignments have a line each.
use Rattle.std.specs.Prelude.{◌≡◌, ℕ, Bool, true, false, List, [], ◌++◌, map, flat_map, Option, Contains, codes, decimal}
use Rattle.doubt_origins.specs.Origins.{AreOrigins}
use Rattle.flow_graph.specs.Analyses.{shape_of, transfer_of}
use Rattle.flow_graph.specs.declared.analysis.Analysis.TheVariants.{Reach}
use Rattle.flow_reports.specs.Reports.{IsKnowledge, Knowledge, remarks_at}
use Rattle.flow_reports.specs.declared.remark.Remark.{Remark}
use Rattle.flow_reports.specs.declared.remark.Remark.TheVariants.{NeverReached, Unset, Computed, VeryBusy, Dead}
use Rattle.flow_views.specs.Json.{array, end_line, json_with, remark_head}
use Rattle.flow_views.specs.Views.{shown_points}
use Rattle.flow_views.specs.declared.view.View.{View}
use Rattle.flow_why.specs.Witnesses.{IsWitness}
use Rattle.flow_why.specs.declared.hop.Hop.{Hop}
use Rattle.flow_why.specs.declared.hop.Hop.TheVariants as hop
use Rattle.json_texts.specs.Changes.{changes_with}
use Rattle.tac_program.specs.Programs.{Program}
use Rattle.flow_paths.specs.Doubts.{AreDoubts, doubt_line}
use Rattle.flow_paths.specs.Sets.{AreExact, Sets, set_fields}
use Rattle.flow_paths.specs.declared.doubts.Doubt.{Doubt}

-- a hop: a step, a call that is left open, or a call that is passed as a whole, to the point behind it
abbrev pub hop_object : Hop → List ℕ
hop_object (hop.Step x y) = codes "{\"kind\":\"step\",\"from\":" ++ decimal x ++ codes ",\"to\":" ++ decimal y ++ codes "}"
hop_object (hop.Enter site x y) =
    codes "{\"kind\":\"enter\",\"site\":" ++ decimal site ++ codes ",\"from\":" ++ decimal x ++ codes ",\"to\":" ++ decimal y ++ codes "}"
hop_object (hop.Pass site x callee z effect) =
    codes "{\"kind\":\"pass\",\"site\":" ++ decimal site ++ codes ",\"callee\":" ++ decimal callee
    ++ codes ",\"from\":" ++ decimal x ++ codes ",\"to\":" ++ decimal z ++ codes "}"

-- the field of a remark that a variable may be used before it is set, by the hops for each point and variable
abbrev pub path_field : (ℕ → ℕ → List Hop) → ℕ → Remark → List ℕ
path_field hops point (Unset variable) = codes ",\"path\":" ++ array (map hop_object (hops point variable))
path_field hops point NeverReached = []
path_field hops point (Computed bit) = []
path_field hops point (VeryBusy bit) = []
path_field hops point (Dead variable) = []

-- a remark with its path, or with its sets
abbrev pub remark_with_path : (ℕ → ℕ → List Hop) → Sets → Program → ℕ → Remark → List ℕ
remark_with_path hops sets program point remark =
    remark_head program point remark ++ path_field hops point remark ++ set_fields sets program point remark ++ codes "}\n"

-- the lines but for doubts and the last one: with sets, or with differences in their place
abbrev pub lines_with : (changes : Bool) → (ℕ → Option ℕ) → (Program → ℕ → Remark → List ℕ) → Program → Knowledge → View → List ℕ
lines_with false origins = json_with
lines_with true origins = changes_with origins

abbrev pub json_with_paths : (changes : Bool) → (ℕ → Option ℕ) → (ℕ → ℕ → List Hop) → Sets → List Doubt → Program → Knowledge → View → List ℕ
json_with_paths changes origins hops sets doubts program known view =
    lines_with changes origins (remark_with_path hops sets) program known view ++ flat_map (doubt_line program) doubts ++ end_line program view

-- For each such remark that is shown, the hops are a witness: some valid path brings the value at the beginning to the point, and each path
-- to which they unfold does.
abbrev pub AreWitnesses : Program → Knowledge → View → (ℕ → ℕ → List Hop) → Type 0
AreWitnesses program known view hops =
    (point variable : ℕ) → Contains (shown_points program view) point → Contains (remarks_at program known point) (Unset variable)
    → IsWitness (shape_of program) (transfer_of program Reach variable) point (hops point variable)

-- The text tells the meets over all valid paths, witnesses of what it says may be used before it is set, what stands around each other remark,
-- and where doubt comes from. Facts are sets, or what changes from point to point; in these lines each doubtful point has where its doubt comes
-- from, too.
pub record IsJsonWithPaths (changes : Bool) (program : Program) (view : View) (text : List ℕ) : Type 0 where
  pub known : Knowledge
  pub is_known : IsKnowledge program known
  pub origins : ℕ → Option ℕ
  pub are_origins : AreOrigins program origins
  pub hops : ℕ → ℕ → List Hop
  pub are_witnesses : AreWitnesses program known view hops
  pub sets : Sets
  pub are_exact : AreExact program known view sets
  pub doubts : List Doubt
  pub are_doubts : AreDoubts program known view doubts
  pub is_text : text ≡ json_with_paths changes origins hops sets doubts program known view
