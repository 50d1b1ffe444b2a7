-- The tables of links.
use Rattle.std.specs.Prelude.{◌≡◌, ℕ, ◌<◌, ◌≤◌, Bool, List, length, slice_index}
use Rattle.flow_graph.specs.Analyses.{is_backward}
use Rattle.flow_graph.specs.Problems.{may_shape, MayForm}
use Rattle.flow_graph.specs.Limits.{HasFewPoints}
use Rattle.tac_program.specs.declared.limits.Limits.TheVariants.{Large}
use Rattle.flow_graph.specs.Paths.{Shape}
use Rattle.flow_graph.specs.Points.{point_count}
use Rattle.flow_links.specs.Shapes.{IsNumbered}
use Rattle.flow_links.specs.Tables.EdgeLists.{AreListed, key_of, step_target, call_source, call_link, site_link}
use Rattle.flow_links.specs.declared.link.CallLink.{CallLink}
use Rattle.flow_links.specs.declared.link.SiteLink.{SiteLink}
use Rattle.flow_links.specs.declared.list_kind.ListKind.TheVariants.{Steps, Calls, Callers, Sites}
use Rattle.tac_program.specs.Limits.{most_procedures}

-- so many numbers, each the one that its index stands for
pub record AreEach (items : List ℕ) (many : ℕ) (of : ℕ → ℕ) : Type 0 where
  pub count : length items ≡ many
  pub each : (index : ℕ) → index < many → slice_index items index ≡ of index

-- the shape of a form's may problem, and how many points it has
abbrev pub shape_of_form : MayForm → Shape
shape_of_form form = may_shape form.program form.analysis

-- what the tables of all kinds say of a form
pub record AreTables (form : MayForm) (backward : Bool) (root : ℕ) (entries exits procedures step_starts steps call_starts : List ℕ)
    (calls : List CallLink)
    (caller_starts callers site_starts : List ℕ) (sites : List SiteLink) (order call_order : List ℕ) : Type 0 where
  pub same_direction : backward ≡ is_backward form.analysis
  pub few : HasFewPoints Large form.program
  pub numbered : IsNumbered (shape_of_form form) (is_backward form.analysis) (point_count form.program)
  pub few_procedures : (shape_of_form form).procedures ≤ most_procedures Large
  pub root_is : root ≡ (shape_of_form form).root_procedure
  pub entries_are : AreEach entries (shape_of_form form).procedures (shape_of_form form).entry
  pub exits_are : AreEach exits (shape_of_form form).procedures (shape_of_form form).exit
  pub procedures_are : AreEach procedures (point_count form.program) (shape_of_form form).procedure_of
  pub steps_are : AreListed (shape_of_form form).edges (key_of Steps (shape_of_form form) (point_count form.program)) step_target
      (point_count form.program) step_starts steps
  pub calls_are : AreListed (shape_of_form form).edges (key_of Calls (shape_of_form form) (point_count form.program))
      (call_link (shape_of_form form) (is_backward form.analysis)) (point_count form.program) call_starts calls
  pub callers_are : AreListed (shape_of_form form).edges (key_of Callers (shape_of_form form) (point_count form.program)) call_source
      (point_count form.program) caller_starts callers
  pub sites_are : AreListed (shape_of_form form).edges (key_of Sites (shape_of_form form) (point_count form.program)) (site_link (shape_of_form form))
      (shape_of_form form).procedures site_starts sites
  pub points_ordered : length order ≡ point_count form.program
  pub procedures_ordered : length call_order ≡ (shape_of_form form).procedures
