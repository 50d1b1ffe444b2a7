-- The uses of variables that may not be set there, as data.
use Rattle.std.specs.Prelude.{ℕ, List, [], map, flat_map, Some, None, if◌then◌else◌}
use Rattle.std.specs.List.{range_with_len}
use Rattle.flow_graph.specs.Points.{kind_at}
use Rattle.tac_program.specs.Programs.{Program}
use Rattle.flow_reports.specs.Reports.{Knowledge, unset_at}
use Rattle.flow_reports.specs.declared.unset.UnsetUse.{UnsetUse}

-- uses of variables at a point
abbrev pub uses_of : ℕ → List ℕ → List UnsetUse
uses_of point variables = map (λ variable. record { point = point; variable = variable }) variables

-- the uses at a point of which a report says that the variable may not be set: there are none where no valid path leads
abbrev pub unset_uses_at : Program → Knowledge → ℕ → List UnsetUse
unset_uses_at program known point =
    elim (kind_at program point) [
      | Some statement ↦ if known.reach.has_path point then uses_of point (unset_at program known point) else []
      | None ↦ []
    ]

-- those at so many points from one on, in order
abbrev pub unset_uses : Program → Knowledge → ℕ → ℕ → List UnsetUse
unset_uses program known first count = flat_map (unset_uses_at program known) (range_with_len first count)
