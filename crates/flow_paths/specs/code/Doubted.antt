-- What the code keeps of doubtful points and of what is shown.
use Rattle.std.specs.Prelude.{◌≡◌, ℕ, ◌&&◌, Bool, false, List, [], ◌∷◌, Option, Some, None, get_or, nat_le, nat_lt}
use Rattle.flow_reports.specs.Reports.{Knowledge}
use Rattle.flow_reports.specs.declared.findings.Findings.{Findings}
use Rattle.flow_reports.specs.declared.listed.PlacedRemark.{PlacedRemark}
use Rattle.flow_paths.specs.declared.shown.Shown.{Shown}

-- what is known, with other points doubtful
abbrev pub with_doubt : Knowledge → List Bool → Knowledge
with_doubt known doubtful = record {
  reach = known.reach;
  live = known.live;
  avail = known.avail;
  busy = known.busy;
  doubtful = λ point. get_or doubtful point false;
}

-- No point is doubtful by what was found.
abbrev pub HasNoDoubt : Findings → Type 0
HasNoDoubt found = (point : ℕ) → get_or found.doubtful.items point false ≡ false

-- one number, or none
abbrev pub listed : Option ℕ → List ℕ
listed (Some number) = number ∷ []
listed None = []

-- whether a point is one of those that are shown, and whether a remark is on such a one
abbrev pub is_shown : Shown → ℕ → Bool
is_shown shown point = nat_le shown.first point && nat_lt point shown.end

abbrev pub has_shown : Shown → PlacedRemark → Bool
has_shown shown placed = is_shown shown placed.point
