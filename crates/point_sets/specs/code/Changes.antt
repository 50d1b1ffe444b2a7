-- How the code's sets stand for what changes between two of them.
use Rattle.std.specs.Prelude.{◌≡◌, ℕ, Bool, not, ◌&&◌, List}
use Rattle.flow_team.specs.Tables.{facts_of}
use Rattle.point_sets.specs.Changes.{changed_from}
use Rattle.point_sets.specs.Sets.{is_bit_shown, set_on}
use Rattle.point_sets.specs.code.Lines.{names_that}
use Rattle.point_sets.specs.code.PointSets.{IsPointSet}
use Rattle.point_sets.specs.declared.change.Change.{Change}
use Rattle.point_sets.specs.declared.point_set.PointSet.{PointSet}

-- what the table of a set tells of its bits
abbrev pub told_by : PointSet → ℕ → Bool
told_by set bit = set_on set.side set.graph.now set.table.now.analysis (facts_of set.table.now) set.point bit

-- the set from which a change goes, which may be the empty one
abbrev pub old_set : Change → ℕ → Bool
old_set change bit = not change.from_none && told_by change.old bit

-- what came, or what went
abbrev pub changed : Change → Bool → ℕ → Bool
changed change came = changed_from came (old_set change) (told_by change.new)

-- and of that what is shown
abbrev pub shows_changed : Change → Bool → ℕ → Bool
shows_changed change came bit =
    changed change came bit && is_bit_shown change.new.graph.now change.new.table.now.analysis change.new.hides_entry bit

-- the texts of that, among so many bits from the first on
abbrev pub changed_among : Change → Bool → List (List ℕ) → ℕ → ℕ → List (List ℕ)
changed_among change came = names_that (shows_changed change came)

-- Both are sets of one table's bits.
pub record IsChange (change : Change) : Type 0 where
  pub old : IsPointSet change.old
  pub new : IsPointSet change.new
  pub bits : change.old.table.now.bits ≡ change.new.table.now.bits
