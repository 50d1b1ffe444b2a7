-- How far a caller's words are filled.
use Rattle.std.specs.Prelude.{◌≡◌, ℕ, ◌+◌, ◌-◌, ◌*◌, ◌/◌, ◌<◌, ◌≤◌, ◌⊎◌, List, length, slice_index}
use Rattle.flow_graph.specs.Analyses.{is_must}
use Rattle.flow_graph.specs.Directions.{is_intersection}
use Rattle.flow_graph.specs.Points.{point_count}
use Rattle.gen_kill.specs.Selections.{Selection, all_bits}
use Rattle.flow_kept.specs.declared.table.Layout.{Layout}

-- Of the words of one point, which stand from a place on and the first of which is number first, those from start up to end are
-- told. All other words are as they were.
pub record IsRowFilled (tells : ℕ → ℕ → Type 0) (at first start end : ℕ) (old new : List ℕ) : Type 0 where
  pub size : length new ≡ length old
  pub filled : (w : ℕ) → start ≤ first + w → first + w < end → tells (first + w) (slice_index new (at + w))
  pub kept : (i : ℕ) → (first + i < at + start) ⊎ (at + end ≤ first + i) → slice_index new i ≡ slice_index old i

-- So it is at each of some points, whose words stand one after the other.
pub record AreFilled (tells : ℕ → ℕ → ℕ → Type 0) (points count first start end : ℕ) (old new : List ℕ) : Type 0 where
  pub size : length new ≡ length old
  pub filled : (point w : ℕ) → point < points → w < count → start ≤ first + w → first + w < end
      → tells point (first + w) (slice_index new (point * count + w))
  pub kept : (point w : ℕ) → w < count → (points ≤ point) ⊎ ((first + w < start) ⊎ (end ≤ first + w))
      → slice_index new (point * count + w) ≡ slice_index old (point * count + w)

-- The layout is of the words of the bits lo..hi, at points of the program, in so many words. All bits of the analysis are solved.
pub record CanFill (form : Selection) (lo hi : ℕ) (layout : Layout) (size : ℕ) : Type 0 where
  pub whole : form ≡ all_bits form.program form.analysis
  pub lo_is : layout.lo ≡ lo
  pub hi_is : layout.hi ≡ hi
  pub join : is_intersection layout.join ≡ is_must form.analysis
  pub first : layout.first ≡ lo / 64
  pub last : layout.first + layout.count ≡ (hi + 63) / 64
  pub from : layout.from ≤ layout.until
  pub until : layout.until ≤ point_count form.program
  pub room : size ≡ (layout.until - layout.from) * layout.count
