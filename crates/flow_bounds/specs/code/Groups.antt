-- The frames in which the bits of a group of columns are bounded.
use Rattle.std.specs.Prelude.{◌≡◌, ◌<◌, ◌≤◌, ◌||◌, ℕ, Bool, true, false, List, length, slice_index, slice_index_or}
use Rattle.bit_rows.specs.Words.{has_bit}
use Rattle.flow_graph.specs.Points.{point_count}
use Rattle.flow_links.specs.Shapes.{LinkedProgram, directed_shape}
use Rattle.gen_kill.specs.Selections.{Selection, column_boundary, column_count, column_transfer}
use Rattle.summary_equations.specs.Equations.{Brought, CallsAt, Entered, HasFlag, Preserved}
use Rattle.flow_bounds.specs.Bounds.{IsAbove, IsBelow}
use Rattle.flow_regions.specs.code.Effects.{AreTold}
use Rattle.flow_bounds.specs.code.Exact.{IsExact}
use Rattle.flow_bounds.specs.code.Frames.{IsFrame}
use Rattle.flow_regions.specs.code.Regions.{ArePlaced, HoldsTouched}
use Rattle.flow_regions.specs.declared.effects.Does.TheVariants.{Generates, Kills}
use Rattle.flow_bounds.specs.declared.frame.Frame.{Frame}
use Rattle.flow_bounds.specs.declared.group.Group.{Group}
use Rattle.flow_bounds.specs.declared.group.Known.{Known}
use Rattle.flow_bounds.specs.declared.group.Tables.{Tables}
use Rattle.tac_program.specs.Limits.{most_points}
use Rattle.tac_program.specs.declared.limits.Limits.TheVariants.{Large}

-- Of each column at its bit a frame bounds the transfer from above, or from below.
pub record AreAbove (selection : Selection) (columns : List ℕ) (frame : Frame) : Type 0 where
  pub formed : IsFrame frame
  pub above : (k : ℕ) → k < length columns → IsAbove frame (column_transfer selection (slice_index columns k)) k

pub record AreBelow (selection : Selection) (columns : List ℕ) (frame : Frame) : Type 0 where
  pub formed : IsFrame frame
  pub below : (k : ℕ) → k < length columns → IsBelow frame (column_transfer selection (slice_index columns k)) k

-- what holds of a group's tables
pub record IsGroup (selection : Selection) (linked : LinkedProgram) (group : Group) : Type 0 where
  pub few : length group.columns.now ≤ 64
  pub low : (k : ℕ) → k < length group.columns.now → slice_index group.columns.now k < column_count selection
  pub inside : length group.inside.now ≡ (directed_shape linked).procedures
  pub placed : ArePlaced (directed_shape linked) group.inside.now (point_count linked.program) (directed_shape linked).procedures
      group.points.now group.places.now
  pub few_points : length group.points.now ≤ most_points Large
  pub touched : HoldsTouched selection (directed_shape linked) group.columns.now group.inside.now (point_count linked.program)
  pub gens_count : length group.gens.now ≡ length group.points.now
  pub gens : AreTold selection Generates group.columns.now (length group.columns.now) group.places.now (length group.points.now) group.gens.now
  pub kills_count : length group.kills.now ≡ length group.points.now
  pub kills : AreTold selection Kills group.columns.now (length group.columns.now) group.places.now (length group.points.now) group.kills.now
  pub boundary : (k : ℕ) → k < length group.columns.now
      → has_bit group.boundary k ≡ column_boundary selection (slice_index group.columns.now k)
  pub leads_count : length group.leads.now ≡ (directed_shape linked).procedures
  pub leads : (site x p : ℕ) → CallsAt (directed_shape linked) site x p
      → (slice_index_or group.inside.now p false || slice_index_or group.leads.now p false) ≡ true
      → slice_index_or group.leads.now ((directed_shape linked).procedure_of x) false ≡ true
  pub called_count : length group.called.now ≡ (directed_shape linked).procedures
  pub called : (site x p : ℕ) → CallsAt (directed_shape linked) site x p
      → slice_index_or group.inside.now ((directed_shape linked).procedure_of x) false ≡ false → slice_index_or group.inside.now p false ≡ true
      → slice_index_or group.called.now p false ≡ true

-- what holds of the tables that all groups share
pub record AreTables (linked : LinkedProgram) (tables : Tables) : Type 0 where
  pub all_count : length tables.all.items ≡ (directed_shape linked).procedures
  pub all : (p k : ℕ) → p < (directed_shape linked).procedures → k < 64 → has_bit (slice_index tables.all.items p) k ≡ true
  pub none_count : length tables.none.items ≡ (directed_shape linked).procedures
  pub none : (p : ℕ) → slice_index tables.none.items p ≡ 0
  pub never_count : length tables.never.items ≡ (directed_shape linked).procedures
  pub never : (p : ℕ) → slice_index_or tables.never.items p false ≡ false
  pub everywhere_count : length tables.everywhere.items ≡ point_count linked.program
  pub everywhere : (x : ℕ) → x < point_count linked.program → slice_index_or tables.everywhere.items x false ≡ true

-- a frame tells exactly what statements do with each column, at its bit
abbrev pub AreExact : Selection → List ℕ → Frame → Type 0
AreExact selection columns frame = (k : ℕ) → k < length columns → IsExact frame (column_transfer selection (slice_index columns k)) k

-- flags of points to which some valid path leads
pub record ArePaths (linked : LinkedProgram) (paths : List Bool) : Type 0 where
  pub count : length paths ≡ point_count linked.program
  pub flags : (x : ℕ) → slice_index_or paths x false ≡ true → HasFlag (directed_shape linked) x

-- What is known of paths is true of each column, at its bit.
pub record IsKnown (selection : Selection) (linked : LinkedProgram) (columns : List ℕ) (known : Known) : Type 0 where
  pub paths : ArePaths linked known.paths.now
  pub through_count : length known.through.now ≡ (directed_shape linked).procedures
  pub through : (p k : ℕ) → p < (directed_shape linked).procedures → k < length columns → has_bit (slice_index known.through.now p) k ≡ true
      → Preserved (directed_shape linked) (column_transfer selection (slice_index columns k)).kill ((directed_shape linked).exit p)
  pub hung_count : length known.hung.now ≡ (directed_shape linked).procedures
  pub hung : (p k : ℕ) → k < length columns → has_bit (slice_index known.hung.now p) k ≡ true
      → Entered (directed_shape linked) p × Brought (directed_shape linked) (column_transfer selection (slice_index columns k)) p
