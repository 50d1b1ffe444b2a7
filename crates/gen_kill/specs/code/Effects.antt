-- What the statement at a point does with the bits of an analysis: it has at most two bits of its own, and it touches those
-- that depend on the variable that it writes. Gen and kill are made of the two.
use Rattle.std.specs.Prelude.{◌≡◌, ◌<◌, ℕ, ◌+◌, ◌*◌, ◌/◌, ◌%◌, Bool, true, false, not, ◌&&◌, ◌||◌, List, IfSome, length, get_or, Option, Some, None}
use Rattle.std.specs.Prelude.{option_map, slice_get, unwrap_or, nat_eq}
use Rattle.tac_program.specs.Programs.{Program}
use Rattle.gen_kill.specs.code.BitTables.{table_has}
use Rattle.flow_graph.specs.Points.{point_count}
use Rattle.flow_graph.specs.Transfers.{has_operand, reads, evaluates, is_made_at}
use Rattle.flow_graph.specs.Universes.{target_at, definitions, expressions}
use Rattle.flow_graph.specs.declared.analysis.Analysis.TheVariants.{Reach, Live, Avail, Busy}
use Rattle.flow_graph.specs.declared.analysis.Analysis.{Analysis}
use Rattle.gen_kill.specs.Selections.{Selection, bit_of, column_count}
use Rattle.gen_kill.specs.declared.effect.Effect.{Effect}

-- whether a number is the one that is told, if any is
abbrev pub marks : Option ℕ → ℕ → Bool
marks None n = false
marks (Some m) n = nat_eq n m

-- Whether a bit is the statement's own: the definition that it makes, the variables that it reads, the expression that it
-- evaluates.
abbrev pub owns : Program → Analysis → ℕ → ℕ → Bool
owns program Reach point bit = unwrap_or (option_map (is_made_at point) (slice_get (definitions program) bit)) false
owns program Live point bit = reads program point bit
owns program Avail point bit = unwrap_or (option_map (evaluates program point) (slice_get (expressions program) bit)) false
owns program Busy point bit = unwrap_or (option_map (evaluates program point) (slice_get (expressions program) bit)) false

-- Whether a bit depends on a variable: a definition of it, the variable itself, an expression with it as an operand.
abbrev pub depends : Program → Analysis → ℕ → ℕ → Bool
depends program Reach variable bit = unwrap_or (option_map (λ d. nat_eq variable d.0) (slice_get (definitions program) bit)) false
depends program Live variable bit = nat_eq variable bit
depends program Avail variable bit = unwrap_or (option_map (λ e. has_operand e variable) (slice_get (expressions program) bit)) false
depends program Busy variable bit = unwrap_or (option_map (λ e. has_operand e variable) (slice_get (expressions program) bit)) false

-- whether the statement touches the bit
abbrev pub touches : Program → Analysis → ℕ → ℕ → Bool
touches program analysis point bit = unwrap_or (option_map (λ x. depends program analysis x bit) (target_at program point)) false

-- gen and kill of the may form, from whether the bit is the statement's own and whether it is touched
abbrev pub gen_from : Analysis → Bool → Bool → Bool
gen_from Reach own touched = own
gen_from Live own touched = own
gen_from Avail own touched = touched
gen_from Busy own touched = touched && not own

abbrev pub kill_from : Analysis → Bool → Bool → Bool
kill_from Reach own touched = touched && not own
kill_from Live own touched = touched
kill_from Avail own touched = own && not touched
kill_from Busy own touched = own

abbrev pub effect_owns : Effect → ℕ → Bool
effect_owns e bit = marks e.first bit || marks e.second bit

-- What a statement does with the bits of an analysis, by bits.
pub record IsEffect (program : Program) (analysis : Analysis) (point : ℕ) (e : Effect) : Type 0 where
  pub written : e.written ≡ target_at program point
  pub within : IfSome e.written (λ x. x < length program.variable_names)
  pub own : (bit : ℕ) → effect_owns e bit ≡ owns program analysis point bit

-- the number of the definition that the statement at a point makes, where the next is to have this number
abbrev pub numbered : Program → ℕ → ℕ → Option ℕ
numbered program number point = option_map (λ x. number) (target_at program point)

-- the same, where a definition is told by its number
abbrev pub owns_numbered : Program → Analysis → ℕ → ℕ → ℕ → Bool
owns_numbered program Reach number point bit = marks (numbered program number point) bit
owns_numbered program Live number point bit = owns program Live point bit
owns_numbered program Avail number point bit = owns program Avail point bit
owns_numbered program Busy number point bit = owns program Busy point bit

pub record IsNumberedEffect (program : Program) (analysis : Analysis) (number point : ℕ) (e : Effect) : Type 0 where
  pub written : e.written ≡ target_at program point
  pub within : IfSome e.written (λ x. x < length program.variable_names)
  pub own : (bit : ℕ) → effect_owns e bit ≡ owns_numbered program analysis number point bit

-- What is kept of the statement at a point, by columns.
pub record IsColumnEffect (selection : Selection) (point : ℕ) (e : Effect) : Type 0 where
  pub written : e.written ≡ target_at selection.program point
  pub within : IfSome e.written (λ x. x < length selection.program.variable_names)
  pub own : (column : ℕ) → column < column_count selection
      → effect_owns e column ≡ owns selection.program selection.analysis point (bit_of selection column)

-- whether a column's bit depends on a variable
unfoldable pub column_depends : Selection → ℕ → ℕ → Bool
column_depends selection variable column = depends selection.program selection.analysis variable (bit_of selection column)

-- the effect of each point
pub record AreEffects (selection : Selection) (effects : List Effect) : Type 0 where
  pub count : length effects ≡ point_count selection.program
  pub each : (point : ℕ) (d : Effect) → point < point_count selection.program → IsColumnEffect selection point (get_or effects point d)

-- of the columns of so many words from one on, those that depend on each variable
pub record IsDependence (selection : Selection) (first : ℕ) (words : List ℕ) (width : ℕ) : Type 0 where
  pub count : length words ≡ length selection.program.variable_names * width
  pub each : (variable column : ℕ) → variable < length selection.program.variable_names → column < 64 * width
      → 64 * first + column < column_count selection
      → table_has words width variable column ≡ column_depends selection variable (64 * first + column)

-- the words of 64 columns in which some column depends on each variable: word w at place w % 64
pub record AreDependentWords (selection : Selection) (words : List ℕ) (width : ℕ) : Type 0 where
  pub one : width ≡ 1
  pub count : length words ≡ length selection.program.variable_names * width
  pub each : (variable column : ℕ) → variable < length selection.program.variable_names → column < column_count selection
      → column_depends selection variable column ≡ true → table_has words width variable (column / 64 % 64) ≡ true
