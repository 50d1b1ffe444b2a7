-- What statements do with the bit that a variable holds an expression's value.
use Rattle.std.specs.Prelude.{◌≡◌, ◌<◌, ℕ, Bool, true, false, not, ◌&&◌, ◌||◌, List, length, slice_index_or}
use Rattle.tac_program.specs.Programs.{Program}
use Rattle.flow_graph.specs.Transfers.{gens, kills, writes}
use Rattle.flow_graph.specs.declared.analysis.Analysis.TheVariants.{Avail}

-- a statement makes the variable hold the value, or loses it
abbrev pub is_made : Program → ℕ → ℕ → ℕ → Bool
is_made program e variable x = writes program x variable && gens program Avail x e

abbrev pub is_lost : Program → ℕ → ℕ → ℕ → Bool
is_lost program e variable x = (writes program x variable || kills program Avail x e) && not (is_made program e variable x)

-- Marks of variables: all are marked to which a statement before a point makes an assignment of the expression.
pub record AreTargetsUntil (program : Program) (e until : ℕ) (marks : List Bool) : Type 0 where
  pub count : length marks ≡ length program.variable_names
  pub all : (x variable : ℕ) → x < until → variable < length marks → is_made program e variable x ≡ true → slice_index_or marks variable false ≡ true
