-- The four sets of a block in an analysis. IN is what holds before its first statement, OUT what holds behind its last, both in the direction of
-- control. Gen and kill are as 9.2.4 of Aho, Lam, Sethi, Ullman, 2nd edition, composes them: kill is the union of what its statements kill, gen
-- what one of them generates and none beyond it kills, in the direction of the analysis.
use Rattle.std.specs.Prelude.{ℕ, Bool, true, false, not, ◌&&◌, ◌||◌, List, [], ◌∷◌, codes, if◌then◌else◌}
use Rattle.std.specs.List.{list_any}
use Rattle.flow_graph.specs.Analyses.{is_backward}
use Rattle.flow_graph.specs.Transfers.{gens, kills}
use Rattle.flow_graph.specs.declared.analysis.Analysis.{Analysis}
use Rattle.flow_team.specs.Tables.{Facts}
use Rattle.point_sets.specs.Sets.{has_behind, set_on}
use Rattle.point_sets.specs.declared.side.Side.TheVariants.{Before, Behind}
use Rattle.tac_program.specs.Programs.{Program}
use Rattle.block_dots.specs.Blocks.{block_last, block_points}
use Rattle.block_dots.specs.declared.block_set.BlockSet.{BlockSet}
use Rattle.block_dots.specs.declared.block_set.BlockSet.TheVariants.{Gen, Kill, In, Out}

-- whether some statement kills the bit
abbrev pub kills_some : Program → Analysis → List ℕ → ℕ → Bool
kills_some program analysis points bit = list_any (λ point. kills program analysis point bit) points

-- whether some statement generates it and none behind that one kills it: it is exposed downwards
abbrev pub exposed_down : Program → Analysis → List ℕ → ℕ → Bool
exposed_down program analysis [] bit = false
exposed_down program analysis (point ∷ points) bit =
    (gens program analysis point bit && not (kills_some program analysis points bit)) || exposed_down program analysis points bit

-- whether some statement generates it and none before that one kills it: it is exposed upwards
abbrev pub exposed_up : Program → Analysis → List ℕ → ℕ → Bool
exposed_up program analysis [] bit = false
exposed_up program analysis (point ∷ points) bit =
    gens program analysis point bit || (not (kills program analysis point bit) && exposed_up program analysis points bit)

abbrev pub exposed : Program → Analysis → List ℕ → ℕ → Bool
exposed program analysis points bit =
    if is_backward analysis then exposed_up program analysis points bit else exposed_down program analysis points bit

-- a set of the block that begins at a leader
abbrev pub block_set : BlockSet → Program → Analysis → Facts → ℕ → ℕ → Bool
block_set Gen program analysis facts leader = exposed program analysis (block_points program leader)
block_set Kill program analysis facts leader = kills_some program analysis (block_points program leader)
block_set In program analysis facts leader = set_on Before program analysis facts leader
block_set Out program analysis facts leader = set_on Behind program analysis facts (block_last program leader)

-- `ANALYSIS` and this stand before it
abbrev pub set_word : BlockSet → List ℕ
set_word Gen = codes " gen: "
set_word Kill = codes " kill: "
set_word In = codes " IN: "
set_word Out = codes " OUT: "

-- The sets that are shown: a call and a procedure's end have no set behind, and generate and kill nothing of their own.
abbrev pub sets_of : Bool → List BlockSet
sets_of true = Gen ∷ Kill ∷ In ∷ Out ∷ []
sets_of false = In ∷ []

abbrev pub block_sets : Program → ℕ → List BlockSet
block_sets program leader = sets_of (has_behind program leader)
