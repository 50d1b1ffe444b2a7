-- What is kept of each statement, one point after the other
use Rattle.std.proofs.Common.{◌≡◌, ℕ, ◌+◌, ◌<◌, IfSome, length, flat_map, ap, sym, subst, ◌∙◌, length-append}
use Rattle.std.specs.List.{range_with_len}
use Rattle.tac_program.specs.Programs.{Program}
use Rattle.gen_kill.specs.Selections.{Selection, bit_of}
use Rattle.gen_kill.specs.code.Columns.{HasColumn}
use Rattle.gen_kill.specs.code.Effects.{IsColumnEffect, IsEffect, IsNumberedEffect, effect_owns}
use Rattle.flow_graph.specs.Points.{point_count}
use Rattle.flow_graph.specs.Universes.{bits, definition_at}
use Rattle.flow_graph.specs.declared.analysis.Analysis.TheVariants.{Reach, Live, Avail, Busy}
use Rattle.flow_graph.specs.declared.analysis.Analysis.{Analysis}
use Rattle.gen_kill.specs.declared.effect.Effect.{Effect}
use Rattle.gen_kill.proofs.bits.Chosen.{has_column}
use Rattle.gen_kill.proofs.bits.OwnBits.{definition_is_own}
use Rattle.flow_graph.proofs.lists.Ranges.{flat_map-range_more}

pub definitions_more : (program : Program) (n : ℕ)
    → length (flat_map (definition_at program) (range_with_len 0 (n + 1)))
    ≡ length (flat_map (definition_at program) (range_with_len 0 n)) + length (definition_at program n)
definitions_more program n =
    ap length (flat_map-range_more (definition_at program) n)
    ∙ length-append (flat_map (definition_at program) (range_with_len 0 n)) (definition_at program n)

pub effect_of_numbered : (program : Program) (analysis : Analysis) (number point : ℕ) (e : Effect) → point < point_count program
    → number ≡ length program.variable_names + length (flat_map (definition_at program) (range_with_len 0 point))
    → IsNumberedEffect program analysis number point e → IsEffect program analysis point e
effect_of_numbered program Reach number point e below is known = record {
  written = known.written;
  within = known.within;
  own = λ bit. known.own bit ∙ definition_is_own program number point bit below is;
}
effect_of_numbered program Live number point e below is known = record { written = known.written; within = known.within; own = known.own }
effect_of_numbered program Avail number point e below is known = record { written = known.written; within = known.within; own = known.own }
effect_of_numbered program Busy number point e below is known = record { written = known.written; within = known.within; own = known.own }

-- an effect by columns, of one by bits
pub column_effect : (s : Selection) (point : ℕ) (e placed : Effect) → IsEffect s.program s.analysis point e
    → placed.written ≡ e.written
    → ((column : ℕ) → HasColumn s.chosen column → effect_owns placed column ≡ effect_owns e (bit_of s column))
    → IsColumnEffect s point placed
column_effect s point e placed known written own = record {
  written = written ∙ known.written;
  within = subst (λ o. IfSome o (λ x. x < length s.program.variable_names)) (sym written) known.within;
  own = λ column below.
      own column (has_column s.chosen (bits s.program s.analysis) column below) ∙ known.own (bit_of s column);
}
