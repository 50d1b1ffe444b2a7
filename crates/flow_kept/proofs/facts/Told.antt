-- When all words are filled, the facts are told.
use Rattle.std.proofs.Common.{◌≡◌, ◌↔◌, ℕ, ◌+◌, ◌-◌, ◌*◌, ◌/◌, ◌<◌, Bool, true, false, if◌then◌else◌, List, length, refl, ◌∙◌, arith}
use Rattle.bit_rows.specs.Words.{word_count}
use Rattle.flow_graph.specs.Analyses.{HasPathAt}
use Rattle.flow_graph.specs.Points.{point_count}
use Rattle.flow_graph.specs.declared.analysis.Analysis.{Analysis}
use Rattle.flow_graph.proofs.graphs.MayForms.{flags_are_may_forms}
use Rattle.gk_solve.specs.Solved.{HasPathFlags}
use Rattle.tac_program.specs.Programs.{Program}
use Rattle.flow_kept.specs.Facts.{AreFactsOf, IsRowWord}
use Rattle.flow_kept.specs.Facts.{AreInRange}
use Rattle.flow_kept.specs.code.Filled.{AreFilled}
use Rattle.flow_kept.specs.code.Flags.{AreNumbers}

-- a number that is 1 where a flag is set
pub below_two : (flag : Bool) (n : ℕ) → n ≡ (if flag then 1 else 0) → n < 2
below_two true n is = omega (arith, is)
below_two false n is = omega (arith, is)

pub one_where : (P : Type 0) (flag : Bool) (n : ℕ) → n ≡ (if flag then 1 else 0) → ((flag ≡ true) ↔ P) → (n ≡ 1) ↔ P
one_where P true n is told = ((λ one. told.0 refl), (λ p. is))
one_where P false n is told = ((λ one. absurd (omega (arith, is, one))), (λ p. absurd (cc (told.1 p))))

pub all_known : (program : Program) (analysis : Analysis) (from until lo hi : ℕ) (paths : List Bool) (old_flags flags old words : List ℕ)
    → AreInRange program analysis from until lo hi
    → HasPathFlags (record { program = program; analysis = analysis }) paths → length old_flags ≡ until - from → AreNumbers paths from old_flags flags
    → length old ≡ (until - from) * word_count lo hi
    → AreFilled (IsRowWord program analysis from lo hi) (until - from) (word_count lo hi) (lo / 64) (lo / 64) ((hi + 63) / 64) old words
    → AreFactsOf program analysis from until lo hi flags words
all_known program analysis from until lo hi paths old_flags flags old words range paths_known flag_room numbers room filled = record {
  in_range = range;
  flag_count = numbers.count ∙ flag_room;
  flag = λ row there. below_two _ _ (numbers.each row (omega (arith, there, flag_room)));
  path = λ row there.
      let point_there : from + row < point_count program = omega (arith, there, range.1) in
      let law = flags_are_may_forms program analysis (from + row) in
      let here = paths_known.flag (from + row) point_there in
      one_where (HasPathAt program analysis (from + row)) _ _ (numbers.each row (omega (arith, there, flag_room)))
      ((λ is. law.1 (here.0 is)), (λ path. here.1 (law.0 path)));
  count = filled.size ∙ room;
  told = λ row place there small. filled.filled row place there small (omega arith) (omega (arith, small));
}
