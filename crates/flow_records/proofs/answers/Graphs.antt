-- What is known of a text whose program has a graph.
use Rattle.std.proofs.Common.{◌≡◌, ℕ, List, None, subst, Some}
use Rattle.flow_graph.specs.Limits.{HasFewBits, HasFewPoints}
use Rattle.tac_program.specs.declared.limits.Limits.{Limits}
use Rattle.flow_graph.specs.declared.analysis.Analysis.{Analysis}
use Rattle.tac_reader.specs.Faults.{refusal_within}
use Rattle.tac_program.specs.Programs.{Program}
use Rattle.tac_reader.specs.Parses.{program_of}
use Rattle.flow_kept.specs.Facts.{AreFactsOf}
use Rattle.flow_records.specs.Facts.{AreFactsOfText, IsTableFault}
use Rattle.flow_records.specs.Faults.{HasGraph, IsBadTable}
use Rattle.flow_records.specs.Numbers.{analysis_of, end_of}
use Rattle.flow_records.specs.declared.fault.Fault.{Fault}
use Rattle.flow_records.specs.declared.fault.Fault.TheVariants as fault

pub has_graph : (limits : Limits) (text : List ℕ) (program : Program) → program ≡ program_of text → refusal_within limits text ≡ None
    → HasFewPoints limits program → HasFewBits limits program → HasGraph limits text
has_graph limits text program is accepted points bits =
    (accepted, subst (HasFewPoints limits) is points, subst (HasFewBits limits) is bits)

pub facts_of_text : (limits : Limits) (text : List ℕ) (program : Program) (number : ℕ) (analysis : Analysis) (from until end lo hi : ℕ)
    (flags words : List ℕ)
    → program ≡ program_of text → HasGraph limits text → analysis_of number ≡ Some analysis → end ≡ end_of program until
    → AreFactsOf program analysis from end lo hi flags words → AreFactsOfText limits text number from until lo hi flags words
facts_of_text limits text program number analysis from until end lo hi flags words is graph known ends facts = record {
  has_graph = graph;
  analysis = analysis;
  is_analysis = known;
  facts =
      subst (λ (p : Program). AreFactsOf p analysis from (end_of p until) lo hi flags words) is
      (subst (λ n. AreFactsOf program analysis from n lo hi flags words) ends facts);
}

pub bad_table : (limits : Limits) (text : List ℕ) (program : Program) (number : ℕ) (analysis : Analysis) (from until end lo hi flags words : ℕ)
    (f : Fault)
    → program ≡ program_of text → HasGraph limits text → analysis_of number ≡ Some analysis → end ≡ end_of program until
    → IsBadTable program analysis from end lo hi flags words f → IsTableFault limits text number from until lo hi flags words f
bad_table limits text program number analysis from until end lo hi flags words fault.BadRange is graph known ends bad = (
  graph,
  (
    analysis,
    known,
    subst (λ (p : Program). IsBadTable p analysis from (end_of p until) lo hi flags words fault.BadRange) is
        (subst (λ n. IsBadTable program analysis from n lo hi flags words fault.BadRange) ends bad),
  ),
)
bad_table limits text program number analysis from until end lo hi flags words fault.BadRoom is graph known ends bad = (
  graph,
  (
    analysis,
    known,
    subst (λ (p : Program). IsBadTable p analysis from (end_of p until) lo hi flags words fault.BadRoom) is
        (subst (λ n. IsBadTable program analysis from n lo hi flags words fault.BadRoom) ends bad),
  ),
)
bad_table limits text program number analysis from until end lo hi flags words (fault.Refused r) is graph known ends bad = absurd bad
bad_table limits text program number analysis from until end lo hi flags words fault.TooManyPoints is graph known ends bad = absurd bad
bad_table limits text program number analysis from until end lo hi flags words fault.TooManyBits is graph known ends bad = absurd bad
bad_table limits text program number analysis from until end lo hi flags words fault.OutOfMemory is graph known ends bad = absurd bad
bad_table limits text program number analysis from until end lo hi flags words fault.BadAnalysis is graph known ends bad = absurd bad
bad_table limits text program number analysis from until end lo hi flags words fault.BadLimits is graph known ends bad = absurd bad
bad_table limits text program number analysis from until end lo hi flags words fault.BadHandle is graph known ends bad = absurd bad
