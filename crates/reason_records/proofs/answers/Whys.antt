-- What is found of a bit of an analysis, as it is asked for by numbers.
use Rattle.std.proofs.Common.{◌≡◌, List, Option, Some, None, MatchOption}
use Rattle.flow_graph.specs.Paths.{SomePathHas}
use Rattle.flow_graph.specs.Problems.{may_shape, may_transfer}
use Rattle.flow_graph.specs.declared.analysis.Analysis.{Analysis}
use Rattle.flow_why.specs.Witnesses.{IsWitness}
use Rattle.flow_why.specs.declared.hop.Hop.{Hop}
use Rattle.tac_program.specs.Programs.{Program}
use Rattle.flow_records.specs.Numbers.{analysis_of}
use Rattle.reason_records.specs.Why.{HasNoPath, IsThere, IsWhy}
use Rattle.reason_records.specs.declared.why.NumberedFact.{NumberedFact}

pub found_is_why : {V : Type 0} (program : Program) (fact : NumberedFact) (items : V → List Hop) (analysis : Analysis) (found : Option V)
    → analysis_of fact.analysis ≡ Some analysis → IsThere program analysis fact
    → MatchOption found (SomePathHas (may_shape program analysis) (may_transfer program analysis fact.bit) fact.point → ⊥)
    (λ hops. IsWitness (may_shape program analysis) (may_transfer program analysis fact.bit) fact.point (items hops))
    → MatchOption found (HasNoPath program fact) (λ hops. IsWhy program fact (items hops))
found_is_why program fact items analysis None is there none = record { analysis = analysis; is_analysis = is; there = there; none = none }
found_is_why program fact items analysis (Some hops) is there witness =
    record { analysis = analysis; is_analysis = is; there = there; witness = witness }
