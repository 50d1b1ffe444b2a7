-- Why a bit is in the set of a point, as numbers: the hops of a witness over the may form of the analysis, or that no valid path has the bit.
use Rattle.std.specs.Prelude.{◌≡◌, ◌<◌, ◌⊎◌, ℕ, List, Some, None, map}
use Rattle.flow_graph.specs.Paths.{SomePathHas}
use Rattle.flow_graph.specs.Points.{point_count}
use Rattle.flow_graph.specs.Problems.{may_shape, may_transfer}
use Rattle.flow_graph.specs.Universes.{bits}
use Rattle.flow_graph.specs.declared.analysis.Analysis.{Analysis}
use Rattle.flow_why.specs.Witnesses.{IsWitness}
use Rattle.flow_why.specs.declared.hop.Effect.{Effect}
use Rattle.flow_why.specs.declared.hop.Effect.TheVariants.{Reaches, Generates, Preserves}
use Rattle.flow_why.specs.declared.hop.Hop.{Hop}
use Rattle.flow_why.specs.declared.hop.Hop.TheVariants as hop
use Rattle.tac_program.specs.Programs.{Program}
use Rattle.flow_records.specs.Faults.{IsMemoryFault}
use Rattle.flow_records.specs.Numbers.{analysis_of}
use Rattle.flow_records.specs.Rooms.{HoldsList, IsListKept, NeedsRoom}
use Rattle.flow_records.specs.declared.fault.Fault.{Fault}
use Rattle.flow_records.specs.declared.fault.Fault.TheVariants as fault
use Rattle.reason_records.specs.declared.why.NumberedFact.{NumberedFact}
use Rattle.reason_records.specs.declared.why.NumberedHop.{NumberedHop}

abbrev pub effect_number : Effect → ℕ
effect_number Reaches = 0
effect_number Generates = 1
effect_number Preserves = 2

-- a step is of no call, and a call that is left open passes no procedure
abbrev pub hop_part : Hop → NumberedHop
hop_part (hop.Step x y) = record { kind = 0; from = x; to = y; site = 4294967295; callee = 4294967295; effect = 4294967295 }
hop_part (hop.Enter site x y) = record { kind = 1; from = x; to = y; site = site; callee = 4294967295; effect = 4294967295 }
hop_part (hop.Pass site x callee y effect) = record { kind = 2; from = x; to = y; site = site; callee = callee; effect = effect_number effect }

-- the program has the point, and the analysis the bit
abbrev pub IsThere : Program → Analysis → NumberedFact → Type 0
IsThere program analysis fact = (fact.point < point_count program) × (fact.bit < bits program analysis)

-- The hops are a witness of the bit at the point, of the analysis of the number.
pub record IsWhy (program : Program) (fact : NumberedFact) (hops : List Hop) : Type 0 where
  pub analysis : Analysis
  pub is_analysis : analysis_of fact.analysis ≡ Some analysis
  pub there : IsThere program analysis fact
  pub witness : IsWitness (may_shape program analysis) (may_transfer program analysis fact.bit) fact.point hops

-- No valid path to the point has the bit.
pub record HasNoPath (program : Program) (fact : NumberedFact) : Type 0 where
  pub analysis : Analysis
  pub is_analysis : analysis_of fact.analysis ≡ Some analysis
  pub there : IsThere program analysis fact
  pub none : ¬ (SomePathHas (may_shape program analysis) (may_transfer program analysis fact.bit) fact.point)

-- They are such hops by numbers, in their order.
pub record AreNumberedHops (program : Program) (fact : NumberedFact) (numbered : List NumberedHop) : Type 0 where
  pub hops : List Hop
  pub are : IsWhy program fact hops
  pub same : numbered ≡ map hop_part hops

-- The room begins with the hops of a witness, or there is none, and the room is as it was.
abbrev pub TellsWhy : Program → NumberedFact → List NumberedHop → List NumberedHop → ℕ → ℕ → Type 0
TellsWhy program fact old new count has =
    ((has ≡ 1) × HoldsList (AreNumberedHops program fact) old new count) ⊎ ((has ≡ 0) × HasNoPath program fact × (count ≡ 0) × (new ≡ old))

-- after a fault all is as it was, but how many hops there are where it is room that lacks
abbrev pub IsWhyKept : List NumberedHop → List NumberedHop → ℕ → ℕ → ℕ → ℕ → Fault → Type 0
IsWhyKept old new count_before count has_before has fault = (has ≡ has_before) × IsListKept old new count_before count fault

-- why numbers are of no bit at a point; want of memory is no fact of them
abbrev pub IsFactFault : Program → NumberedFact → Fault → Type 0
IsFactFault program fact fault.BadAnalysis = analysis_of fact.analysis ≡ None
IsFactFault program fact fault.BadRange =
    (analysis : Analysis) × (analysis_of fact.analysis ≡ Some analysis) × (¬ (IsThere program analysis fact))
IsFactFault program fact fault = IsMemoryFault fault

-- why nothing is told in room for so many hops
abbrev pub IsWhyFault : NumberedFact → ℕ → ℕ → Program → Fault → Type 0
IsWhyFault fact room size program fault.BadRoom = NeedsRoom (AreNumberedHops program fact) room size
IsWhyFault fact room size program fault = IsFactFault program fact fault
