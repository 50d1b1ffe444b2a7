-- Why bits of an analysis are in the sets of points, many at once, as numbers.
use Rattle.std.specs.Prelude.{◌≡◌, ◌⊎◌, ◌+◌, ℕ, List, [], ◌∷◌, ◌++◌, Some, None, length, slice_get}
use Rattle.flow_graph.specs.declared.analysis.Analysis.{Analysis}
use Rattle.tac_program.specs.Programs.{Program}
use Rattle.flow_records.specs.Faults.{IsMemoryFault}
use Rattle.flow_records.specs.Numbers.{analysis_of}
use Rattle.flow_records.specs.Rooms.{NeedsRoom}
use Rattle.reason_records.specs.Why.{AreNumberedHops, HasNoPath, IsThere}
use Rattle.flow_records.specs.declared.fault.Fault.{Fault}
use Rattle.flow_records.specs.declared.fault.Fault.TheVariants as fault
use Rattle.reason_records.specs.declared.why.NumberedFact.{NumberedFact}
use Rattle.reason_records.specs.declared.why.NumberedHop.{NumberedHop}
use Rattle.reason_records.specs.declared.whys.NumberedWhy.{NumberedWhy}

-- the bit that is asked
abbrev pub fact_of : ℕ → NumberedWhy → NumberedFact
fact_of analysis why = record { analysis = analysis; point = why.point; bit = why.bit }

-- Of the same bit at the same point 1 and the hops of a witness are told, or 0 and none, where no valid path has it.
pub record IsToldWhy (program : Program) (analysis : ℕ) (asked told : NumberedWhy) (own : List NumberedHop) : Type 0 where
  pub point : told.point ≡ asked.point
  pub bit : told.bit ≡ asked.bit
  pub why : ((told.has ≡ 1) × AreNumberedHops program (fact_of analysis asked) own)
      ⊎ ((told.has ≡ 0) × HasNoPath program (fact_of analysis asked) × (own ≡ []))

-- In the order in which bits are asked their hops stand one after the other, and it is told where those of each end, behind so many before.
abbrev pub AreWhysFrom : Program → ℕ → ℕ → List NumberedWhy → List NumberedWhy → List NumberedHop → Type 0
AreWhysFrom program analysis start [] [] hops = hops ≡ []
AreWhysFrom program analysis start [] (t ∷ told) hops = ⊥
AreWhysFrom program analysis start (a ∷ asked) [] hops = ⊥
AreWhysFrom program analysis start (a ∷ asked) (t ∷ told) hops =
    (own : List NumberedHop) × (others : List NumberedHop) × (hops ≡ own ++ others) × IsToldWhy program analysis a t own
    × (t.end ≡ start + length own) × AreWhysFrom program analysis t.end asked told others

abbrev pub AreWhys : Program → ℕ → List NumberedWhy → List NumberedWhy → List NumberedHop → Type 0
AreWhys program analysis asked told hops = AreWhysFrom program analysis 0 asked told hops

-- hops that such bits have
abbrev pub AreHopsOf : Program → ℕ → List NumberedWhy → List NumberedHop → Type 0
AreHopsOf program analysis asked hops = (told : List NumberedWhy) × AreWhys program analysis asked told hops

-- why numbers ask for what is not there; want of memory is no fact of them
abbrev pub IsAskedFault : Program → ℕ → List NumberedWhy → Fault → Type 0
IsAskedFault program analysis asked fault.BadAnalysis = analysis_of analysis ≡ None
IsAskedFault program analysis asked fault.BadRange =
    (it : Analysis) × (analysis_of analysis ≡ Some it)
    × ((i : ℕ) × (why : NumberedWhy) × (slice_get asked i ≡ Some why) × ¬ (IsThere program it (fact_of analysis why)))
IsAskedFault program analysis asked fault = IsMemoryFault fault

-- why nothing is told of such bits in room for so many hops
abbrev pub IsWhysFault : ℕ → List NumberedWhy → ℕ → ℕ → Program → Fault → Type 0
IsWhysFault analysis asked room size program fault.BadRoom = NeedsRoom (AreHopsOf program analysis asked) room size
IsWhysFault analysis asked room size program fault = IsAskedFault program analysis asked fault
