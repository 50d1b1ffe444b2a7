-- A part of the report on a graph's program is one of a text's
use Rattle.std.proofs.Common.{◌≡◌, ℕ, List, Result, Ok, Err, IfErr, OnOk, subst}
use Rattle.flow_parts.specs.Parts.{IsPart}
use Rattle.tac_program.specs.Programs.{Program}
use Rattle.tac_program.specs.declared.limits.Limits.{Limits}
use Rattle.tac_reader.specs.Parses.{program_of}
use Rattle.flow_records.specs.Faults.{HasGraph}
use Rattle.flow_records.specs.Rooms.{HoldsList, IsListFault, NeedsRoom}
use Rattle.flow_records.specs.Texts.{IsPartFault, IsPartOf, IsShare, NamesText}
use Rattle.flow_records.specs.declared.fault.Fault.{Fault}
use Rattle.flow_records.specs.declared.fault.Fault.TheVariants as fault

pub on_ok : {T E P Q : Type 0} (result : Result T E) → (P → Q) → OnOk result P → OnOk result Q
on_ok (Ok value) then is = then is
on_ok (Err fault) then is = is

pub if_err : {T E : Type 0} {P Q : E → Type 0} (result : Result T E) → ((e : E) → P e → Q e) → IfErr result P → IfErr result Q
if_err (Ok value) then is = is
if_err (Err fault) then is = then fault is

module _ (limits : Limits) (text : List ℕ) (program : Program) (count part : ℕ) (name : List ℕ) (is : program ≡ program_of text)
    (graph : HasGraph limits text) (share : IsShare count part) (names : NamesText text name) where
  part_of : (out : List ℕ) → IsPart program name count part out → IsPartOf limits text count part out
  part_of out told = record {
    graph = graph;
    share = share;
    name = name;
    names = names;
    is_part = subst (λ (p : Program). IsPart p name count part out) is told;
  }

  pub held_part : (old new : List ℕ) (size : ℕ) → HoldsList (IsPart program name count part) old new size
      → HoldsList (IsPartOf limits text count part) old new size
  held_part old new size held = record {
    list = held.list;
    is_list = part_of held.list held.is_list;
    size_is = held.size_is;
    items = held.items;
  }

  needs_part : (room size : ℕ) → NeedsRoom (IsPart program name count part) room size → NeedsRoom (IsPartOf limits text count part) room size
  needs_part room size needs = record {
    list = needs.list;
    is_list = part_of needs.list needs.is_list;
    size_is = needs.size_is;
    too_small = needs.too_small;
  }

  pub part_fault : (room size : ℕ) (f : Fault) → IsListFault (IsPart program name count part) room size f
      → IsPartFault limits text count part room size f
  part_fault room size fault.BadRoom needs = needs_part room size needs
  part_fault room size fault.OutOfMemory is_memory = is_memory
  part_fault room size (fault.Refused r) bad = absurd bad
  part_fault room size fault.TooManyPoints bad = absurd bad
  part_fault room size fault.TooManyBits bad = absurd bad
  part_fault room size fault.BadLimits bad = absurd bad
  part_fault room size fault.BadAnalysis bad = absurd bad
  part_fault room size fault.BadRange bad = absurd bad
  part_fault room size fault.BadHandle bad = absurd bad
