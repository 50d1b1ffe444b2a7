use Rattle.std.proofs.Common.{◌≡◌, ◌∷◌, ◌++◌, All, drop, length}
use Rattle.std.specs.Prelude.{slice_index}
use Rattle.flow_builder.specs.Built.{names_from}
use Rattle.tac_program.specs.Sound.{AllDiffer, IsLawfulName}
use Rattle.flow_builder.proofs.names.names.Given as goal

abbrev pub invariant-loop-number : goal.invariant-loop-number
invariant-loop-number l = record {
  names : l.table ++ names_from l.start (drop l.number l.ends) l.bytes ≡ names_from 0 l.ends l.bytes;
  count : length l.table ≡ l.number;
  starts : l.start ≡ slice_index (0 ∷ l.ends) l.number;
  lawful : All IsLawfulName l.table;
  differ : AllDiffer l.table;
}
