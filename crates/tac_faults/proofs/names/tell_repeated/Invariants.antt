use Rattle.std.proofs.Common.{◌≡◌, ◌++◌, [], drop, take}
use Rattle.tac_faults.specs.Listed.{most_found}
use Rattle.tac_faults.proofs.NameLists.{before}
use Rattle.tac_lines.specs.code.Views.{tokens_view}
use Rattle.tac_reader.specs.Faults.{repeated}
use Rattle.tac_reader.specs.Parses.{each_once}
use Rattle.tac_faults.proofs.names.tell_repeated.Given as goal

-- The table has the names so far, and the faults so far and the rest's are all.
abbrev pub invariant-loop-token : goal.invariant-loop-token
invariant-loop-token l = record {
  table : l.names ≡ each_once (before l.kind l.text l.tokens l.token-index);
  told : take most_found
      (l.found.items ++ repeated l.kind (before l.kind l.text l.tokens l.token-index) (tokens_view l.text (drop l.token-index l.tokens)))
      ≡ take most_found (l.fn.found.items ++ repeated l.kind [] (tokens_view l.text l.tokens));
}
