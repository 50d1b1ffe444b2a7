use Rattle.std.proofs.Common.{◌≡◌, All, drop, fold, flat_map}
use Rattle.tac_reader.specs.Parses.{names_in}
use Rattle.tac_program.specs.Names.{noted}
use Rattle.tac_reader.specs.Sections.{only_name}
use Rattle.tac_reader.specs.code.Occurrences.{IsNumberedIn}
use Rattle.tac_lines.specs.code.Views.{tokens_view}
use Rattle.tac_reader.proofs.procedure.note_names.Given as goal

-- The names of the other tokens are still to be noted; where those so far stand is known.
abbrev pub invariant-loop-token : goal.invariant-loop-token
invariant-loop-token l = record {
  rest : fold noted l.variables.table (names_in (flat_map only_name (tokens_view l.text (drop l.token-index l.tokens))))
      ≡ fold noted l.fn.variables.table (names_in (flat_map only_name (tokens_view l.text l.tokens)));
  numbered : All (IsNumberedIn l.text l.variables.table) l.variables.occurrences.items;
}
