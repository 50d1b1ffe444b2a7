use Rattle.std.proofs.Common.{◌≡◌, ◌++◌, codes, subst, take, List}
use Rattle.std.proofs.Common.{OnOk}
use Rattle.tac_faults.proofs.NameLists.{missing}
use Rattle.tac_faults.specs.Listed.{most_found}
use Rattle.tac_lines.specs.LineFaults.{at}
use Rattle.tac_lines.specs.declared.fault.Fault.{Fault}
use Rattle.tac_lines.specs.declared.refusal.RefusalKind.TheVariants.{NoMain}
use Rattle.tac_reader.specs.Parses.{names_in}
use Rattle.tac_faults.proofs.names.tell_no_main.Goals as goal

pub returns : goal.returns
returns c known is_known =
    subst (λ (r : List Fault). OnOk c.tell.result (take most_found c.tell.new.found.items ≡ take most_found (c.args.found.now.items ++ r)))
    (missing c.args.procedures.now (names_in known) (codes "main") c.find.result c.is_none-is_missing.result (at NoMain 0) is_known
    c.find.ensures.number c.is_none-is_missing.ensures) c.tell.ensures
