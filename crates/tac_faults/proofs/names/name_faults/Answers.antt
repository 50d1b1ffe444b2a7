use Rattle.std.proofs.Common.{◌∙◌, ◌++◌, [], ap, take, drop, flat_map, List}
use Rattle.tac_faults.proofs.Lists.{told_seven}
use Rattle.tac_faults.specs.Listed.{most_found}
use Rattle.tac_lines.specs.LineFaults.{at}
use Rattle.tac_lines.specs.Tokens.{Token}
use Rattle.tac_lines.specs.code.Views.{tokens_view}
use Rattle.tac_lines.specs.declared.refusal.RefusalKind.TheVariants.{DuplicateProcedure, TooManyProcedures}
use Rattle.tac_program.specs.Limits.{most_procedures}
use Rattle.tac_reader.specs.Faults.{repeated}
use Rattle.tac_reader.specs.Parses.{each_once, names_in}
use Rattle.tac_reader.specs.Sections.{titles}
use Rattle.tac_reader.specs.code.SectionViews.{sections_view}
use Rattle.tac_faults.proofs.names.name_faults.Goals as goal

pub returns : goal.returns
returns c =
    let text = c.args.text.now in
    let known : List Token = titles (sections_view text c.args.sections.now) in
    let titled = c.in_ok-titles.ensures text in
    let first = ap (λ ts. tokens_view text ts) c.deref.ensures.value ∙ titled in
    let second = ap (λ ts. tokens_view text ts) c.deref-2.ensures.value ∙ titled in
    let third = ap (λ ts. tokens_view text ts) c.deref-3.ensures.value ∙ titled in
    let table = c.in_ok-procedures.ensures ∙ ap (λ ts. each_once (names_in ts)) first in
    told_seven most_found c.new-found.result.items c.tell_repeated.new.found.items c.tell_labels.new.found.items c.tell_jumps.new.found.items
    c.tell_callees.new.found.items c.tell_calls.new.found.items c.tell_no_main.new.found.items c.tell_many.new.found.items _ _ _ _ _ _ _
    c.new-found.ensures.items
    (c.in_ok-tell_repeated.ensures ∙ ap (λ ts. take most_found (c.new-found.result.items ++ repeated DuplicateProcedure [] ts)) second)
    c.in_ok-tell_labels.ensures c.in_ok-tell_jumps.ensures (c.in_ok-tell_callees.ensures known table) c.in_ok-tell_calls.ensures
    (c.in_ok-tell_no_main.ensures known table)
    (c.in_ok-tell_many.ensures text
    ∙ ap (λ ts. take most_found (c.tell_no_main.new.found.items
    ++ flat_map (λ (t : Token). at TooManyProcedures t.start) (drop (most_procedures c.args.limits) ts))) third)
