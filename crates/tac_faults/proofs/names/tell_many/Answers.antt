use Rattle.std.proofs.Common.{◌∙◌, ◌++◌, ap, flat_map, min, take}
use Rattle.std.proofs.lemmas.List.{drop_all}
use Rattle.tac_faults.proofs.Lists.{told_all, told_more}
use Rattle.tac_faults.proofs.NameLists.{last_titles}
use Rattle.tac_faults.specs.Listed.{most_found}
use Rattle.tac_lines.specs.LineFaults.{at}
use Rattle.tac_lines.specs.Tokens.{Token}
use Rattle.tac_lines.specs.code.Views.{token_view, tokens_view}
use Rattle.tac_lines.specs.declared.refusal.RefusalKind.TheVariants.{TooManyProcedures}
use Rattle.tac_faults.proofs.names.tell_many.Goals as goal

pub loop-title-preserved : goal.loop-title-preserved
loop-title-preserved c text =
    told_more (λ (t : Token). at TooManyProcedures t.start) (token_view text) most_found _ c.loop-title.title-index _ c.loop-title.found.items
    c.tell.new.found.items _ c.loop-title-test.true c.in_ok-tell.ensures (c.loop-title.invariant text)

pub returns : goal.returns
returns c text =
    told_all most_found c.loop-title.found.items _ _
    (ap (λ ts. flat_map (λ (t : Token). at TooManyProcedures t.start) (tokens_view text ts)) (drop_all _ _ c.loop-title-test.false))
    (c.loop-title.invariant text)
    ∙ ap (λ ts. take most_found (c.args.found.now.items ++ flat_map (λ (t : Token). at TooManyProcedures t.start) ts))
    (last_titles text c.args.titles.now _ c.min-most.result (c.min-most.ensures ∙ ap (min _) c.procedures.ensures))
