use Rattle.std.proofs.Common.{◌∙◌, Option, List, ℕ, ap}
use Rattle.flow_runs.proofs.deliveries.Deliveries.{delivers_as}
use Rattle.page_texts.specs.Pages.{page_of}
use Rattle.view_commands.proofs.views.push_page.Goals as goal

pub returns-clause-delivers : goal.returns-clause-delivers
returns-clause-delivers g c =
    delivers_as _ _ _ _ c.push_text.result
    (λ out is. is ∙ c.in_ok-page.ensures ∙ ap (λ (title : Option (List ℕ)). page_of title (g.T.Text.bytes c.args.lines.now)) c.title_of.ensures)
    c.push_text.ensures.delivers
