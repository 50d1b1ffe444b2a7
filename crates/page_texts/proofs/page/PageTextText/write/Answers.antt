use Rattle.std.proofs.Common.{◌∙◌, ap₂}
use Rattle.text_pieces.proofs.sinks.Taking.{takes_as, takes_then}
use Rattle.page_texts.specs.Pages.{page_around}
use Rattle.page_texts.proofs.page.PageTextText.write.Goals as goal

pub returns : goal.returns
returns g c =
    let lines = takes_then _ _ _ _ _ c.write_safe-2.ensures c.write_behind.ensures in
    takes_as _ _ _ _ (takes_then _ _ _ _ _ c.write_before.ensures (takes_then _ _ _ _ _ c.write_safe.ensures lines))
    (ap₂ page_around c.deref.ensures.value c.deref-2.ensures.value ∙ c.self.view_is)
