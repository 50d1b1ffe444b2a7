use Rattle.std.proofs.Common.{◌≡◌, None, ◌∷◌, List, ℕ, sym, ap, ◌∙◌}
use Rattle.part_texts.specs.Parts.{heading_of}
use Rattle.part_texts.proofs.Words.{more_words}
use Rattle.part_texts.proofs.heading.report_heading.Goals as goal

pub returns-in-Some : goal.returns-in-Some
returns-in-Some c =
    let cons : List ℕ → List (List ℕ) → List (List ℕ) = λ x xs. x ∷ xs in
    sym (ap heading_of (c.in_ok-first.ensures.split ∙ ap (cons _) (c.in_ok-part.ensures.split ∙ ap (cons _) (c.in_ok-second.ensures.split
    ∙ ap (cons _) (c.in_ok-count.ensures.split ∙ ap (cons _) (c.in_ok-third.ensures.split ∙ ap (cons _) c.in-Some.ensures.split)))))
    ∙ more_words c.in_ok-first.first.now c.in_ok-part.part.now c.in_ok-second.second.now c.in_ok-count.count.now c.in_ok-third.third.now
    c.in-Some.field-0.0.now c.in-Some.field-0.1.now)
