use Rattle.std.proofs.Common.{◌≡◌, None, ◌∷◌, List, ℕ, sym, ap, ◌∙◌}
use Rattle.part_texts.specs.Parts.{json_heading_of}
use Rattle.part_texts.proofs.Words.{more_fields}
use Rattle.part_texts.proofs.json_heading.json_heading.Goals as goal

pub returns-in-Some : goal.returns-in-Some
returns-in-Some c =
    let cons : List ℕ → List (List ℕ) → List (List ℕ) = λ x xs. x ∷ xs in
    sym (ap json_heading_of (c.in_ok-type_field.ensures.split ∙ ap (cons _) (c.in_ok-version.ensures.split ∙ ap (cons _) (c.in_ok-part.ensures.split
    ∙ ap (cons _) (c.in_ok-count.ensures.split ∙ ap (cons _) c.in-Some.ensures.split))))
    ∙ more_fields c.in_ok-type_field.type_field.now c.in_ok-version.version.now c.in_ok-part.part.now c.in_ok-count.count.now
    c.in-Some.field-0.0.now c.in-Some.field-0.1.now)
