use Rattle.std.proofs.Common.{◌≡◌, ◌∷◌, List, ℕ, sym, ap, ◌∙◌}
use Rattle.part_texts.specs.Shares.{share_of}
use Rattle.part_texts.proofs.Words.{more_than_two}
use Rattle.part_texts.proofs.share.Share.read.Goals as goal

pub returns-in-Some : goal.returns-in-Some
returns-in-Some c =
    let cons : List ℕ → List (List ℕ) → List (List ℕ) = λ x xs. x ∷ xs in
    sym (ap share_of (c.in_ok-part.ensures.split ∙ ap (cons _) c.in-Some.ensures.split)
    ∙ more_than_two c.in_ok-part.part.now c.in-Some.field-0.0.now c.in-Some.field-0.1.now)
