-- Each statement of a text without faults is written out in its own words.
use Rattle.std.proofs.Common.{◌≡◌, ℕ, ◌⊎◌, inl, inr, List, [], ◌∷◌, All, sym, ap, ◌∙◌}
use Rattle.std.specs.List.{AllByRecursion as Each}
use Rattle.std.proofs.lemmas.List.Elements.{All-from_recursion}
use Rattle.tac_lines.specs.Tokens.{fixed, Token, unless_empty}
use Rattle.tac_lines.specs.Forms.{behind_labels}
use Rattle.tac_reader.specs.Sections.{Section, sections, statements_of, titles}
use Rattle.tac_reader.specs.Parses.{names_for, names_in, operator_of, variables_in}
use Rattle.tac_program.specs.Names.{Names}
use Rattle.tac_reader.specs.Laws.{KeepsItsWords, SignsDiffer, StatementsKeepTheirWords}
use Rattle.tac_reader.proofs.layouts.ListingLines.{statement_reads}
use Rattle.tac_program.proofs.lists.Elements.{each-flat_map, each-weaker}
use Rattle.tac_reader.proofs.programs.BuiltWords.{sign_operator}
use Rattle.tac_reader.proofs.sections.GoodSections.{LineGood, SectionGood, StatementGood, sections_good}

module _ (text : List ℕ) (names : Names) where
  kept : (ts : List Token) → (ts ≡ []) ⊎ StatementGood names ts → Each (KeepsItsWords text names) (unless_empty ts)
  kept [] good = tt
  kept (t ∷ ts) (inl none) = absurd (cc none)
  kept (t ∷ ts) (inr good) =
      let line = statement_reads text names [] (t ∷ ts) good in
      (record { words = (line.reads).words 0; whole = (line.reads).whole 0 }, tt)

  lines_kept : (body : List (List Token)) → Each (LineGood names) body → All (KeepsItsWords text names) (statements_of body)
  lines_kept body good =
      All-from_recursion (KeepsItsWords text names) (statements_of body)
      (each-flat_map (KeepsItsWords text names) (λ line. unless_empty (behind_labels line)) body
      (each-weaker (LineGood names) (λ line. Each (KeepsItsWords text names) (unless_empty (behind_labels line)))
      (λ line h. kept (behind_labels line) h.statement) body good))

pub statements_keep_their_words : StatementsKeepTheirWords
statements_keep_their_words limits text accepted =
    let procedures : List (List ℕ) = names_in (titles (sections text)) in
    let variables : List (List ℕ) = variables_in (sections text) in
    let Kept : Section → Type 0 = λ s. All (KeepsItsWords text (names_for procedures variables s)) (statements_of s.body) in
    All-from_recursion Kept (sections text)
    (each-weaker (SectionGood procedures variables) Kept (λ s good. lines_kept text (names_for procedures variables s) s.body good.body)
    (sections text) (sections_good limits text accepted))

pub signs_differ : SignsDiffer
signs_differ o p same = sym (sign_operator o) ∙ ap (λ s. operator_of (fixed s)) same ∙ sign_operator p
