-- What the listing of a text without faults goes by: words that read back, and names that are known.
use Rattle.std.proofs.Common.{◌≡◌, ℕ, ◌⊎◌, inl, inr, Bool, true, false, ◌&&◌, List, [], ◌∷◌, flat_map, refl, subst, None, Some, if◌then◌else◌, codes}
use Rattle.std.specs.List.{AllByRecursion as Each}
use Rattle.std.proofs.lemmas.Bool.{and_parts}
use Rattle.tac_lines.specs.Tokens.{Token, unless_empty}
use Rattle.tac_lines.specs.Forms.{Slot, fills, label, key, has_form, label_form, statements, statement_row, labels_of, behind_labels, in_slot}
use Rattle.tac_lines.specs.Forms.{is_name_word, is_label, is_callee, is_variable}
use Rattle.tac_reader.specs.Sections.{Section, sections, titles, only_name}
use Rattle.tac_reader.specs.Parses.{names_in, names_for, variables_in}
use Rattle.tac_program.specs.Names.{Names}
use Rattle.tac_reader.specs.Faults.{refusal_within}
use Rattle.tac_program.specs.declared.limits.Limits.{Limits}
use Rattle.tac_lines.specs.declared.form.Form.{Form}
use Rattle.tac_program.proofs.lists.Elements.{each-weaker, each-from_flat_map}
use Rattle.tac_reader.proofs.tokens.Bare.{words_of}
use Rattle.tac_reader.proofs.layouts.StatementTexts.{Resolved}
use Rattle.tac_reader.proofs.programs.ResolvedWords.{resolved, form_row, row_has_form}
use Rattle.tac_reader.proofs.lines.FaultlessLines.{Sound, Inner}
use Rattle.tac_reader.proofs.programs.FaultlessStatements.{KnownVariable, KnownLabel, KnownProcedure, IsFaultlessStatement, line_statements}
use Rattle.tac_reader.proofs.programs.SoundStatements.{NamesAreKnown, cells_are}
use Rattle.tac_reader.proofs.programs.SoundPrograms.{IsLawfulSection, no_faults, none_refused, text_lawful}

-- A name, and a statement and a line whose names are known.
pub record LabelGood (t : Token) : Type 0 where
  pub named : is_name_word t.word ≡ true
  pub sound : Sound t

pub record StatementGood (names : Names) (ts : List Token) : Type 0 where
  pub row : Form × List Slot
  pub is_row : statement_row ts ≡ Some row
  pub resolved : Resolved names row.1 (words_of ts)
  pub words : Each Sound ts

pub record LineGood (names : Names) (line : List Token) : Type 0 where
  pub labels : Each LabelGood (labels_of line)
  pub statement : (behind_labels line ≡ []) ⊎ StatementGood names (behind_labels line)

pub record SectionGood (procedures variables : List (List ℕ)) (s : Section) : Type 0 where
  pub title : LabelGood s.title
  pub body : Each (LineGood (names_for procedures variables s)) s.body

each_label : (line : List Token) → Each Sound line → Each LabelGood (labels_of line)
each_label [] h = tt
each_label (t ∷ []) h = tt
each_label (t ∷ u ∷ ts) h = go (has_form label_form (t ∷ u ∷ [])) refl (each_label ts h.1.1) where
  go : (b : Bool) → has_form label_form (t ∷ u ∷ []) ≡ b → Each LabelGood (labels_of ts) → Each LabelGood (if b then t ∷ labels_of ts else [])
  go true e k = (record { named = (and_parts (fills label t.word) (fills (key (codes ":")) u.word && true) e).0; sound = h.0 }, k)
  go false e k = tt

module _ (names : Names) where
  statement_good : (ts : List Token) → IsFaultlessStatement ts → NamesAreKnown names ts → StatementGood names ts
  statement_good ts h k =
      let row = form_row ts statements h.form in
      let cells = cells_are ts row.0 row.1 in
      record {
        row = row.0;
        is_row = row.1;
        resolved = resolved names row.0.1 ts (row_has_form ts row.0 row.1)
            (subst (λ c. Each (KnownLabel names) (in_slot is_label c)) cells k.labels)
            (subst (λ c. Each (KnownProcedure names) (in_slot is_callee c)) cells k.procedures)
            (subst (λ c. Each (KnownVariable names) (flat_map only_name (in_slot is_variable c))) cells k.variables);
        words = h.words;
      }

  line_good : (line : List Token) → Inner line → Each (NamesAreKnown names) (unless_empty (behind_labels line)) → LineGood names line
  line_good line h k = record { labels = each_label line (h.0).words; statement = go (behind_labels line) (line_statements line h) k } where
    go : (ts : List Token) → Each IsFaultlessStatement (unless_empty ts) → Each (NamesAreKnown names) (unless_empty ts)
        → (ts ≡ []) ⊎ StatementGood names ts
    go [] f n = inl refl
    go (t ∷ ts) f n = inr (statement_good (t ∷ ts) f.0 n.0)

  lines_good : (body : List (List Token)) → Each Inner body → Each (λ line. Each (NamesAreKnown names) (unless_empty (behind_labels line))) body
      → Each (LineGood names) body
  lines_good [] h k = tt
  lines_good (line ∷ others) h k = (line_good line h.0 k.0, lines_good others h.1 k.1)

section_good : (procedures variables : List (List ℕ)) (s : Section) → IsLawfulSection procedures variables s → SectionGood procedures variables s
section_good procedures variables s h =
    let names : Names = names_for procedures variables s in
    record {
      title = record { named = (h.faultless).named; sound = (h.faultless).word };
      body = lines_good names s.body (h.faultless).lines
          (each-from_flat_map (NamesAreKnown names) (λ line. unless_empty (behind_labels line)) s.body h.known);
    }

pub sections_good : (limits : Limits) (text : List ℕ) → refusal_within limits text ≡ None
    → Each (SectionGood (names_in (titles (sections text))) (variables_in (sections text))) (sections text)
sections_good limits text h =
    let procedures : List (List ℕ) = names_in (titles (sections text)) in
    let variables : List (List ℕ) = variables_in (sections text) in
    each-weaker (IsLawfulSection procedures variables) (SectionGood procedures variables) (section_good procedures variables) (sections text)
    (text_lawful limits text (no_faults limits text (none_refused limits text h)))
