-- What one wants to know of the definitions.
use Rattle.std.specs.Prelude.{◌≡◌, ℕ, ◌≤◌, List, ◌++◌, map, length, All, None, slice_range, codes}
use Rattle.tac_lines.specs.Tokens.{fixed, Token, Row, row_from, stop_of}
use Rattle.tac_reader.specs.Sections.{Section, sections, statements_of, titles}
use Rattle.tac_program.specs.Programs.{Procedure, Program}
use Rattle.tac_reader.specs.Parses.{names_for, names_in, operator_of, program_of, start_of, statement_of, variables_in}
use Rattle.tac_program.specs.Spelling.{sign_of}
use Rattle.tac_program.specs.Names.{Names}
use Rattle.tac_reader.specs.Faults.{refusal_within}
use Rattle.tac_program.specs.Limits.{longest_text, most_procedures}
use Rattle.tac_listing.specs.Listings.{listing_of, statement_text}
use Rattle.tac_program.specs.Sound.{IsSound}
use Rattle.tac_program.specs.declared.limits.Limits.{Limits}
use Rattle.tac_program.specs.declared.limits.Limits.TheVariants.{Standard, Large}
use Rattle.tac_program.specs.declared.program.Label.{Label}
use Rattle.tac_program.specs.declared.program.Op.{Op}
use Rattle.tac_program.specs.declared.program.StmtKind.{StmtKind}

-- The bytes of a statement's span have its tokens and nothing else.
abbrev pub StatementsAreSpelled : Type 0
StatementsAreSpelled =
    (text : List ℕ)
    → All (λ s. All (λ ts. row_from (start_of ts) 0 (slice_range text (start_of ts) (stop_of ts)) ≡ record { tokens = ts; bad = None })
    (statements_of s.body)) (sections text)

-- A sign tells its operator, for each of them; so no two have the same.
abbrev pub SignsTellOperators : Type 0
SignsTellOperators = (o : Op) → operator_of (fixed (sign_of o)) ≡ o

abbrev pub SignsDiffer : Type 0
SignsDiffer = (o p : Op) → sign_of o ≡ sign_of p → o ≡ p

-- A line has the words of these tokens and nothing else.
pub record HasWordsOf (ts : List Token) (line : Row) : Type 0 where
  pub words : map (λ t. t.word) line.tokens ≡ map (λ t. t.word) ts
  pub whole : line.bad ≡ None

-- Each statement of the program of a text that is not refused, written out with the names of its numbers, has the words that stand
-- in the text. So no number in it stands for a name that is not there, no operator for another sign, and no statement for another.
abbrev pub KeepsItsWords : List ℕ → Names → List Token → Type 0
KeepsItsWords text names ts = HasWordsOf ts (row_from 0 0 (statement_text names (statement_of text names ts).kind ++ codes "\n"))

abbrev pub SectionKeepsItsWords : List ℕ → Section → Type 0
SectionKeepsItsWords text s =
    All (KeepsItsWords text (names_for (names_in (titles (sections text))) (variables_in (sections text)) s)) (statements_of s.body)

abbrev pub StatementsKeepTheirWords : Type 0
StatementsKeepTheirWords = (limits : Limits) (text : List ℕ) → refusal_within limits text ≡ None → All (SectionKeepsItsWords text) (sections text)

-- The program of a text that is not refused is sound.
abbrev pub ProgramsAreSound : Type 0
ProgramsAreSound = (limits : Limits) (text : List ℕ) → refusal_within limits text ≡ None → IsSound (program_of text)

-- It has no more procedures than the limits allow that the text is read by.
abbrev pub ProgramsAreWithin : Type 0
ProgramsAreWithin =
    (limits : Limits) (text : List ℕ) → refusal_within limits text ≡ None → length (program_of text).procedures ≤ most_procedures limits

-- The text is accepted within the limits, as the text of this program.
pub record IsReadAs (limits : Limits) (text : List ℕ) (p : Program) : Type 0 where
  pub accepted : refusal_within limits text ≡ None
  pub program : p ≡ program_of text

-- What is accepted within the standard limits is accepted within the large ones, as the text of the same program.
abbrev pub LargeLimitsAcceptMore : Type 0
LargeLimitsAcceptMore = (text : List ℕ) (p : Program) → IsReadAs Standard text p → IsReadAs Large text p

-- A procedure without its statements' spans.
abbrev pub without_spans : Procedure → ℕ × List Label × List (List ℕ) × List StmtKind
without_spans p = (p.name, p.labels, p.label_names, map (λ s. s.kind) p.statements)

pub record SameButSpans (p q : Program) : Type 0 where
  pub procedures : map without_spans p.procedures ≡ map without_spans q.procedures
  pub procedure_names : p.procedure_names ≡ q.procedure_names
  pub variable_names : p.variable_names ≡ q.variable_names

-- The listing of a text's program, where it is within the limit of a text, is a text of the same program but for spans. It is accepted
-- within the limits that the text is.
pub record ReadsBack (limits : Limits) (text : List ℕ) : Type 0 where
  pub accepted : refusal_within limits (listing_of (program_of text)) ≡ None
  pub same : SameButSpans (program_of (listing_of (program_of text))) (program_of text)

abbrev pub ListingsReadBack : Type 0
ListingsReadBack =
    (limits : Limits) (text : List ℕ)
    → refusal_within limits text ≡ None → length (listing_of (program_of text)) ≤ longest_text limits → ReadsBack limits text
