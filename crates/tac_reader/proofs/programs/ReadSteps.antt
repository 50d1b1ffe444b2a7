-- From the steps of reading to the text's program.
use Rattle.std.proofs.Common.{◌≡◌, ℕ, List, [], ◌∷◌, map, refl, sym, ap, ◌∙◌, Some, None, false, length, ◌≤◌}
use Rattle.tac_lines.specs.Tokens.{rows, token_lines}
use Rattle.tac_reader.specs.Sections.{Section, sections, sections_in, titles}
use Rattle.tac_program.specs.Programs.{Program}
use Rattle.tac_reader.specs.Parses.{program_of, procedures_from, names_in, variables_in}
use Rattle.tac_lines.specs.code.Lexed.{text_lines, IfFault}
use Rattle.tac_lines.specs.code.Ranges.{range_view, range_views}
use Rattle.tac_lines.specs.code.Views.{tokens_view}
use Rattle.tac_reader.specs.Faults.{head_of, fault_within, repeated, name_faults}
use Rattle.tac_lines.specs.LineFaults.{first_by_place, line_faults}
use Rattle.tac_program.specs.Limits.{longest_text}
use Rattle.tac_program.specs.declared.limits.Limits.{Limits}
use Rattle.tac_lines.specs.declared.refusal.RefusalKind.TheVariants as kind
use Rattle.tac_reader.proofs.known_names.NameFaults.{first_1, name_fault}
use Rattle.tac_lines.specs.declared.fault.Stop.{Stop}
use Rattle.tac_lines.specs.declared.fault.Stop.TheVariants as stop
use Rattle.tac_lines.specs.declared.lexed.Lexed.{Lexed}
use Rattle.tac_lines.specs.declared.lexed.LineRange.{LineRange}
use Rattle.tac_lines.specs.declared.token.Token.{Token}

views : (text : List ℕ) (tokens : List Token) (lines : List LineRange)
    → map (range_view text tokens) lines ≡ map (tokens_view text) (range_views tokens lines)
views text tokens [] = refl
views text tokens (l ∷ ls) = ap (λ r. range_view text tokens l ∷ r) (views text tokens ls)

pub sections_are : (text : List ℕ) (lexed : Lexed) (tokens : List Token) (lines : List LineRange) (found : List Section)
    → found ≡ sections_in (map (range_view text tokens) lines) → tokens ≡ lexed.tokens.items → lines ≡ lexed.lines.items
    → text_lines text lexed ≡ token_lines (rows text) → found ≡ sections text
sections_are text lexed tokens lines found e f g h =
    e ∙ (λ i. sections_in (map (range_view text (f i)) (g i))) ∙ ap sections_in (views text lexed.tokens.items lexed.lines.items ∙ h)

pub program_is : (text : List ℕ) (ss : List Section) (procedures variables : List (List ℕ)) → ss ≡ sections text → procedures ≡ names_in (titles ss)
    → variables ≡ variables_in ss → (let p : Program =
    record { procedures = procedures_from text procedures variables 0 ss; procedure_names = procedures; variable_names = variables } in p)
    ≡ program_of text
program_is text ss procedures variables e f g = λ i.
    let all : List Section = e i in
    let names : List (List ℕ) = (f ∙ ap (λ s. names_in (titles s)) e) i in
    let vars : List (List ℕ) = (g ∙ ap variables_in e) i in
    record { procedures = procedures_from text names vars 0 all; procedure_names = names; variable_names = vars }

pub procedure_fault : (limits : Limits) (ss : List Section) (s : Stop)
    → IfFault (λ f. head_of (repeated kind.DuplicateProcedure [] (titles ss)) ≡ Some f) s → IfFault (λ f. head_of (name_faults limits ss) ≡ Some f) s
procedure_fault limits ss (stop.Fault f) h = first_1 (repeated kind.DuplicateProcedure [] (titles ss)) _ _ _ _ _ _ f h
procedure_fault limits ss stop.OutOfMemory h = tt

pub text_fault : (limits : Limits) (text : List ℕ) (ss : List Section) (s : Stop) → length text ≤ longest_text limits
    → first_by_place (line_faults false (length text) (rows text)) ≡ None → ss ≡ sections text
    → IfFault (λ f. head_of (name_faults limits ss) ≡ Some f) s → IfFault (λ f. fault_within limits text ≡ Some f) s
text_fault limits text ss (stop.Fault f) small none e h = name_fault limits text small none ∙ ap (λ x. head_of (name_faults limits x)) (sym e) ∙ h
text_fault limits text ss stop.OutOfMemory small none e h = tt

pub no_fault : (limits : Limits) (text : List ℕ) (ss : List Section) → length text ≤ longest_text limits
    → first_by_place (line_faults false (length text) (rows text)) ≡ None → ss ≡ sections text → head_of (name_faults limits ss) ≡ None
    → fault_within limits text ≡ None
no_fault limits text ss small none e h = name_fault limits text small none ∙ ap (λ x. head_of (name_faults limits x)) (sym e) ∙ h
