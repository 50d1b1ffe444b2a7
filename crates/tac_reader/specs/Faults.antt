-- Why a text is no program, and where its first fault stands.
use Rattle.std.specs.Prelude.{ℕ, true, false, List, [], ◌∷◌, ◌++◌, flat_map, length, drop, take, Option, Some, None, option_map, nat_lt}
use Rattle.std.specs.Prelude.{if◌then◌else◌, codes}
use Rattle.tac_lines.specs.Text.{line_after, column_after}
use Rattle.tac_lines.specs.Tokens.{Token, rows, spelling_of}
use Rattle.tac_program.specs.Names.{is_one_of}
use Rattle.tac_lines.specs.Forms.{jumps_of, callees_of}
use Rattle.tac_reader.specs.Sections.{Section, sections, titles, labels_in, statements_of}
use Rattle.tac_reader.specs.Parses.{names_in}
use Rattle.tac_lines.specs.declared.fault.Fault.{Fault}
use Rattle.tac_lines.specs.declared.refusal.Refusal.{Refusal}
use Rattle.tac_lines.specs.declared.refusal.RefusalKind.{RefusalKind}
use Rattle.tac_lines.specs.declared.refusal.RefusalKind.TheVariants as kind
use Rattle.tac_program.specs.Limits.{longest_text, most_procedures}
use Rattle.tac_program.specs.declared.limits.Limits.{Limits}
use Rattle.tac_program.specs.declared.limits.Limits.TheVariants.{Standard}
use Rattle.tac_lines.specs.LineFaults.{at, first_by_place, line_faults}

-- The tokens whose names stand earlier among them, and the tokens whose names are not among the known ones.
abbrev pub repeated : RefusalKind → List (List ℕ) → List Token → List Fault
repeated kind before [] = []
repeated kind before (t ∷ ts) = (if is_one_of (spelling_of t) before then at kind t.start else []) ++ repeated kind (before ++ spelling_of t ∷ []) ts

abbrev pub unknown : RefusalKind → List Token → List Token → List Fault
unknown kind known used = flat_map (λ t. if is_one_of (spelling_of t) (names_in known) then [] else at kind t.start) used

abbrev pub jumps_in : Section → List Token
jumps_in s = flat_map jumps_of (statements_of s.body)

abbrev pub callees_in : Section → List Token
callees_in s = flat_map callees_of (statements_of s.body)

-- The faults of names, in the order in which they are looked for; last the procedures that are more than the limits allow.
abbrev pub name_faults : Limits → List Section → List Fault
name_faults limits ss =
    repeated kind.DuplicateProcedure [] (titles ss)
    ++ flat_map (λ s. repeated kind.DuplicateLabel [] (labels_in s)) ss
    ++ flat_map (λ s. unknown kind.UnknownLabel (labels_in s) (jumps_in s)) ss
    ++ flat_map (λ s. unknown kind.UnknownProcedure (titles ss) (callees_in s)) ss
    ++ flat_map (λ s. flat_map (λ c. repeated kind.DuplicateCallee [] (callees_of c)) (statements_of s.body)) ss
    ++ (if is_one_of (codes "main") (names_in (titles ss)) then [] else at kind.NoMain 0)
    ++ flat_map (λ t. at kind.TooManyProcedures t.start) (drop (most_procedures limits) (titles ss))

abbrev pub head_of : List Fault → Option Fault
head_of [] = None
head_of (f ∷ fs) = Some f

-- The fault that a text is refused for within limits: its length first; then what a line shows, by place; then names.
abbrev pub fault_within : Limits → List ℕ → Option Fault
fault_within limits text =
    elim (nat_lt (longest_text limits) (length text)) [
      | true ↦ Some (record { kind = kind.TextTooLong; place = 0 })
      | false ↦ elim (first_by_place (line_faults false (length text) (rows text))) [
        | Some f ↦ Some f
        | None ↦ head_of (name_faults limits (sections text))
      ]
    ]

abbrev pub fault_of : List ℕ → Option Fault
fault_of = fault_within Standard

abbrev pub refusal_at : List ℕ → Fault → Refusal
refusal_at text f = record { kind = f.kind; line = line_after (take f.place text); column = column_after (take f.place text) }

abbrev pub refusal_within : Limits → List ℕ → Option Refusal
refusal_within limits text = option_map (refusal_at text) (fault_within limits text)

abbrev pub refusal_of : List ℕ → Option Refusal
refusal_of = refusal_within Standard
