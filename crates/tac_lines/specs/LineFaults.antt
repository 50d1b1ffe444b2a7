-- The faults that a line shows by itself.
use Rattle.std.specs.Prelude.{ℕ, Bool, true, false, ◌&&◌, ◌||◌, List, [], ◌∷◌, ◌++◌, flat_map, length, Option, Some, None, is_some, nat_le, nat_lt}
use Rattle.std.specs.Prelude.{◌==◌, if◌then◌else◌}
use Rattle.tac_lines.specs.Tokens.{name, number, fixed, Token, Row, stop_of}
use Rattle.tac_lines.specs.Forms.{proc_form, end_form, has_form, labels_of, behind_labels, forms_for, some_form, first_wrong}
use Rattle.tac_lines.specs.declared.fault.Fault.{Fault}
use Rattle.tac_lines.specs.declared.refusal.RefusalKind.{RefusalKind}
use Rattle.tac_lines.specs.declared.refusal.RefusalKind.TheVariants as kind
use Rattle.tac_program.specs.Limits.{largest_number, longest_name}

abbrev pub number_of_kind : RefusalKind → ℕ
number_of_kind kind.BadByte = 1
number_of_kind kind.NumberTooLarge = 2
number_of_kind kind.NameTooLong = 3
number_of_kind kind.Syntax = 4
number_of_kind kind.Unclosed = 5
number_of_kind kind.NoMain = 6
number_of_kind kind.DuplicateProcedure = 7
number_of_kind kind.DuplicateLabel = 8
number_of_kind kind.UnknownLabel = 9
number_of_kind kind.UnknownProcedure = 10
number_of_kind kind.TextTooLong = 11
number_of_kind kind.TooManyProcedures = 12
number_of_kind kind.DuplicateCallee = 13

abbrev pub at : RefusalKind → ℕ → List Fault
at kind place = record { kind = kind; place = place } ∷ []

abbrev pub word_fault : Token → List Fault
word_fault t =
    elim (t.word) [
      | name s ↦ (if nat_lt longest_name (length s) then at kind.NameTooLong t.start else [])
      | number n ↦ (if nat_lt largest_number n then at kind.NumberTooLarge t.start else [])
      | fixed s ↦ []
    ]

abbrev pub bad_fault : Option ℕ → List Fault
bad_fault None = []
bad_fault (Some place) = at kind.BadByte place

-- Syntax: the first wrong token, or behind the last token of a line that is not whole; a line with a bad byte is not asked to be whole.
abbrev pub form_fault : Bool → Row → List Fault
form_fault inside row =
    let labels : List Token = (if inside then labels_of row.tokens else []) in
    let others : List Token = (if inside then behind_labels row.tokens else row.tokens) in
    elim (first_wrong (forms_for inside labels) [] others) [
      | Some t ↦ at kind.Syntax t.start
      | None ↦ (if some_form (forms_for inside labels) others || is_some row.bad then [] else at kind.Syntax (stop_of row.tokens))
    ]

abbrev pub row_faults : Bool → Row → List Fault
row_faults inside row = bad_fault row.bad ++ flat_map word_fault row.tokens ++ form_fault inside row

-- Whether the next line stands inside a procedure.
abbrev pub inside_after : Bool → Row → Bool
inside_after inside row = if has_form proc_form row.tokens then true else if has_form end_form row.tokens then false else inside

abbrev pub line_faults : Bool → ℕ → List Row → List Fault
line_faults inside text_end [] = if inside then at kind.Unclosed text_end else []
line_faults inside text_end (row ∷ others) = row_faults inside row ++ line_faults (inside_after inside row) text_end others

-- The fault at the first place, and at one place the one of the smaller number.
abbrev pub precedes : Fault → Fault → Bool
precedes a b = nat_lt a.place b.place || (a.place == b.place && nat_le (number_of_kind a.kind) (number_of_kind b.kind))

abbrev pub earlier : Fault → Option Fault → Fault
earlier a None = a
earlier a (Some b) = if precedes a b then a else b

abbrev pub first_by_place : List Fault → Option Fault
first_by_place [] = None
first_by_place (f ∷ fs) = Some (earlier f (first_by_place fs))
