-- What is told of a name that is there already, or that there is not.
use Rattle.std.specs.Prelude.{ℕ, ◌-◌, ◌==◌, List, length, take, find, Option, Some, None, bytes_eq, codes}
use Rattle.tac_lines.specs.Forms.{callees_of}
use Rattle.tac_lines.specs.Text.{line_after}
use Rattle.tac_lines.specs.Tokens.{Token, spelling_of}
use Rattle.tac_lines.specs.declared.refusal.RefusalKind.{RefusalKind}
use Rattle.tac_lines.specs.declared.refusal.RefusalKind.TheVariants as kind
use Rattle.tac_program.specs.Limits.{most_procedures}
use Rattle.tac_program.specs.declared.limits.Limits.{Limits}
use Rattle.tac_reader.specs.Faults.{callees_in, jumps_in}
use Rattle.tac_reader.specs.Sections.{Section, labels_in, statements_of, titles}
use Rattle.tac_faults.specs.declared.slips.Hint.{Hint}
use Rattle.tac_faults.specs.declared.slips.Hint.TheVariants as hint
use Rattle.tac_faults.specs.Hints.Choices.{any_hint}
use Rattle.tac_faults.specs.Hints.Near.{is_near}
use Rattle.tac_faults.specs.Hints.Places.{bytes}

-- The first of the known names that is one slip away, or the same.
abbrev pub nearest : List ℕ → List Token → Option Token
nearest s known = find (λ t. is_near s (spelling_of t)) known

abbrev pub first_same : List ℕ → List Token → Option Token
first_same s known = find (λ t. bytes_eq s (spelling_of t)) known

abbrev pub near_hint : Option Token → Hint
near_hint None = hint.None
near_hint (Some t) = hint.Nearest (bytes t.start t.stop)

abbrev pub same_hint : List ℕ → Option Token → Hint
same_hint text None = hint.None
same_hint text (Some t) = hint.First (line_after (take t.start text)) (bytes t.start t.stop)

-- Of the name at a place, where it is one of those used, among the known ones.
abbrev pub token_at : List Token → ℕ → Option Token
token_at used place = find (λ t. t.start == place) used

abbrev pub nearest_at : List Token → List Token → ℕ → Hint
nearest_at used known place = elim (token_at used place) [ None ↦ hint.None | Some t ↦ near_hint (nearest (spelling_of t) known) ]

abbrev pub first_at : List ℕ → List Token → ℕ → Hint
first_at text used place = elim (token_at used place) [ None ↦ hint.None | Some t ↦ same_hint text (first_same (spelling_of t) used) ]

abbrev pub jump_hint : ℕ → Section → Hint
jump_hint place s = nearest_at (jumps_in s) (labels_in s) place

abbrev pub label_hint : List ℕ → ℕ → Section → Hint
label_hint text place s = first_at text (labels_in s) place

abbrev pub callee_hint : List Token → ℕ → Section → Hint
callee_hint known place s = nearest_at (callees_in s) known place

abbrev pub call_hint : List ℕ → ℕ → Section → Hint
call_hint text place s = any_hint (λ c. first_at text (callees_of c) place) (statements_of s.body)

-- Of a fault of names at a place.
abbrev pub name_hint : Limits → RefusalKind → List ℕ → List Section → ℕ → Hint
name_hint limits kind.DuplicateProcedure text ss place = first_at text (titles ss) place
name_hint limits kind.DuplicateLabel text ss place = any_hint (label_hint text place) ss
name_hint limits kind.UnknownLabel text ss place = any_hint (jump_hint place) ss
name_hint limits kind.UnknownProcedure text ss place = any_hint (callee_hint (titles ss) place) ss
name_hint limits kind.DuplicateCallee text ss place = any_hint (call_hint text place) ss
name_hint limits kind.NoMain text ss place = near_hint (nearest (codes "main") (titles ss))
name_hint limits kind.TooManyProcedures text ss place = hint.ManyProcedures (length (titles ss) - most_procedures limits)
name_hint limits _ text ss place = hint.None
