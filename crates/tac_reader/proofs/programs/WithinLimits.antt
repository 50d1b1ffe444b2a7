-- A program has no more procedures than the limits allow, and the large limits accept what the standard ones do.
use Rattle.std.proofs.Common.{◌≡◌, ℕ, ◌≤◌, List, [], ◌++◌, flat_map, length, drop, option_map, ap, ◌∙◌, arith}
use Rattle.std.proofs.lemmas.List.{drop_all, length-map}
use Rattle.tac_lines.specs.Tokens.{Token}
use Rattle.tac_lines.specs.LineFaults.{at}
use Rattle.tac_lines.specs.declared.fault.Fault.{Fault}
use Rattle.tac_lines.specs.declared.refusal.RefusalKind.TheVariants as kind
use Rattle.tac_program.specs.Limits.{most_procedures}
use Rattle.tac_program.specs.declared.limits.Limits.TheVariants.{Standard, Large}
use Rattle.tac_program.proofs.lists.Elements.{no_left}
use Rattle.tac_reader.specs.Sections.{Section, sections, titles}
use Rattle.tac_reader.specs.Parses.{names_in, variables_in}
use Rattle.tac_reader.specs.Faults.{head_of, name_faults, refusal_at}
use Rattle.tac_reader.specs.Laws.{LargeLimitsAcceptMore, ProgramsAreWithin}
use Rattle.tac_reader.proofs.known_names.NameFaults.{name_fault, none_head}
use Rattle.tac_reader.proofs.programs.LargeLimits.{text_within_large}
use Rattle.tac_reader.proofs.programs.SoundPrograms.{none_refused, no_faults, text_few, length-procedures_from}

none_over : (n : ℕ) (ts : List Token) → length ts ≤ n → flat_map (λ t. at kind.TooManyProcedures t.start) (drop n ts) ≡ []
none_over n ts h = ap (flat_map (λ t. at kind.TooManyProcedures t.start)) (drop_all n ts h)

other_last : (front last other : List Fault) → front ++ last ≡ [] → other ≡ [] → front ++ other ≡ []
other_last front last other e none = ap (λ fs. fs ++ other) (no_left front last e) ∙ none

-- Sections without a fault of names within the standard limits have none within the large ones.
larger_limits : (ss : List Section) → length (titles ss) ≤ most_procedures Standard → name_faults Standard ss ≡ [] → name_faults Large ss ≡ []
larger_limits ss few e = other_last _ _ _ e (none_over (most_procedures Large) (titles ss) (omega (arith, few)))

pub programs_are_within : ProgramsAreWithin
programs_are_within limits text accepted =
    let ss : List Section = sections text in
    let few : length (titles ss) ≤ most_procedures limits = text_few limits text (no_faults limits text (none_refused limits text accepted)) in
    omega (arith, few, length-map ss (λ s. s.title), length-procedures_from text (names_in (titles ss)) (variables_in ss) 0 ss)

pub large_limits_accept_more : LargeLimitsAcceptMore
large_limits_accept_more text p h =
    let faultless = no_faults Standard text (none_refused Standard text h.accepted) in
    let ss : List Section = sections text in
    let names : name_faults Large ss ≡ [] =
    larger_limits ss (text_few Standard text faultless) (none_head (name_faults Standard ss) faultless.names) in
    record {
      accepted = ap (option_map (refusal_at text))
          (name_fault Large text (text_within_large Standard (length text) faultless.short) faultless.lines ∙ ap head_of names);
      program = h.program;
    }
