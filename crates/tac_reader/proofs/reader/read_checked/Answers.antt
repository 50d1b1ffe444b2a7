use Rattle.std.proofs.Common.{◌∙◌, sym, ap}
use Rattle.std.proofs.lemmas.Result.{err_from_is_err_and}
use Rattle.tac_reader.specs.Parses.{names_in, variables_in}
use Rattle.tac_reader.specs.Sections.{titles}
use Rattle.tac_reader.specs.code.SectionViews.{sections_view}
use Rattle.tac_reader.proofs.programs.ReadSteps.{sections_are, text_fault, no_fault, program_is}
use Rattle.tac_reader.proofs.programs.SoundPrograms.{program_sound}
use Rattle.tac_reader.proofs.reader.read_checked.Goals as goal

pub returns-in_err-procedures-clause-fault : goal.returns-in_err-procedures-clause-fault
returns-in_err-procedures-clause-fault c =
    let text = c.args.text.now in
    let found = c.in_ok-sections.sections.items in
    let ss = sections_are text c.in_ok-lexed.lexed _ _ _ (c.in_ok-sections.ensures text)
    c.of.ensures.tokens c.of.ensures.lines c.in_ok-lexed.ensures.lines in
    let p = err_from_is_err_and c.from_residual-in_err-procedures.result c.from_residual-in_err-procedures.ensures.1 in
    let here = ap (λ x. sections_view text x) c.deref.ensures.value in
    let fault = c.in_err-procedures.ensures.fault in
    rw p.1 (rw p.2 (text_fault c.args.limits text (sections_view text c.deref.result.now) c.in_err-procedures.field-0.0 c.requires
    c.in_ok-lexed.ensures.faultless (here ∙ ss) fault))

pub returns-clause-accepted : goal.returns-clause-accepted
returns-clause-accepted c =
    let text = c.args.text.now in
    let ss = sections_are text c.in_ok-lexed.lexed _ _ _ (c.in_ok-sections.ensures text)
    c.of.ensures.tokens c.of.ensures.lines c.in_ok-lexed.ensures.lines in
    let here = ap (λ x. sections_view text x) c.deref.ensures.value in
    no_fault c.args.limits text (sections_view text c.deref.result.now) c.requires c.in_ok-lexed.ensures.faultless (here ∙ ss)
    c.in_ok-procedures.ensures.faultless

pub returns-clause-program : goal.returns-clause-program
returns-clause-program c =
    let text = c.args.text.now in
    let ss = sections_are text c.in_ok-lexed.lexed _ _ _ (c.in_ok-sections.ensures text)
    c.of.ensures.tokens c.of.ensures.lines c.in_ok-lexed.ensures.lines in
    let names = c.in_ok-procedures.ensures.procedures
    ∙ ap (λ x. names_in (titles (sections_view text x))) (c.deref.ensures.value ∙ sym c.deref-3.ensures.value) in
    let variables =
    c.in_ok-variables.ensures.table ∙ ap (λ x. variables_in (sections_view text x)) (c.deref-2.ensures.value ∙ sym c.deref-3.ensures.value) in
    c.in_ok-program.ensures
    ∙ program_is text (sections_view text c.deref-3.result.now) _ _ (ap (λ x. sections_view text x) c.deref-3.ensures.value ∙ ss) names variables

pub program-requires-clause-sound : goal.program-requires-clause-sound
program-requires-clause-sound c =
    let text = c.args.text.now in
    let ss = sections_are text c.in_ok-lexed.lexed _ _ _ (c.in_ok-sections.ensures text)
    c.of.ensures.tokens c.of.ensures.lines c.in_ok-lexed.ensures.lines in
    let here = ap (λ x. sections_view text x) c.deref.ensures.value in
    let names = c.in_ok-procedures.ensures.procedures
    ∙ ap (λ x. names_in (titles (sections_view text x))) (c.deref.ensures.value ∙ sym c.deref-3.ensures.value) in
    let variables =
    c.in_ok-variables.ensures.table ∙ ap (λ x. variables_in (sections_view text x)) (c.deref-2.ensures.value ∙ sym c.deref-3.ensures.value) in
    let none = no_fault c.args.limits text (sections_view text c.deref.result.now) c.requires c.in_ok-lexed.ensures.faultless (here ∙ ss)
    c.in_ok-procedures.ensures.faultless in
    program_sound c.args.limits text (sections_view text c.deref-3.result.now) _ _ (ap (λ x. sections_view text x) c.deref-3.ensures.value ∙ ss)
    names variables none
