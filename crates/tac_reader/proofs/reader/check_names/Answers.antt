use Rattle.std.proofs.lemmas.Result.{err_from_is_err_and}
use Rattle.tac_reader.specs.code.SectionViews.{sections_view}
use Rattle.tac_reader.proofs.programs.ReadSteps.{procedure_fault}
use Rattle.tac_reader.proofs.reader.check_names.Goals as goal

pub returns-in_err-procedures-clause-fault : goal.returns-in_err-procedures-clause-fault
returns-in_err-procedures-clause-fault c =
    let p = err_from_is_err_and c.from_residual.result c.from_residual.ensures.1 in
    let ss = sections_view c.args.text.now c.args.sections.now in
    rw p.1 (rw p.2 (procedure_fault c.args.limits ss c.in_err-procedures.field-0.0 c.in_err-procedures.ensures.fault))
