use Rattle.std.proofs.Common.{refl, arith, ◌<◌, length}
use Rattle.std.proofs.lemmas.Option.{slice_get_read}
use Rattle.tac_lines.specs.declared.refusal.RefusalKind.TheVariants.{TooManyProcedures}
use Rattle.tac_reader.proofs.lines.FirstFaults.{one_past}
use Rattle.tac_reader.proofs.checks.check_count.Goals as goal

pub returns : goal.returns
returns c text =
    let sections = c.args.sections.now in
    let most = c.procedures-most.result in
    let one = c.index-sections-most in
    let within : most < length sections = omega (arith, c.if-sections-most.false) in
    let read = slice_get_read sections (length sections) most one.result refl within one.is in
    rw (← c.procedures-most.ensures) (rw (← one.is) (one_past TooManyProcedures text most sections one.result read))
