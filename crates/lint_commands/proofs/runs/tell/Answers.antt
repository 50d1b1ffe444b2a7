use Rattle.std.proofs.Common.{subst, inl, refl, true}
use Rattle.flow_runs.specs.Runs.{HasNoGraph, IsOverLimit, Lacking}
use Rattle.tac_program.specs.Programs.{Program}
use Rattle.lint_commands.specs.Runs.{LacksProcedure, LintsWithin, name_asked, wanted_of}
use Rattle.lint_commands.proofs.Deliveries.{cause_as, told_as}
use Rattle.lint_commands.proofs.runs.tell.Goals as goal

pub returns-in-Ok-clause-delivers : goal.returns-in-Ok-clause-delivers
returns-in-Ok-clause-delivers g c =
    told_as _ _ _ _ c.push_lints.result
    (λ what out is. inl (record {
      faultless = c.in-Ok.ensures.accepted;
      lints = subst (λ (p : Program). LintsWithin (wanted_of c.args.asked) p what out) c.in-Ok.ensures.program is;
    }))
    c.push_lints.ensures.delivers

pub returns-in-Ok-clause-fault : goal.returns-in-Ok-clause-fault
returns-in-Ok-clause-fault g c =
    let asked = c.args.asked in
    let lacks = LacksProcedure (name_asked asked.request) in
    cause_as (IsOverLimit asked.limits c.in-Ok.program) (HasNoGraph asked.limits true asked.file.text.now) (lacks c.in-Ok.program)
    (Lacking asked.limits lacks asked.file.text.now) c.push_lints.result
    (λ cause over. record {
      faultless = c.in-Ok.ensures.accepted;
      needed = refl;
      over = subst (λ (p : Program). IsOverLimit asked.limits p cause) c.in-Ok.ensures.program over;
    })
    (λ missing. record { faultless = c.in-Ok.ensures.accepted; lacks = subst lacks c.in-Ok.ensures.program missing })
    c.push_lints.ensures.fault
