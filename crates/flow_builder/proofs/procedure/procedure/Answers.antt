use Rattle.std.proofs.Common.{◌≡◌, ◌∙◌, ◌≤◌, rules, length, map, sym, ap, subst, arith}
use Rattle.std.specs.List.Sorted.{IsNonDecreasing}
use Rattle.tac_program.specs.Sound.{IsSoundProcedure}
use Rattle.tac_program.specs.declared.program.Label.{Label}
use Rattle.flow_builder.specs.Built.{procedure_of}
use Rattle.flow_builder.proofs.Lists.{places_of_labels}
use Rattle.flow_builder.proofs.SoundProcedures.{known, sound_procedure}
use Rattle.flow_builder.proofs.procedure.procedure.Goals as goal

pub new-requires : goal.new-requires
new-requires c =
    subst IsNonDecreasing
    (sym (ap (map (λ (l : Label). l.place)) c.in_ok-labels.ensures.labels ∙ places_of_labels 0 c.args.own.places.now)) c.in_ok-labels.ensures.rise

pub returns-clause-sound : goal.returns-clause-sound
returns-clause-sound c =
    let shared = c.args.shared in
    let own = c.args.own in
    let enough : length own.places.now ≤ length shared.label_names.now = omega arith in
    let is : c.new.result ≡ procedure_of shared.label_names.now shared.callees.now c.args.number own.statements.now own.places.now = search rules in
    subst (IsSoundProcedure shared.variables shared.procedures) (sym is)
    (sound_procedure shared.variables shared.procedures c.args.number shared.label_names.now shared.callees.now own.statements.now own.places.now
    enough c.requires.lawful c.requires.differ c.in_ok-labels.ensures.placed c.in_ok-labels.ensures.rise c.in_ok-statements.ensures.sound)

pub returns-clause-known : goal.returns-clause-known
returns-clause-known c =
    known c.args.shared.variables (length c.args.own.places.now) c.args.shared.procedures c.args.shared.callees.now c.args.own.statements.now
    c.in_ok-statements.ensures.sound
