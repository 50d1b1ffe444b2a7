use Rattle.text_pieces.proofs.sinks.Taking.{takes_as}
use Rattle.flow_reports.specs.declared.remark.Remark.TheVariants.{NeverReached, Computed, VeryBusy, Dead}
use Rattle.flow_paths.proofs.lists.Surrounding.{fields_of}
use Rattle.flow_paths.proofs.json_paths.PathLine.write_sets.Goals as goal

pub returns-in-NeverReached : goal.returns-in-NeverReached
returns-in-NeverReached g c =
    let table = c.args.self.now.arounds.now in
    takes_as _ _ _ _ c.write_last_reached.ensures
    (fields_of table c.args.program.now c.args.point c.args.remark NeverReached _ c.in-NeverReached.is c.facts-facts.ensures)

pub returns-in-Computed : goal.returns-in-Computed
returns-in-Computed g c =
    let table = c.args.self.now.arounds.now in
    takes_as _ _ _ _ c.write_last_evaluations.ensures
    (fields_of table c.args.program.now c.args.point c.args.remark (Computed c.in-Computed.expression) _ c.in-Computed.is c.facts-facts.ensures)

pub returns-in-VeryBusy : goal.returns-in-VeryBusy
returns-in-VeryBusy g c =
    let table = c.args.self.now.arounds.now in
    takes_as _ _ _ _ c.write_next_evaluations.ensures
    (fields_of table c.args.program.now c.args.point c.args.remark (VeryBusy c.in-VeryBusy.expression) _ c.in-VeryBusy.is c.facts-facts.ensures)

pub returns-in-Dead : goal.returns-in-Dead
returns-in-Dead g c =
    let table = c.args.self.now.arounds.now in
    takes_as _ _ _ _ c.write_next_writes.ensures
    (fields_of table c.args.program.now c.args.point c.args.remark (Dead c.in-Dead.variable) _ c.in-Dead.is c.facts-facts.ensures)
