use Rattle.flow_views.proofs.facts.Known.{some_known, table_known, table_of, table_shown}
use Rattle.flow_views.proofs.view_program.ViewProgram.table.Goals as goal

pub returns-clause-facts : goal.returns-clause-facts
returns-clause-facts c =
    some_known _ _ _ c.table.result c.table.ensures (λ table is. table_known c.args.self.now c.args.analysis table.now is)

pub returns-clause-analysis : goal.returns-clause-analysis
returns-clause-analysis c =
    some_known _ _ _ c.table.result c.table.ensures (λ table is. (table_of c.args.self.now c.requires c.args.analysis table.now is).0)

pub returns-clause-shown : goal.returns-clause-shown
returns-clause-shown c =
    some_known _ _ _ c.table.result c.table.ensures (λ table is. table_shown c.args.self.now c.requires c.args.analysis table.now is)
