use Rattle.flow_views.proofs.facts.Tables.{shown_is}
use Rattle.flow_views.proofs.view_program.ViewProgram.of.Goals as goal

pub returns-clause-shown : goal.returns-clause-shown
returns-clause-shown c =
    shown_is (record {
      found = c.in_ok-found.found;
      tables = c.args.tables;
      names = c.in_ok-names.names;
      successors = c.in_ok-successors.successors;
      view = c.args.view;
    })
    c.args.graph.now c.in_ok-found.ensures.program c.in_ok-found.ensures.found c.in_ok-found.ensures.doubtful c.requires.tables
    c.in_ok-names.ensures.names c.in_ok-successors.ensures c.requires.procedure
