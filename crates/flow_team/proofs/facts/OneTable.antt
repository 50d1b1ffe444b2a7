-- Two tables that tell the same facts tell the same.
use Rattle.std.proofs.Common.{sym, subst}
use Rattle.std.proofs.lemmas.Bool.Decides.{same_from_decides}
use Rattle.flow_graph.specs.declared.analysis.Analysis.{Analysis}
use Rattle.flow_team.specs.Tables.{AreFacts, facts_of}
use Rattle.flow_team.specs.Laws.{TablesAreOne}

pub tables_agree : TablesAreOne
tables_agree program one other of_one of_other same =
    let facts : AreFacts program one.analysis (facts_of other) =
    subst (λ (a : Analysis). AreFacts program a (facts_of other)) (sym same) of_other.facts in (
      (λ point there. same_from_decides _ _ (of_one.facts.paths point there) (facts.paths point there)),
      (λ point bit there below.
          same_from_decides _ _ (of_one.facts.sets point bit there below) (facts.sets point bit there below)),
    )
