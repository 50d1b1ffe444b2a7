use Rattle.busy_bounds.specs.code.Kept.{ArePointSets, AreProcedureSets}
use Rattle.busy_bounds.proofs.finding.procedure_sets.Given as goal

abbrev pub invariant-loop-number : goal.invariant-loop-number
invariant-loop-number l = record {
  points : ArePointSets l._graph l.items.items l.points;
  procedures : AreProcedureSets l._graph l.items.items l.procedures.items;
}
