use Rattle.std.proofs.Common.{IfOk, MatchOption, subst}
use Rattle.flow_graph.specs.Paths.{SomePathHas}
use Rattle.flow_links.specs.Shapes.{LinkedProgram, directed_shape}
use Rattle.gen_kill.specs.Selections.{column_transfer}
use Rattle.flow_why.specs.Witnesses.{IsWitness}
use Rattle.flow_why.specs.code.Marked.{Question}
use Rattle.flow_witnesses.proofs.near.witness_at.Goals as goal

pub returns-clause-witness : goal.returns-clause-witness
returns-clause-witness c =
    let problem = c.args.problem.now in
    subst (λ (l : LinkedProgram). IfOk c.witness_of.result (λ found. MatchOption found
    (SomePathHas (directed_shape l) (column_transfer problem c.args.column) c.args.point → ⊥)
    (λ hops. IsWitness (directed_shape l) (column_transfer problem c.args.column) c.args.point hops.items))) c.requires.ways
    (subst (λ (q : Question). IfOk c.witness_of.result (λ found. MatchOption found (SomePathHas q.shape q.transfer c.args.point → ⊥)
    (λ hops. IsWitness q.shape q.transfer c.args.point hops.items))) c.near_frame-frame.ensures.question c.witness_of.ensures.witness)
