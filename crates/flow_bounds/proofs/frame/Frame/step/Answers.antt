use Rattle.std.proofs.Common.{◌≡◌, ◌∙◌, false, not, ap, sym, subst, arith}
use Rattle.bit_rows.proofs.words.WordBits.{has_bit-max, has_bit-zero}
use Rattle.flow_graph.specs.declared.edge.Edge.TheVariants.{Step}
use Rattle.flow_bounds.specs.Clauses.{is_inside}
use Rattle.flow_bounds.proofs.frame.Frame.step.Goals as goal

pub procedure_of-requires : goal.procedure_of-requires
procedure_of-requires c = (c.requires.frame.numbered.edge_in_range (Step c.args.from c.args.to) c.requires.there).0

pub bounds-self-procedure_of : goal.bounds-self-procedure_of
bounds-self-procedure_of c =
    let low = (c.requires.frame.numbered.edge_in_range (Step c.args.from c.args.to) c.requires.there).0 in
    let there = c.requires.frame.numbered.procedure_in_range c.args.from low in
    omega (arith, there, c.procedure_of.ensures, c.requires.frame.inside)

pub returns-then-not-self-procedure_of-clause-preserved : goal.returns-then-not-self-procedure_of-clause-preserved
returns-then-not-self-procedure_of-clause-preserved c transfer bit small exact =
    let outside = subst (λ p. is_inside c.args.self.now p ≡ false) c.procedure_of.ensures c.if-not-self-procedure_of.true in
    has_bit-max bit small ∙ sym (ap not (exact.none_killed c.args.from c.args.to c.requires.there outside))

pub returns-then-not-self-procedure_of-clause-generated : goal.returns-then-not-self-procedure_of-clause-generated
returns-then-not-self-procedure_of-clause-generated c transfer bit small exact =
    let outside = subst (λ p. is_inside c.args.self.now p ≡ false) c.procedure_of.ensures c.if-not-self-procedure_of.true in
    has_bit-zero bit ∙ sym (exact.none_generated c.args.from c.args.to c.requires.there outside)
