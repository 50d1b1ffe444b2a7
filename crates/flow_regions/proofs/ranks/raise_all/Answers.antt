use Rattle.std.proofs.Common.{◌≡◌, ◌+◌, ℕ, Bool, List, true, false, ◌||◌, refl, sym, subst, inl, inr, ◌∙◌, arith}
use Rattle.std.proofs.lemmas.Bool.{cases_lt}
use Rattle.flow_graph.specs.Paths.{Shape}
use Rattle.flow_regions.specs.code.Ranks.{AreRankedTo, IsRanked}
use Rattle.flow_links.specs.Shapes.{directed_shape}
use Rattle.flow_regions.proofs.ranks.raise_all.Goals as goal

neither : (a b : Bool) → (a || b) ≡ false → (a ≡ false) × (b ≡ false)
neither true b is = absurd (cc is)
neither false b is = (refl, is)

ranked_more : (shape : Shape) (ranks : List ℕ) (n : ℕ) → AreRankedTo shape ranks n → IsRanked shape ranks n → AreRankedTo shape ranks (n + 1)
ranked_more shape ranks n before here caller low = elim (cases_lt caller n) [
  | inl less ↦ before caller less
  | inr past ↦ let same : n ≡ caller = omega (arith, low, past) in subst (IsRanked shape ranks) same here
]

pub loop-procedure-preserved : goal.loop-procedure-preserved
loop-procedure-preserved c = record {
  count = c.raise-raised.ensures.count ∙ c.loop-procedure.invariant.count;
  ranked = λ none.
      let two = neither c.raise-raised.result c.loop-procedure.raised none in
      ranked_more (directed_shape c.args.links.now) c.raise-raised.new.ranks c.loop-procedure.procedure
      (subst (λ (r : List ℕ). AreRankedTo (directed_shape c.args.links.now) r c.loop-procedure.procedure) (sym (c.raise-raised.ensures.same two.0))
      (c.loop-procedure.invariant.ranked two.1))
      (c.raise-raised.ensures.ranked two.0);
}

pub returns-clause-ranked : goal.returns-clause-ranked
returns-clause-ranked c none site x callee call =
    let there = (c.points.ensures.numbered.edge_in_range _ call.1).0 in
    let low = c.points.ensures.numbered.procedure_in_range x (omega (arith, there, c.points.ensures.count)) in
    c.loop-procedure.invariant.ranked none ((directed_shape c.args.links.now).procedure_of x) (omega (arith, low)) site x callee call refl
