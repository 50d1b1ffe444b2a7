use Rattle.std.proofs.Common.{◌≡◌, ◌<◌, ◌+◌, ℕ, Bool, List, true, false, length, slice_index_or, ◌++◌, ◌∷◌, [], inl, inr, sym, ap, subst, ◌∙◌, arith}
use Rattle.std.proofs.lemmas.Bool.{cases_lt}
use Rattle.std.proofs.lemmas.Grind.{common_steps}
use Rattle.flow_graph.specs.Paths.{Shape}
use Rattle.flow_regions.specs.code.Outside.{AreCalled}
use Rattle.summary_equations.specs.Equations.{CallsAt}
use Rattle.flow_links.specs.Shapes.{directed_shape}
use Rattle.flow_regions.proofs.outside.called.Goals as goal

before : (xs : List Bool) (x : Bool) (i : ℕ) → i < length xs → slice_index_or (xs ++ x ∷ []) i false ≡ slice_index_or xs i false
before xs x i low = grind (arith, common_steps)

last : (xs : List Bool) (x : Bool) → slice_index_or (xs ++ x ∷ []) (length xs) false ≡ x
last xs x = grind (arith, common_steps)

more : (xs : List Bool) (x : Bool) → length (xs ++ x ∷ []) ≡ length xs + 1
more xs x = grind (arith, common_steps)

called_more : (shape : Shape) (inside marks : List Bool) (n : ℕ) (mark : Bool) → length marks ≡ n → AreCalled shape inside marks n
    → ((site x : ℕ) → CallsAt shape site x n → slice_index_or inside (shape.procedure_of x) false ≡ false → slice_index_or inside n false ≡ true → mark ≡ true)
    → AreCalled shape inside (marks ++ mark ∷ []) (n + 1)
called_more shape inside marks n mark many are here site x p low call outside within = elim (cases_lt p n) [
  | inl less ↦ before marks mark p (omega (arith, less, many)) ∙ are site x p less call outside within
  | inr past ↦
      let one : p ≡ n = omega (arith, low, past) in
      let at : p ≡ length marks = omega (arith, one, many) in
      ap (λ i. slice_index_or (marks ++ mark ∷ []) i false) at ∙ (last marks mark
      ∙ here site x (subst (λ q. CallsAt shape site x q) one call) outside (subst (λ q. slice_index_or inside q false ≡ true) one within))
]

pub loop-procedure-preserved : goal.loop-procedure-preserved
loop-procedure-preserved c = record {
  count = ap length c.in_ok-put_mark.ensures ∙ (more c.loop-procedure.called.items c.is_marked.result ∙ ap (λ n. n + 1) c.loop-procedure.invariant.count);
  called = subst (λ (m : List Bool). AreCalled (directed_shape c.args.links.now) c.args.inside.now m (c.loop-procedure.procedure + 1)) (sym c.in_ok-put_mark.ensures)
      (called_more (directed_shape c.args.links.now) c.args.inside.now c.loop-procedure.called.items c.loop-procedure.procedure c.is_marked.result
      c.loop-procedure.invariant.count c.loop-procedure.invariant.called c.is_marked.ensures);
}

pub returns-clause-called : goal.returns-clause-called
returns-clause-called c =
    let all : c.loop-procedure.procedure ≡ (directed_shape c.args.links.now).procedures = omega arith in
    subst (λ n. AreCalled (directed_shape c.args.links.now) c.args.inside.now c.loop-procedure.called.items n) all c.loop-procedure.invariant.called
