use Rattle.std.proofs.Common.{◌≡◌, ◌∙◌, ℕ, ◌+◌, ◌-◌, ◌≤◌, ◌∷◌, [], ◌++◌, List, flat_map, append-nil, sym, ap, arith}
use Rattle.std.specs.List.{range_with_len}
use Rattle.std.proofs.lemmas.Grind.{flat_map-append}
use Rattle.flow_texts.proofs.sets.RangeLines.{range_split}
use Rattle.flow_reports.specs.Uses.{unset_uses_at}
use Rattle.flow_reports.specs.code.Findings.{knowledge_of}
use Rattle.flow_reports.specs.declared.unset.UnsetUse.{UnsetUse}
use Rattle.flow_reports.proofs.knowledge.KnownReports.{chosen_findings}
use Rattle.flow_reports.proofs.findings.Findings.unset_uses.Goals as goal

-- a point more
one_more : (at : ℕ → List UnsetUse) (first n : ℕ) → first ≤ n
    → flat_map at (range_with_len first (n - first)) ++ at n ≡ flat_map at (range_with_len first (n + 1 - first))
one_more at first n above =
    let here : first + (n - first) ≡ n = omega arith in
    let longer : n - first + 1 ≡ n + 1 - first = omega arith in
    ap (λ t. flat_map at (range_with_len first (n - first)) ++ t) (sym (append-nil (at n)))
    ∙ ap (λ m. flat_map at (range_with_len first (n - first)) ++ flat_map at (m ∷ [])) (sym here)
    ∙ sym (flat_map-append at (range_with_len first (n - first)) (range_with_len (first + (n - first)) 1))
    ∙ ap (flat_map at) (sym (range_split first (n - first) 1))
    ∙ ap (λ k. flat_map at (range_with_len first k)) longer

pub loop-point-preserved : goal.loop-point-preserved
loop-point-preserved c =
    let at : ℕ → List UnsetUse = unset_uses_at c.args.self.now.graph.now (knowledge_of c.args.self.now) in (
      c.in_ok-put_uses_at.ensures.put
          ∙ ap (λ us. us ++ at c.loop-point.point) c.loop-point.invariant.0
          ∙ one_more at c.args.first c.loop-point.point c.loop-point.auto.point,
      omega (arith, c.in_ok-put_uses_at.ensures.few, c.loop-point.invariant.1, c.loop-point.auto.point),
    )

pub put_uses_at-requires-clause-found : goal.put_uses_at-requires-clause-found
put_uses_at-requires-clause-found c = chosen_findings c.args.self.now c.requires.found
