use Rattle.std.proofs.Common.{◌<◌, ◌-◌, ℕ, List, flat_map, drop, subst, sym, slice_index, arith}
use Rattle.std.specs.List.{All}
use Rattle.flow_graph.specs.Points.{point_count}
use Rattle.flow_lints.specs.declared.lint.Lint.TheVariants.{NeverCalled}
use Rattle.flow_lints.specs.declared.lint.PlacedLint.{PlacedLint}
use Rattle.lint_texts.specs.LintTexts.{use_told}
use Rattle.lint_texts.specs.code.Uses.{Follow}
use Rattle.lint_texts.proofs.Linked.{told_from}
use Rattle.lint_texts.proofs.Placed.{are_placed}
use Rattle.lint_texts.proofs.uses.Uses.of.Goals as goal

pub put_lint-requires : goal.put_lint-requires
put_lint-requires c =
    let there : All (λ (placed : PlacedLint). placed.point < point_count c.args.graph.now) c.as_slice-lints.result.now =
    subst (All (λ (placed : PlacedLint). placed.point < point_count c.args.graph.now)) (sym c.as_slice-lints.ensures.value)
    (are_placed c.args.graph.now c.args.linted.now c.requires).lints in
    there (c.loop-at.at - 1) _ (omega (arith, c.loop-at-test.true, c.loop-at.invariant.1))

pub loop-at-preserved : goal.loop-at-preserved
loop-at-preserved c =
    let f : ℕ → PlacedLint → List ℕ = use_told c.args.telling c.args.graph.now in
    let lints : List PlacedLint = c.as_slice-lints.result.now in (
      λ v. subst (λ (points : List ℕ). Follow c.put_lint.new.self.uses.items (slice_index c.put_lint.new.self.heads.items v) points)
          (told_from (f v) lints c.loop-at.at (record { point = 0; lint = NeverCalled 0 }) c.loop-at-test.true c.loop-at.invariant.1)
          (c.in_ok-put_lint.ensures (λ variable. flat_map (f variable) (drop c.loop-at.at lints)) c.loop-at.invariant.0 v),
      omega (arith, c.loop-at.invariant.1),
    )
