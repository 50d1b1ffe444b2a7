use Rattle.std.proofs.Common.{◌≡◌, ℕ, ◌+◌, ◌-◌, ◌<◌, Bool, true, false, rules, sym, ap, ◌∙◌, arith}
use Rattle.flow_graph.specs.Points.{point_count}
use Rattle.lint_texts.specs.LintTexts.{is_unreached}
use Rattle.lint_texts.specs.code.Lines.{reached_in}
use Rattle.lint_texts.proofs.Runs.{run, run_ends, run_more}
use Rattle.lint_texts.proofs.lines.LintLines.last_unreached.Goals as goal

pub returns-then-not-is_unreached-clause-last : goal.returns-then-not-is_unreached-clause-last
returns-then-not-is_unreached-clause-last c =
    let test : ℕ → Bool = is_unreached c.args.self.now.graph.now (reached_in c.args.self.now) in
    let bound : ℕ = point_count c.args.self.now.graph.now in
    let next : ℕ = c.loop-next.next in
    let below : next < bound = omega (arith, c.loop-next-test.true, c.points-points.ensures.count) in
    let none : c.is_unreached.result ≡ false = search rules in
    let all : (next - 1) + 0 ≡ next - 1 = omega arith in
    sym (c.loop-next.invariant ∙ ap (λ n. (next - 1) + n) (run_ends test bound next below (sym c.is_unreached.ensures ∙ none)) ∙ all)

pub loop-next-preserved : goal.loop-next-preserved
loop-next-preserved c =
    let test : ℕ → Bool = is_unreached c.args.self.now.graph.now (reached_in c.args.self.now) in
    let bound : ℕ = point_count c.args.self.now.graph.now in
    let next : ℕ = c.loop-next.next in
    let below : next < bound = omega (arith, c.loop-next-test.true, c.points-points.ensures.count) in
    let one : c.is_unreached.result ≡ true = search rules in
    let rest : ℕ = run test bound (next + 1) in
    let moved : (next - 1) + (1 + rest) ≡ (next + 1 - 1) + rest = omega (arith, c.loop-next.auto.next) in
    c.loop-next.invariant ∙ ap (λ n. (next - 1) + n) (run_more test bound next below (sym c.is_unreached.ensures ∙ one)) ∙ moved
