use Rattle.std.proofs.Common.{◌≡◌, ◌≤◌, length, take}
use Rattle.std.specs.List.{filter}
use Rattle.lint_texts.specs.LintTexts.{is_turn}
use Rattle.lint_texts.proofs.ways.Way.of.Given as goal

abbrev pub invariant-loop-hop : goal.invariant-loop-hop
invariant-loop-hop l =
    (l.turns.items ≡ take 20 (filter (is_turn l.graph) (take l.hop-index l.hops)))
    × (l.count ≡ length (filter (is_turn l.graph) (take l.hop-index l.hops))) × (l.count ≤ l.hop-index)
