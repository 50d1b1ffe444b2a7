use Rattle.std.proofs.Common.{refl}
use Rattle.lint_texts.proofs.Placed.{are_placed}
use Rattle.lint_texts.proofs.lines.LintLines.of.Goals as goal

pub returns-clause-lines : goal.returns-clause-lines
returns-clause-lines c = record {
  answers = c.requires.answers;
  placed = are_placed c.args.graph.now c.args.linted.now c.requires.linted;
  expressions = c.in_ok-expressions.ensures.texts;
  openings = c.in_ok-starts.ensures.openings;
  closings = c.in_ok-starts.ensures.closings;
  uses = c.in_ok-uses.ensures;
  ways = c.in_ok-ways.ensures.ways;
  turns = c.in_ok-ways.ensures.turns;
}

pub returns-clause-parts : goal.returns-clause-parts
returns-clause-parts c = record { same_file = refl; same_telling = refl; same_graph = refl; same_answers = refl; same_linted = refl }
