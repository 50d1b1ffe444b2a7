use Rattle.std.proofs.Common.{◌≡◌, ◌<◌, ◌≤◌, ◌⊎◌, ℕ, List, length, inl, inr, sym, subst, true, arith}
use Rattle.std.specs.Prelude.{All}
use Rattle.std.proofs.lemmas.Bool.{cases_lt}
use Rattle.std.proofs.lemmas.List.Elements.{All-nil}
use Rattle.lint_texts.specs.LintTexts.{Turns, is_turn, uses_told}
use Rattle.lint_texts.specs.code.Uses.{AreAllTurns, ways_in}
use Rattle.lint_texts.proofs.Turned.{ways_past}
use Rattle.lint_texts.proofs.Unset.{first_unset, told_unset}
use Rattle.lint_texts.proofs.ways.ways_of.Goals as goal

pub all_ways-requires : goal.all_ways-requires
all_ways-requires c =
    let program = c.args.graph.now in
    let linted = c.args._linted.now in
    record {
      told = uses_told c.args.telling program linted;
      tell = c.requires.uses;
      unset = λ v first later is. first_unset program v first (uses_told c.args.telling program linted v) later
          (told_unset c.args.telling program linted c.requires.linted v) is;
    }

pub returns-in_ok-all-clause-ways : goal.returns-in_ok-all-clause-ways
returns-in_ok-all-clause-ways c = λ v first later why is.
    let program = c.args.graph.now in
    let linted = c.args._linted.now in
    let at = first_unset program v first (uses_told c.args.telling program linted v) later (told_unset c.args.telling program linted c.requires.linted v) is in
    (c.in_ok-all.ensures.ways v at.named).leads (uses_told c.args.telling program linted) c.requires.uses first later is

pub returns-in_ok-all-clause-turns : goal.returns-in_ok-all-clause-turns
returns-in_ok-all-clause-turns c = λ v.
    let program = c.args.graph.now in
    let all = c.in_ok-all.all.items in
    elim (cases_lt v (length program.variable_names)) [
      | inl below ↦ (c.in_ok-all.ensures.ways v below).are
      | inr past ↦ subst (AreAllTurns program) (sym (ways_past all v (omega (arith, past, c.in_ok-all.ensures.count)))) (All-nil (λ turn. is_turn program turn ≡ true))
    ]
