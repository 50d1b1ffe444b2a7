use Rattle.std.proofs.Common.{◌≡◌, fold, Some, refl, sym, ap, ◌∙◌}
use Rattle.flow_graph.specs.Universes.{noted, some_expression}
use Rattle.flow_graph.proofs.bits.Noted.{set-notes, set-numbers}
use Rattle.flow_graph.proofs.universes.note_expression.Goals as goal

pub returns-in_ok-number-in-Some-clause-noted : goal.returns-in_ok-number-in-Some-clause-noted
returns-in_ok-number-in-Some-clause-noted c =
    c.in_ok-number-in-Some.ensures.keys
    ∙ set-notes c.in-Some.expression c.args.expressions.now.keys
    ∙ ap (λ e. fold noted c.args.expressions.now.keys (some_expression e)) (sym c.in-Some.is)

pub returns-in_ok-number-in-Some-clause-number : goal.returns-in_ok-number-in-Some-clause-number
returns-in_ok-number-in-Some-clause-number c =
    let keys : c.insert_full.new.self.keys ≡ noted c.args.expressions.now.keys c.in-Some.expression =
    c.in_ok-number-in-Some.ensures.keys ∙ set-notes c.in-Some.expression c.args.expressions.now.keys in
    rw (c.in-Some.is, keys) (
      c.in_ok-number-in-Some.number,
      refl,
      set-numbers c.in-Some.expression c.args.expressions.now.keys ∙ ap Some (sym c.in_ok-number-in-Some.ensures.index),
    )
