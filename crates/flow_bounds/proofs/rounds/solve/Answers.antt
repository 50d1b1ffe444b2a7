use Rattle.std.proofs.Common.{refl}
use Rattle.std.proofs.lemmas.Option.{slice_get_within}
use Rattle.flow_bounds.specs.Rules.{is_given}
use Rattle.flow_bounds.proofs.rounds.solve.Goals as goal

pub loop-init : goal.loop-init
loop-init c = record {
  grow = record { count = refl; bits = λ x k had. had };
  within = record { follows = λ cell bit has. is_given cell bit has };
}

pub returns-then-not-round-clause-closed : goal.returns-then-not-round-clause-closed
returns-then-not-round-clause-closed c _ i rule there =
    c.round.ensures.closed c.if-not-round.true i rule (slice_get_within c.args.rules.now i rule there) there
