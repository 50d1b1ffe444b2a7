use Rattle.std.proofs.Common.{◌≡◌, ℕ, List, length, take, sym, ap, subst, arith}
use Rattle.std.proofs.lemmas.List.{length-take}
use Rattle.flow_queries.specs.declared.query.Query.{Query}
use Rattle.report_answers.specs.code.Busy.{AreRounds}
use Rattle.report_answers.specs.code.Reported.{AreQueried}
use Rattle.report_answers.specs.code.Chosen.{AsksOnly}
use Rattle.tac_program.specs.Programs.{Program}
use Rattle.report_answers.proofs.busy.Rounds.{only_first}
use Rattle.report_answers.proofs.report_rounds.FirstRound.put_chosen.Goals as goal

pub returns : goal.returns
returns c =
    let program : Program = c.args.graph.now in
    let first = c.requires.first in
    let places = c.args.self.places.items in
    let queries : List Query = c.args.answers.queries in
    let left = c.put.new.self in
    let are : AreRounds c.args.self.rounds.chosen program c.args.self.rounds.tests.items left = c.in_ok-put.ensures.rounds in
    let count : length c.truncate.new.self.queries ≡ length (take c.args.self.before queries) = ap length c.in_ok-truncate.ensures.queries in
    record {
      few = omega (arith, count, length-take c.args.self.before queries, first.few);
      answers = c.in_ok-truncate.ensures.answers program c.requires.answers;
      only = subst (λ (all : List Query). AsksOnly c.args.self.rounds.chosen all) (sym c.in_ok-truncate.ensures.queries)
          (only_first c.args.self.rounds.chosen queries c.args.self.before first.only);
      count = first.count;
      queried = subst (λ (tests : List ℕ). AreQueried c.args.self.rounds.chosen program c.truncate.new.self.queries tests places) (sym are.same)
          (subst (λ (all : List Query). AreQueried c.args.self.rounds.chosen program all c.args.self.rounds.tests.items places) (sym c.in_ok-truncate.ensures.queries) first.queried);
      rounds = subst (λ (tests : List ℕ). AreRounds c.args.self.rounds.chosen program tests left) (sym are.same) are;
    }
