use Rattle.std.proofs.Common.{get_or, arith, sym, subst, Contains, ℕ}
use Rattle.std.proofs.lemmas.List.Elements.{Contains-get_or}
use Rattle.flow_why.specs.code.Frames.{question_of}
use Rattle.flow_why.specs.code.Visits.{IsStatementGenVisited}
use Rattle.flow_why.proofs.visits.Growing.{spreads_not, spreads_on}
use Rattle.flow_why.proofs.visits.Listed.{each_listed, listed_more}
use Rattle.flow_why.proofs.visits.Statements.{generates, statement_visited_on, statements_visited}
use Rattle.flow_why.proofs.visits.Visiting.{gen_visited_on}
use Rattle.flow_why.proofs.run.gen_statements.Goals as goal

pub loop-point-init : goal.loop-point-init
loop-point-init c = record {
  spreads = spreads_not (question_of c.args.frame.now) c.args.search.now c.requires.marks;
  done = λ j d below. absurd (omega (arith, below));
}

pub gen_statement-requires : goal.gen_statement-requires
gen_statement-requires c =
    let list = c.gens-gens.result.now in
    let e = get_or list c.loop-point.point-index 0 in record {
      frame = c.requires.frame;
      graph = c.requires.points.of;
      marks = c.loop-point.invariant.spreads.marks;
      gens = generates c.args.frame.now c.requires.frame c.args.graph.now c.args.bit.now c.requires.points e
          (subst (λ l. Contains l e) c.gens-gens.ensures (Contains-get_or list c.loop-point.point-index 0 c.loop-point-test.true));
    }

pub loop-point-preserved : goal.loop-point-preserved
loop-point-preserved c =
    let frame = c.args.frame.now in
    let question = question_of frame in
    let more = c.in_ok-gen_statement.ensures in record {
      spreads = spreads_on question c.args.search.now c.loop-point.search c.gen_statement.new.search c.loop-point.invariant.spreads more.spreads;
      done = listed_more (λ e. Unit {0}) (λ e. IsStatementGenVisited frame e c.loop-point.search)
          (λ e. IsStatementGenVisited frame e c.gen_statement.new.search)
          c.gens-gens.result.now c.loop-point.point-index 0 c.loop-point-test.true (λ e there. tt)
          (λ e known before. statement_visited_on frame e c.loop-point.search c.gen_statement.new.search
          (λ x y. gen_visited_on question x y c.loop-point.search c.gen_statement.new.search more.spreads.grows) before)
          c.loop-point.invariant.done more.visited;
    }

pub returns-clause-visited : goal.returns-clause-visited
returns-clause-visited c =
    let frame = c.args.frame.now in
    statements_visited frame c.requires.frame c.args.graph.now c.args.bit.now c.requires.points c.loop-point.search
    (λ point among. each_listed (λ (e : ℕ). IsStatementGenVisited frame e c.loop-point.search) c.gens-gens.result.now 0 c.loop-point.point-index
    (omega (arith, c.loop-point-test.false)) (λ j below. c.loop-point.invariant.done j 0 below) point
    (subst (λ l. Contains l point) (sym c.gens-gens.ensures) among))
