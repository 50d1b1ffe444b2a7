use Rattle.std.proofs.Common.{◌≡◌, ◌<◌, ◌∙◌, ℕ, List, get_or, sym, ap, subst, take, true, arith}
use Rattle.std.specs.Prelude.{All}
use Rattle.std.specs.List.{filter}
use Rattle.std.proofs.lemmas.List.Elements.{All-take, filter_passes}
use Rattle.std.proofs.lemmas.Result.{IfOk-weaker}
use Rattle.flow_graph.specs.Paths.{SomePathHas}
use Rattle.flow_graph.specs.Problems.{may_shape}
use Rattle.flow_graph.specs.Universes.{bits}
use Rattle.flow_graph.specs.declared.analysis.Analysis.TheVariants.{Reach}
use Rattle.flow_why.specs.Witnesses.{IsWitness}
use Rattle.flow_why.specs.declared.hop.Hop.{Hop}
use Rattle.gen_kill.specs.Selections.{Selection, column_count, column_transfer}
use Rattle.lint_texts.specs.LintTexts.{AreTurnsTo, Turns, is_turn}
use Rattle.lint_texts.specs.code.Uses.{IsUnsetAt, turns_of}
use Rattle.report_answers.proofs.queries.Statements.{variables_have_dummies}
use Rattle.lint_texts.proofs.ways.way_of.Goals as goal

pub way_to-requires-clause-column : goal.way_to-requires-clause-column
way_to-requires-clause-column c =
    let program = c.args.graph.now in
    let next = c.in-Some.ensures c.requires.unset.told c.requires.unset.tell in
    let at : IsUnsetAt program c.args.variable c.in-Some.first.point = c.requires.unset.unset c.args.variable c.in-Some.first.point next.0 next.2 in
    let here : c.args.variable < bits program Reach = omega (arith, at.named, variables_have_dummies program) in
    subst (λ (s : Selection). c.args.variable < column_count s) (sym c.requires.form) here

pub way_to-requires-clause-reaches : goal.way_to-requires-clause-reaches
way_to-requires-clause-reaches c =
    let program = c.args.graph.now in
    let next = c.in-Some.ensures c.requires.unset.told c.requires.unset.tell in
    let at : IsUnsetAt program c.args.variable c.in-Some.first.point = c.requires.unset.unset c.args.variable c.in-Some.first.point next.0 next.2 in
    let P : Selection → Type 0 = λ s. SomePathHas (may_shape s.program s.analysis) (column_transfer s c.args.variable) c.in-Some.first.point in
    subst P (sym c.requires.form) at.reaches

pub returns-in-Some : goal.returns-in-Some
returns-in-Some c =
    let program = c.args.graph.now in
    let v : ℕ = c.args.variable in
    let point : ℕ = c.in-Some.first.point in
    IfOk-weaker c.way_to.result _ _
    (λ way told.
    let P : Selection → Type 0 = λ s. IsWitness (may_shape s.program s.analysis) (column_transfer s v) point told.hops in
    record {
      are = subst (λ (turns : List Hop). All (λ turn. is_turn program turn ≡ true) turns) (sym (ap (λ (t : Turns). t.turns) told.are_turns))
          (All-take (λ turn. is_turn program turn ≡ true) 20 (filter (is_turn program) told.hops) (filter_passes (is_turn program) told.hops));
      leads = λ other tell first later is.
          let next = c.in-Some.ensures other tell in
          let same : point ≡ first = ap (λ (xs : List ℕ). get_or xs 0 0) (sym next.2 ∙ is) in
          subst (λ p. AreTurnsTo program v p (turns_of way)) same
          (record { hops = told.hops; is_witness = subst P c.requires.form told.is_witness; are_turns = told.are_turns });
    })
    c.way_to.ensures
