use Rattle.std.proofs.Common.{◌≡◌, ◌∙◌, ◌<◌, true, false, option_map, unwrap_or, IfSome, length, sym, ap, subst}
use Rattle.gen_kill.specs.Selections.{Selection, column_count}
use Rattle.gen_kill.specs.code.Effects.{column_depends}
use Rattle.gen_kill.specs.code.Problems.{selected}
use Rattle.gen_kill.proofs.bits.EffectWords.{dependent_word}
use Rattle.gen_kill.proofs.problem.Problem.touched_words.Goals as goal

pub returns-in-None : goal.returns-in-None
returns-in-None c column below dep =
    let none : false ≡ true =
    ap (λ o. unwrap_or (option_map (λ x. column_depends c.args.self.now x column) o) false) (sym c.in-None.is) ∙ dep in
    absurd (cc none)

pub returns-in-Some : goal.returns-in-Some
returns-in-Some c column below dep =
    let s : Selection = c.args.self.now in
    let inside = c.self.inside in
    let there : c.in-Some.variable < length s.program.variable_names =
    subst (λ o. IfSome o (λ x. x < length s.program.variable_names)) c.in-Some.is c.requires in
    let depend : column_depends s c.in-Some.variable column ≡ true =
    subst (λ o. unwrap_or (option_map (λ x. column_depends s x column) o) false ≡ true) c.in-Some.is dep in
    dependent_word (selected inside.graph.now inside.analysis inside.columns) inside.dependent_words.words.items inside.dependent_words.width
    c.in-Some.variable column c.word.result c.self.invariant.dependent
    (subst (λ (s : Selection). c.in-Some.variable < length s.program.variable_names) (sym c.self.view_is) there)
    (subst (λ (s : Selection). column < column_count s) (sym c.self.view_is) below)
    (subst (λ (s : Selection). column_depends s c.in-Some.variable column ≡ true) (sym c.self.view_is) depend) c.word.ensures
