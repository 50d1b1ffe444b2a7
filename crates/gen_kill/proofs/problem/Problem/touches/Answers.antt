use Rattle.std.proofs.Common.{false, option_map, unwrap_or, sym, ap, ◌∙◌}
use Rattle.gen_kill.specs.code.Effects.{column_depends}
use Rattle.gen_kill.proofs.problem.Problem.touches.Goals as goal

pub returns-in-None : goal.returns-in-None
returns-in-None c =
    ap (λ o. unwrap_or (option_map (λ x. column_depends c.args.self.now x c.args.column) o) false) (sym c.in-None.is)

pub returns-in-Some : goal.returns-in-Some
returns-in-Some c =
    c.is_either.ensures
    ∙ c.variables_of-first.ensures c.in-Some.variable
    ∙ ap (λ o. unwrap_or (option_map (λ x. column_depends c.args.self.now x c.args.column) o) false) (sym c.in-Some.is)
