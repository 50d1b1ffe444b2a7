use Rattle.std.proofs.Common.{◌≤◌, length, option_map, unwrap_or, arith, subst, sym}
use Rattle.gen_kill.proofs.bits.Chosen.{count_within}
use Rattle.gen_kill.proofs.problem.Problem.bits.Goals as goal

pub returns-clause-most : goal.returns-clause-most
returns-clause-most c =
    let inside = c.self.inside in
    let within : unwrap_or (option_map length inside.columns) c.bits.result ≤ c.bits.result =
    subst (λ n. unwrap_or (option_map length inside.columns) n ≤ n) (sym c.bits.ensures.count)
    (count_within inside.graph.now inside.analysis inside.columns c.self.invariant.chosen) in
    omega (arith, within, c.count.ensures, c.bits.ensures.few inside.analysis)
