use Rattle.std.proofs.Common.{◌≡◌, ◌∙◌, length, nat_lt, sym, ap, ap₂}
use Rattle.tac_program.specs.Programs.{Program}
use Rattle.flow_graph.specs.Problems.{may_boundary}
use Rattle.flow_graph.specs.declared.analysis.Analysis.TheVariants.{Reach}
use Rattle.gen_kill.specs.Selections.{Selection, bit_of}
use Rattle.gen_kill.proofs.bits.Boundaries.{dummies_come_first}
use Rattle.gen_kill.proofs.problem.Problem.in_boundary.Goals as goal

pub returns-in-Reach : goal.returns-in-Reach
returns-in-Reach c =
    let s : Selection = c.args.self.now in
    let analysis : Reach ≡ s.analysis = sym c.in-Reach.is ∙ ap (λ (s : Selection). s.analysis) c.self.view_is in
    let program : c.program.result.now ≡ s.program = c.program.ensures ∙ ap (λ (s : Selection). s.program) c.self.view_is in
    ap₂ nat_lt c.bit.ensures.bit (c.variables.ensures ∙ ap (λ (p : Program). length p.variable_names) program)
    ∙ dummies_come_first s.program (bit_of s c.args.column)
    ∙ ap (λ a. may_boundary (record { program = s.program; analysis = a }) (bit_of s c.args.column)) analysis

pub returns-in-Live : goal.returns-in-Live
returns-in-Live c =
    let s : Selection = c.args.self.now in
    ap (λ a. may_boundary (record { program = s.program; analysis = a }) (bit_of s c.args.column))
    (sym c.in-Live.is ∙ ap (λ (s : Selection). s.analysis) c.self.view_is)

pub returns-in-Avail : goal.returns-in-Avail
returns-in-Avail c =
    let s : Selection = c.args.self.now in
    ap (λ a. may_boundary (record { program = s.program; analysis = a }) (bit_of s c.args.column))
    (sym c.in-Avail.is ∙ ap (λ (s : Selection). s.analysis) c.self.view_is)

pub returns-in-Busy : goal.returns-in-Busy
returns-in-Busy c =
    let s : Selection = c.args.self.now in
    ap (λ a. may_boundary (record { program = s.program; analysis = a }) (bit_of s c.args.column))
    (sym c.in-Busy.is ∙ ap (λ (s : Selection). s.analysis) c.self.view_is)
