use Rattle.std.proofs.Common.{ℕ, Bool, true, false, ◌∙◌, sym, arith}
use Rattle.flow_lints.specs.Lints.{is_left_out}
use Rattle.flow_lints.specs.code.Lints.{lint_knowledge_of}
use Rattle.flow_lints.proofs.Lists.{few_pass, one_counted}
use Rattle.flow_lints.proofs.found.LintFindings.left_out.Goals as goal
use Rattle.flow_lints.proofs.found.LintFindings.left_out.Goals.{then-leaves_out, else-leaves_out}

pub overflow_add-count : goal.overflow_add-count
overflow_add-count c =
    let test : ℕ → Bool = is_left_out c.args.self.now.undoubted.graph.now (lint_knowledge_of c.args.self.now) in
    omega (arith, few_pass test 0 c.loop-point.point)

pub loop-point-preserved : goal.loop-point-preserved
loop-point-preserved c =
    let test : ℕ → Bool = is_left_out c.args.self.now.undoubted.graph.now (lint_knowledge_of c.args.self.now) in
    elim c.if-leaves_out.branch [
      | then-leaves_out w ↦ one_counted test c.loop-point.point c.loop-point.count c.if-leaves_out.count true c.loop-point.invariant
          (sym w.if-leaves_out.true ∙ c.leaves_out.ensures) w.count-is
      | else-leaves_out w ↦ one_counted test c.loop-point.point c.loop-point.count c.if-leaves_out.count false c.loop-point.invariant
          (sym w.if-leaves_out.false ∙ c.leaves_out.ensures) w.count-is
    ]
