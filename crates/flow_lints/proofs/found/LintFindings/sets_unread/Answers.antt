use Rattle.std.proofs.Common.{rules, ◌≡◌, ◌&&◌, Bool, length, vec_len, suc, refl, sym, ap, ◌∙◌, arith}
use Rattle.flow_lints.specs.code.Lints.{lint_knowledge_of}
use Rattle.flow_lints.proofs.Unread.{unread_with, flag_behind, next_flag}
use Rattle.flow_lints.proofs.found.LintFindings.sets_unread.Goals as goal
use Rattle.flow_reports.specs.code.Findings.{knowledge_of}

pub index-requires : goal.index-requires
index-requires c =
    let len : vec_len c.args.self.now.on_executions ≡ length c.args.self.now.on_executions.items = search rules in
    omega (arith, len, next_flag c.args.self.now c.requires.found c.args.point c.args.kind.now c.requires.point c.requires.kind)

pub returns-then-sets_dead : goal.returns-then-sets_dead
returns-then-sets_dead c =
    let flag : Bool = c.index.result.now in
    let there = next_flag c.args.self.now c.requires.found c.args.point c.args.kind.now c.requires.point c.requires.kind in
    sym (unread_with c.args.self.now.undoubted.graph.now (lint_knowledge_of c.args.self.now) (knowledge_of c.args.self.now.undoubted) c.args.point
    c.args.kind.now c.requires.kind flag (c.requires.found.none (suc c.args.point)) (λ v. refl)
    (flag_behind c.args.self.now.on_executions.items c.args.point flag there c.index.ensures)
    ∙ ap (λ b. b && flag) (sym c.sets_dead.ensures ∙ c.if-sets_dead.true))
