use Rattle.std.proofs.Common.{◌∙◌, ◌++◌, ℕ, List, ap, map}
use Rattle.flow_lints.specs.Lints.{LintKnowledge, dead_variables_at, kept_at, uncalled_at, unreached_at}
use Rattle.flow_lints.specs.code.Lints.{all_told, lint_knowledge_of}
use Rattle.flow_lints.specs.declared.lint.Lint.TheVariants.{NeverCalled}
use Rattle.flow_lints.specs.declared.lint.PlacedLint.{PlacedLint}
use Rattle.flow_lints.proofs.Fronts.{told_at}
use Rattle.flow_lints.proofs.Lists.{four_kinds}
use Rattle.flow_lints.proofs.found.LintFindings.put_lints.Goals as goal
use Rattle.flow_reports.specs.Reports.{remarks_at}
use Rattle.flow_reports.specs.declared.listed.PlacedRemark.{PlacedRemark}
use Rattle.flow_reports.specs.declared.remark.Remark.TheVariants.{Dead}
use Rattle.tac_program.specs.Programs.{Program}

pub returns-clause-put : goal.returns-clause-put
returns-clause-put c =
    let program : Program = c.args.self.now.undoubted.graph.now in
    let known : LintKnowledge = lint_knowledge_of c.args.self.now in
    let point : ℕ = c.args.point in
    four_kinds point c.args.lints.now.items c.put_uncalled.new.lints.items c.put_unreached.new.lints.items c.put_kept.new.lints.items
    c.put_dead.new.lints.items (map (λ p. NeverCalled p) (uncalled_at program known point)) (unreached_at program known point)
    (kept_at program known point) (map (λ v. Dead v) (dead_variables_at program known point))
    c.in_ok-put_uncalled.ensures c.in_ok-put_unreached.ensures
    (c.in_ok-next.ensures.put
    ∙ ap (λ (rs : List PlacedRemark). c.put_unreached.new.lints.items ++ all_told rs) c.requires.front
    ∙ ap (λ (ls : List PlacedLint). c.put_unreached.new.lints.items ++ ls) (told_at point (remarks_at program known.report point)))
    c.in_ok-put_dead.ensures
