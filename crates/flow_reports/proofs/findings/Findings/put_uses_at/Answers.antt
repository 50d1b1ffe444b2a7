use Rattle.std.proofs.Common.{◌≡◌, ◌∙◌, ◌++◌, ℕ, Bool, true, false, List, [], Some, None, if◌then◌else◌, append-nil, sym, ap}
use Rattle.std.specs.Prelude.{option_map}
use Rattle.std.proofs.lemmas.Result.{on_ok_weaker}
use Rattle.flow_graph.specs.Points.{statement_at}
use Rattle.tac_program.specs.Programs.{Program}
use Rattle.tac_program.specs.declared.program.Stmt.{Stmt}
use Rattle.flow_reports.specs.Reports.{Knowledge, unset_at}
use Rattle.flow_reports.specs.Uses.{unset_uses_at, uses_of}
use Rattle.flow_reports.specs.code.Findings.{knowledge_of}
use Rattle.flow_reports.specs.declared.unset.UnsetUse.{UnsetUse}
use Rattle.flow_reports.proofs.findings.Findings.put_uses_at.Goals as goal

-- by the statement, and whether it is reached
uses_if : (program : Program) (known : Knowledge) (point : ℕ) (s : Stmt) (reached : Bool) → statement_at program point ≡ Some s
    → known.reach.has_path point ≡ reached
    → unset_uses_at program known point ≡ (if reached then uses_of point (unset_at program known point) else [])
uses_if program known point s reached at is =
    ap
    (λ o. elim (option_map (λ (t : Stmt). t.kind) o) [
      | Some k ↦ if known.reach.has_path point then uses_of point (unset_at program known point) else []
      | None ↦ []
    ])
    at
    ∙ ap (λ b. if b then uses_of point (unset_at program known point) else []) is

pub returns-then-reaches-clause-put : goal.returns-then-reaches-clause-put
returns-then-reaches-clause-put c =
    on_ok_weaker c.put_uses.result
    (λ put. put
    ∙ ap (λ (us : List UnsetUse). c.args.uses.now.items ++ us)
    (sym (uses_if c.args.self.now.graph.now (knowledge_of c.args.self.now) c.args.point c.in-Some.stmt.now true (sym c.in-Some.ensures.stmt)
    (sym c.reaches.ensures ∙ c.if-reaches.true))))
    c.put_uses.ensures.put

pub returns-clause-put : goal.returns-clause-put
returns-clause-put c =
    sym (ap (λ (us : List UnsetUse). c.args.uses.now.items ++ us)
    (uses_if c.args.self.now.graph.now (knowledge_of c.args.self.now) c.args.point c.in-Some.stmt.now false (sym c.in-Some.ensures.stmt)
    (sym c.reaches.ensures ∙ c.if-reaches.false))
    ∙ append-nil c.args.uses.now.items)
