use Rattle.std.proofs.Common.{◌≡◌, ◌<◌, ◌+◌, ◌↔◌, ◌||◌, ℕ, true, length, get_or, arith, sym, ◌∙◌, ap, subst}
use Rattle.std.proofs.lemmas.List.Elements.{Contains-get_or}
use Rattle.bit_rows.specs.Words.{has_bit}
use Rattle.flow_graph.specs.Points.{point_count}
use Rattle.flow_links.specs.Shapes.{directed_shape}
use Rattle.flow_links.proofs.groups.ListLemmas.{exit_low}
use Rattle.gk_solve.specs.Tables.Groups.{generated_word, preserved_word}
use Rattle.gk_solve.specs.declared.summary.Summary.{Summary}
use Rattle.gk_solve.proofs.beginnings.Beginning.{no_bit}
use Rattle.gk_solve.proofs.edges.GroupLemmas.{read_summary}
use Rattle.gk_solve.proofs.visits.Callees.{IsFoundBelow, found_more, found_none, found_still, no_link, some_callee}
use Rattle.gk_solve.specs.Tables.Flags.{IsFlagged}
use Rattle.gk_solve.proofs.group.called.Goals as goal
use Rattle.gk_solve.proofs.group.called.Goals.{then-frame-call, else-frame-call}

pub loop-call-init : goal.loop-call-init
loop-call-init g c = record {
  preserved = λ w k inside. found_none c.args.frame.now.paths.now (preserved_word c.args.table.now w) c.calls_from-calls.result.now k _ (no_bit g.row.W w k);
  generated = λ w k inside. found_none c.args.frame.now.paths.now (generated_word c.args.table.now w) c.calls_from-calls.result.now k _ (no_bit g.row.W w k);
}

pub loop-call-preserved : goal.loop-call-preserved
loop-call-preserved g c =
    let calls = c.calls_from-calls.result.now in
    let n : ℕ = c.loop-call.call-index in
    let there = (c.calls_from-calls.ensures.listed (get_or calls n no_link)).0 (Contains-get_or calls n no_link c.loop-call-test.true) in
    let low = subst (λ e. e < point_count c.args.frame.now.links.now.program) (sym there.3)
    (exit_low c.requires.frame.numbered there.0 c.args.at there.1 there.2) in
    let within : (get_or calls n no_link).exit < length c.args.table.now = omega (arith, low, c.requires.count) in
    elim c.if-frame-call.branch [
      | then-frame-call b ↦
          let read = read_summary c.args.table.now (get_or calls n no_link).exit b.index-table-call.result within b.index-table-call.is in
          record {
            preserved = λ w k inside. found_more c.args.frame.now.paths.now (preserved_word c.args.table.now w) calls k n
                (has_bit (get_or c.loop-call.all.preserved w 0) k) (has_bit (get_or c.if-frame-call.all.preserved w 0) k) b.if-frame-call.true
                (ap (λ (s : Summary g.row.W). has_bit (get_or s.preserved w 0) k) b.all-is ∙ (b.joined_summary-more.ensures.preserved w k inside
                ∙ ap (λ (s : Summary g.row.W). has_bit (get_or c.loop-call.all.preserved w 0) k || has_bit (get_or s.preserved w 0) k) read))
                (c.loop-call.invariant.preserved w k inside);
            generated = λ w k inside. found_more c.args.frame.now.paths.now (generated_word c.args.table.now w) calls k n
                (has_bit (get_or c.loop-call.all.generated w 0) k) (has_bit (get_or c.if-frame-call.all.generated w 0) k) b.if-frame-call.true
                (ap (λ (s : Summary g.row.W). has_bit (get_or s.generated w 0) k) b.all-is ∙ (b.joined_summary-more.ensures.generated w k inside
                ∙ ap (λ (s : Summary g.row.W). has_bit (get_or c.loop-call.all.generated w 0) k || has_bit (get_or s.generated w 0) k) read))
                (c.loop-call.invariant.generated w k inside);
          }
      | else-frame-call b ↦
          let never : IsFlagged c.args.frame.now.paths.now (get_or calls n no_link).exit → ⊥ = λ flagged. let clear = b.if-frame-call.false in absurd (cc) in
          record {
            preserved = λ w k inside. subst (λ (s : Summary g.row.W). (has_bit (get_or s.preserved w 0) k ≡ true)
                ↔ IsFoundBelow c.args.frame.now.paths.now (preserved_word c.args.table.now w) calls (n + 1) k) (sym b.all-is)
                (found_still c.args.frame.now.paths.now (preserved_word c.args.table.now w) calls k n
                (has_bit (get_or c.loop-call.all.preserved w 0) k) never (c.loop-call.invariant.preserved w k inside));
            generated = λ w k inside. subst (λ (s : Summary g.row.W). (has_bit (get_or s.generated w 0) k ≡ true)
                ↔ IsFoundBelow c.args.frame.now.paths.now (generated_word c.args.table.now w) calls (n + 1) k) (sym b.all-is)
                (found_still c.args.frame.now.paths.now (generated_word c.args.table.now w) calls k n
                (has_bit (get_or c.loop-call.all.generated w 0) k) never (c.loop-call.invariant.generated w k inside));
          }
    ]

pub returns-clause-preserved : goal.returns-clause-preserved
returns-clause-preserved g c w k inside =
    some_callee c.args.frame.now.paths.now (preserved_word c.args.table.now w) c.calls_from-calls.result.now k (directed_shape c.args.frame.now.links.now)
    c.args.frame.now.links.now.backward (point_count c.args.frame.now.links.now.program) c.args.at c.loop-call.call-index
    (has_bit (get_or c.loop-call.all.preserved w 0) k) c.calls_from-calls.ensures (omega arith) (c.loop-call.invariant.preserved w k inside)

pub returns-clause-generated : goal.returns-clause-generated
returns-clause-generated g c w k inside =
    some_callee c.args.frame.now.paths.now (generated_word c.args.table.now w) c.calls_from-calls.result.now k (directed_shape c.args.frame.now.links.now)
    c.args.frame.now.links.now.backward (point_count c.args.frame.now.links.now.program) c.args.at c.loop-call.call-index
    (has_bit (get_or c.loop-call.all.generated w 0) k) c.calls_from-calls.ensures (omega arith) (c.loop-call.invariant.generated w k inside)
