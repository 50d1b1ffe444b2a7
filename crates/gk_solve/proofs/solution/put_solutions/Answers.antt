use Rattle.std.proofs.Common.{◌≡◌, ◌≢◌, ◌<◌, ◌≤◌, ◌+◌, ◌*◌, ◌↔◌, inl, inr, get_or, set, length, true, [], arith, ap, sym, subst, ◌∙◌}
use Rattle.std.proofs.lemmas.Bool.{cases_eq}
use Rattle.std.proofs.lemmas.List.{get_or_default, get_or-set_same, get_or-set_other}
use Rattle.bit_rows.specs.Words.{has_bit}
use Rattle.flow_graph.specs.Points.{point_count}
use Rattle.summary_equations.specs.Equations.{IsInSolution}
use Rattle.gk_solve.specs.Tables.Groups.{group_of, generated_word, summary_at}
use Rattle.gk_solve.specs.declared.summary.Summary.{Summary}
use Rattle.gk_solve.proofs.edges.GroupLemmas.{read_summary}
use Rattle.gk_solve.proofs.slices.Slices.{solution_is}
use Rattle.gk_solve.proofs.solution.put_solutions.Goals as goal

pub loop-point-preserved : goal.loop-point-preserved
loop-point-preserved g c =
    let frame = c.args.frame.now in
    let group = group_of frame g.row.W in
    let n = c.loop-point.point in
    let is = c.requires.frame in
    let low : n < point_count frame.links.now.program = omega (arith, c.loop-point-test.true, c.points-point-end.ensures.count) in
    let within : n < length c.loop-point.table = omega (arith, low, c.requires.count) in
    let written : summary_at (set c.loop-point.table n c.solution_at.result) n ≡ c.solution_at.result =
    get_or-set_same c.loop-point.table n c.solution_at.result (record { preserved = []; generated = [] }) within in
    let procedure_low = is.numbered.procedure_in_range n low in
    let procedure_is = c.procedure_of-procedure.ensures in
    let row_is = c.index-brought-procedure.is ∙ (get_or_default c.args.brought.now c.procedure_of-procedure.result c.index-brought-procedure.result []
    (omega (arith, procedure_low, procedure_is, c.requires.procedures)) ∙ ap (λ p. get_or c.args.brought.now p []) procedure_is) in
    let here_is =
    read_summary c.loop-point.table n c.index-table-point.result within c.index-table-point.is ∙ c.loop-point.invariant.rest n (omega arith) in
    let solved = solution_is g.row.W frame is c.args.table.now c.args.brought.now c.requires.sound c.requires.complete c.requires.brought n c.args.lo
    c.args.hi c.words_within-within.result c.index-brought-procedure.result c.solution_at.result.generated
    c.index-table-point.result here_is row_is c.words_within-within.ensures c.solution_at.ensures in
    record {
      done = λ w x k inside below place. elim (cases_eq x n) [
        | inl same ↦
            subst (λ m. (has_bit (generated_word (set c.loop-point.table n c.solution_at.result) w m) k ≡ true)
            ↔ ((c.args.lo ≤ 64 * (frame.first + w) + k) × (64 * (frame.first + w) + k < c.args.hi) × IsInSolution group.shape (group.transfer w k) m))
            (sym same)
            (subst (λ (s : Summary g.row.W). (has_bit (get_or s.generated w 0) k ≡ true)
            ↔ ((c.args.lo ≤ 64 * (frame.first + w) + k) × (64 * (frame.first + w) + k < c.args.hi) × IsInSolution group.shape (group.transfer w k) n))
            (sym written) (solved w k inside place))
        | inr other ↦
            subst (λ (s : Summary g.row.W). (has_bit (get_or s.generated w 0) k ≡ true)
            ↔ ((c.args.lo ≤ 64 * (frame.first + w) + k) × (64 * (frame.first + w) + k < c.args.hi) × IsInSolution group.shape (group.transfer w k) x))
            (sym (get_or-set_other c.loop-point.table n x c.solution_at.result (record { preserved = []; generated = [] }) other))
            (c.loop-point.invariant.done w x k inside (omega (arith, below, other)) place)
      ];
      rest = λ x past.
          let other : x ≢ n = omega (arith, past) in
          get_or-set_other c.loop-point.table n x c.solution_at.result (record { preserved = []; generated = [] }) other
          ∙ c.loop-point.invariant.rest x (omega (arith, past));
    }
