use Rattle.std.proofs.Common.{◌≡◌, ◌∙◌, ℕ, suc, ◌+◌, ◌-◌, Option, unwrap_or, sym, ap, ap₂, arith}
use Rattle.std.specs.List.{find, range_with_len}
use Rattle.flow_graph.specs.Points.{end_place, end_point, entry_point, procedure_at}
use Rattle.tac_program.specs.Programs.{Program}
use Rattle.block_dots.specs.Blocks.{is_leader}
use Rattle.block_dots.proofs.points.Ranges.{find_here, find_later, find_none}
use Rattle.block_dots.proofs.blocks.block_end.Goals as goal

pub loop-point-init : goal.loop-point-init
loop-point-init c =
    let program : Program = c.args.shown.now.found.graph.now in
    let leader : ℕ = c.args.leader in
    let last : ℕ = end_point program (procedure_at program leader) in
    let ends : c.points_of-points.result.end ≡ suc last =
    omega (arith, c.points_of-points.ensures.end, ap (λ (p : ℕ). entry_point program p + suc (end_place program p)) c.scope.ensures.procedure) in
    let next : suc leader ≡ leader + 1 = omega arith in
    let many : last - leader ≡ c.points_of-points.result.end - (leader + 1) = omega (arith, ends) in
    ap₂ (λ (a n : ℕ). find (is_leader program) (range_with_len a n)) next many

pub loop-point-preserved : goal.loop-point-preserved
loop-point-preserved c =
    c.loop-point.invariant
    ∙ find_later (is_leader c.args.shown.now.found.graph.now) c.loop-point.point c.points_of-points.result.end c.loop-point-test.true
    (sym c.is_leader.ensures ∙ c.if-is_leader.false)

pub returns-then-is_leader : goal.returns-then-is_leader
returns-then-is_leader c =
    let program : Program = c.args.shown.now.found.graph.now in
    sym (ap (λ (o : Option ℕ). unwrap_or o (suc (end_point program (procedure_at program c.args.leader))))
    (c.loop-point.invariant
    ∙ find_here (is_leader program) c.loop-point.point c.points_of-points.result.end c.loop-point-test.true
    (sym c.is_leader.ensures ∙ c.if-is_leader.true)))

pub returns : goal.returns
returns c =
    let program : Program = c.args.shown.now.found.graph.now in
    let leader : ℕ = c.args.leader in
    let last : ℕ = end_point program (procedure_at program leader) in
    let ends : c.points_of-points.result.end ≡ suc last =
    omega (arith, c.points_of-points.ensures.end, ap (λ (p : ℕ). entry_point program p + suc (end_place program p)) c.scope.ensures.procedure) in
    ends ∙ sym (ap (λ (o : Option ℕ). unwrap_or o (suc last))
    (c.loop-point.invariant ∙ find_none (is_leader program) c.loop-point.point c.points_of-points.result.end
    (omega (arith, c.loop-point-test.false))))
