use Rattle.std.proofs.Common.{rules, ◌≡◌, ◌+◌, ◌<◌, ◌≤◌, ℕ, length, take, get_or, sum_by, vec_len, ap, ◌∙◌, sym, subst, refl, arith}
use Rattle.tac_program.specs.Programs.{Program}
use Rattle.flow_graph.specs.Points.{size_of}
use Rattle.flow_graph.proofs.places.PlaceTables.{procedures_before, one_more}
use Rattle.flow_graph.proofs.points.point_procedures.Goals as goal
use Rattle.std.proofs.lemmas.List.Sums.{sum_by-take-le}
use Rattle.tac_program.specs.Limits.{most_points}
use Rattle.tac_program.specs.declared.limits.Limits.TheVariants.{Large}

pub overflow_add-number : goal.overflow_add-number
overflow_add-number c =
    let procs = c.procs-procs.result.now in
    let few : sum_by size_of procs ≤ most_points Large = subst (λ ps. sum_by size_of ps ≤ most_points Large) (sym c.loop-procedure.invariant.all) c.requires in
    let before : c.loop-procedure.procedure-index ≤ sum_by size_of (take c.loop-procedure.procedure-index procs) =
    procedures_before procs c.loop-procedure.procedure-index (omega arith) in
    let within = sum_by-take-le size_of procs c.loop-procedure.procedure-index in
    let below : c.loop-procedure.number + 1 < 4294967296 = omega arith in
    search rules

pub loop-procedure-preserved : goal.loop-procedure-preserved
loop-procedure-preserved c =
    let program : Program = c.args.program.now in
    let k : ℕ = c.loop-procedure.procedure-index in
    let old = c.loop-procedure.procedures.items in
    let new = c.resize.new.self.items in
    let n : ℕ = c.len.result + (length c.stmts.result.now + 1) in
    let all : c.procs-procs.result.now ≡ program.procedures = c.loop-procedure.invariant.all in
    let old_len : vec_len c.loop-procedure.procedures ≡ length old = search rules in
    let new_len : vec_len c.resize.new.self ≡ length new = search rules in
    let by_index = c.in_ok-resize.ensures.by_index in
    let more = one_more program k n c.procedure-item.result old new
    (omega (arith, ap length all)) (c.procedure-item.is ∙ ap (λ ps. get_or ps k c.procedure-item.result) all)
    (c.loop-procedure.invariant.so_many ∙ ap (λ ps. sum_by size_of (take k ps)) all) c.loop-procedure.invariant.each
    (omega (arith, ap length c.stmts.ensures, c.len.ensures))
    (λ i d below before. by_index.0 i d below (rw old_len before))
    (λ i d behind below. by_index.1 i d refl (rw old_len behind) below ∙ c.loop-procedure.invariant.numbered) in
    let so_many : length new ≡ n = sym new_len ∙ c.in_ok-resize.ensures.len in
    record {
      numbered = omega arith;
      all = all;
      so_many = so_many ∙ more.0 ∙ sym (ap (λ ps. sum_by size_of (take (k + 1) ps)) all);
      each = λ i d below. more.1 i d (omega (arith, so_many));
    }
