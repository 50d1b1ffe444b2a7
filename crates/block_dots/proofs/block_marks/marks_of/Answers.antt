use Rattle.std.proofs.Common.{◌≡◌, ◌∙◌, ℕ, ◌+◌, ◌-◌, ◌≤◌, Bool, true, false, ◌||◌, refl, sym, ap, ap₂, arith}
use Rattle.std.specs.List.{list_any, range_with_len}
use Rattle.flow_reports.specs.Reports.{Knowledge}
use Rattle.flow_views.specs.Views.{marks_at}
use Rattle.flow_views.specs.code.ViewProgram.{known_of}
use Rattle.flow_views.specs.declared.marks.PointMarks.{PointMarks}
use Rattle.tac_program.specs.Programs.{Program}
use Rattle.block_dots.specs.code.Blocks.{marks_before}
use Rattle.block_dots.proofs.points.Ranges.{any_last}
use Rattle.block_dots.proofs.block_marks.marks_of.Goals as goal

-- of one point
or_none : (b : Bool) → b ≡ (b || false)
or_none true = refl
or_none false = refl

one_point : (program : Program) (known : Knowledge) (leader : ℕ) → marks_at program known leader ≡ marks_before program known leader (leader + 1)
one_point program known leader =
    let single : 1 ≡ leader + 1 - leader = omega arith in
    let marks : PointMarks = marks_at program known leader in
    (λ i. record { reached = marks.reached; unset = or_none marks.unset i; dead = or_none marks.dead i; doubtful = or_none marks.doubtful i })
    ∙ ap (λ (n : ℕ). record {
      reached = marks.reached;
      unset = list_any (λ point. (marks_at program known point).unset) (range_with_len leader n);
      dead = list_any (λ point. (marks_at program known point).dead) (range_with_len leader n);
      doubtful = list_any (λ point. (marks_at program known point).doubtful) (range_with_len leader n);
    }) single

pub loop-point-init : goal.loop-point-init
loop-point-init c = c.marks-marks.ensures ∙ one_point c.args.shown.now.found.graph.now (known_of c.args.shown.now) c.args.block.leader

pub loop-point-preserved : goal.loop-point-preserved
loop-point-preserved c =
    let program : Program = c.args.shown.now.found.graph.now in
    let known : Knowledge = known_of c.args.shown.now in
    let leader : ℕ = c.args.block.leader in
    let point : ℕ = c.loop-point.point in
    let low : leader ≤ point = omega (arith, c.loop-point.auto.point) in
    let unset = any_last (λ p. (marks_at program known p).unset) leader point low in
    let dead = any_last (λ p. (marks_at program known p).dead) leader point low in
    let doubtful = any_last (λ p. (marks_at program known p).doubtful) leader point low in
    c.with_marks-marks.ensures
    ∙ ap₂ (λ (old more : PointMarks). record {
      reached = old.reached;
      unset = old.unset || more.unset;
      dead = old.dead || more.dead;
      doubtful = old.doubtful || more.doubtful;
    }) c.loop-point.invariant c.marks.ensures
    ∙ (λ i. record {
      reached = (marks_at program known leader).reached;
      unset = sym unset i;
      dead = sym dead i;
      doubtful = sym doubtful i;
    })

pub returns : goal.returns
returns c =
    let all : c.loop-point.point ≡ c.args.block.end = omega (arith, c.requires.block.above) in
    c.loop-point.invariant
    ∙ ap (marks_before c.args.shown.now.found.graph.now (known_of c.args.shown.now) c.args.block.leader) (all ∙ c.requires.block.ends)
