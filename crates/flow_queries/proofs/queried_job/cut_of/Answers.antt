use Rattle.std.proofs.Common.{◌*◌, ◌∙◌, ℕ, ap, ap₂, sym, subst}
use Rattle.bit_rows.specs.Slices.{CoverBits, cut_at}
use Rattle.flow_queries.specs.code.Cuts.{AreApart}
use Rattle.flow_queries.proofs.queries.Ends.{cut_apart}
use Rattle.flow_queries.proofs.queried_job.cut_of.Goals as goal

pub returns-in-Ok-clause-apart : goal.returns-in-Ok-clause-apart
returns-in-Ok-clause-apart c =
    let order = c.args.queried.now.order in
    let is = c.in-Ok.ensures.ok ∙ ap₂ cut_at (ap (λ (n : ℕ). 64 * n) c.count.ensures.count) c.as_slice.ensures.value in
    subst (AreApart order) (sym is) (cut_apart order c.in_ok-ends.ends.items c.in_ok-ends.ensures (subst CoverBits is c.in-Ok.ensures.cover))
