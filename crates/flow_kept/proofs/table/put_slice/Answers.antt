-- No word is filled at first.
use Rattle.std.proofs.Common.{◌-◌, ◌/◌, refl}
use Rattle.flow_kept.specs.Facts.{IsRowWord}
use Rattle.flow_kept.proofs.buffers.Filling.{no_group}
use Rattle.flow_kept.proofs.table.put_slice.Goals as goal

pub solve_each-requires-clause-begun : goal.solve_each-requires-clause-begun
solve_each-requires-clause-begun c =
    let layout = c.args.layout in
    let slice = c.args.slice.now in
    let form = c.args.solver.now in (
      refl,
      (
        refl,
        no_group (IsRowWord form.program form.analysis layout.from slice.lo slice.hi) (layout.until - layout.from) layout.count (slice.lo / 64)
            (slice.lo / 64) c.args.words.now,
      ),
    )
