use Rattle.std.proofs.Common.{◌+◌, ◌*◌, ◌&&◌, nat_lt, sym, ◌∙◌}
use Rattle.gen_kill.specs.Selections.{column_boundary, column_count}
use Rattle.gen_kill.proofs.bits.Marks.{marked_where, unmarked_where}
use Rattle.gen_kill.proofs.problem.Problem.boundary_mark.Goals as goal

pub returns-then-boundary_bit : goal.returns-then-boundary_bit
returns-then-boundary_bit c k =
    marked_where (λ n. nat_lt (64 * c.args.word + n) (column_count c.args.self.now) && column_boundary c.args.self.now (64 * c.args.word + n))
    c.args.place k (sym c.boundary_bit.ensures ∙ c.if-boundary_bit.true)

pub returns-else-boundary_bit : goal.returns-else-boundary_bit
returns-else-boundary_bit c k =
    unmarked_where (λ n. nat_lt (64 * c.args.word + n) (column_count c.args.self.now) && column_boundary c.args.self.now (64 * c.args.word + n))
    c.args.place k (sym c.boundary_bit.ensures ∙ c.if-boundary_bit.false)
