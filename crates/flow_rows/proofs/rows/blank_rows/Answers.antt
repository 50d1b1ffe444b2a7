use Rattle.std.proofs.Common.{◌≡◌, ◌*◌, ◌/◌, Bool, List, arith, subst, sym}
use Rattle.std.proofs.lemmas.Result.{IfOk-weaker}
use Rattle.bit_rows.specs.RowTable.{blank_table}
use Rattle.flow_graph.specs.Points.{point_count}
use Rattle.flow_links.specs.Shapes.{directed_shape}
use Rattle.gk_solve.specs.Tables.Flags.{ArePathFlags}
use Rattle.flow_rows.specs.code.Rows.{TellsBelow}
use Rattle.flow_rows.proofs.words.RowWords.{blank_tells}
use Rattle.flow_rows.proofs.rows.blank_rows.Goals as goal

pub returns : goal.returns
returns c =
    let form = c.args.problem.now in
    let paths = c.in_ok-paths.paths.items in
    IfOk-weaker c.blank.result (λ rows. rows ≡ blank_table paths c.args.lo c.args.hi) (TellsBelow form (64 * (c.args.lo / 64)) c.args.lo c.args.hi)
    (λ rows blank. blank_tells form c.args.routes.now c.requires.routes (64 * (c.args.lo / 64)) c.args.lo c.args.hi paths rows (omega arith)
    (subst (λ (flags : List Bool). ArePathFlags (directed_shape c.args.routes.now) (point_count c.args.routes.now.program) flags)
    (sym c.in_ok-paths.ensures) c.paths.ensures) blank) c.blank.ensures
