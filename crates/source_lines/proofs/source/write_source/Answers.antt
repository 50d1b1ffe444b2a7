use Rattle.std.proofs.Common.{◌≡◌, ◌+◌, ◌-◌, ℕ, List, drop, length, slice_range, arith}
use Rattle.std.proofs.lemmas.List.{length-drop, length-take-le}
use Rattle.text_pieces.proofs.sinks.Taking.{stays_open}
use Rattle.source_lines.proofs.lines.Told.{told_all, told_more, told_none}
use Rattle.source_lines.proofs.source.write_source.Goals as goal

pub loop-start-init : goal.loop-start-init
loop-start-init g c = told_none g.K.Sink c.args.text.now c.args.out.now

pub write_line-requires : goal.write_line-requires
write_line-requires g c = stays_open _ _ _ c.requires c.loop-start.invariant.writes

pub returns : goal.returns
returns g c = told_all g.K.Sink c.args.text.now c.args.out.now _ _ _ c.loop-start.invariant (omega (arith, c.loop-start-test.false))

pub loop-start-preserved : goal.loop-start-preserved
loop-start-preserved g c =
    let text : List ℕ = c.args.text.now in
    let start : ℕ = c.loop-start.start in
    let stop : ℕ = c.line_stop-stop.result in
    let ends : stop ≡ start + length (slice_range text start stop) = omega (
      arith,
      length-take-le (stop - start) (drop start text) (omega (arith, c.line_stop-stop.ensures.within, length-drop start text)),
      c.line_stop-stop.ensures.after,
    ) in
    told_more g.K.Sink text c.args.out.now _ _ c.loop-start.number start stop (slice_range text start stop) c.loop-start.invariant
    c.line_stop-stop.ensures.line ends c.line_stop-stop.ensures.after c.write_line.ensures
