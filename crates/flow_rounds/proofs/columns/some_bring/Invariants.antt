use Rattle.std.proofs.Common.{◌≡◌, drop}
use Rattle.std.specs.List.{list_any}
use Rattle.flow_rounds.specs.code.Frames.{brings_bit}
use Rattle.flow_rounds.proofs.columns.some_bring.Given as goal

abbrev pub invariant-loop-source : goal.invariant-loop-source
invariant-loop-source l =
    list_any (brings_bit l.frame l.column l.bit l.point) (drop l.source-index l.sources) ≡ list_any
    (brings_bit l.frame l.column l.bit l.point) l.sources
