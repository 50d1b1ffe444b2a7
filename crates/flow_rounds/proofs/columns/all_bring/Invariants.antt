use Rattle.std.proofs.Common.{◌≡◌, drop}
use Rattle.std.specs.List.{list_all}
use Rattle.flow_rounds.specs.code.Frames.{brings_bit}
use Rattle.flow_rounds.proofs.columns.all_bring.Given as goal

abbrev pub invariant-loop-source : goal.invariant-loop-source
invariant-loop-source l =
    list_all (brings_bit l.frame l.column l.bit l.point) (drop l.source-index l.sources) ≡ list_all
    (brings_bit l.frame l.column l.bit l.point) l.sources
