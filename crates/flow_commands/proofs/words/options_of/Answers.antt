use Rattle.std.proofs.Common.{arith}
use Rattle.clap.specs.Words.{found_of, rows_of}
use Rattle.flow_runs.proofs.matches.Numbers.{named_within}
use Rattle.flow_commands.proofs.words.options_of.Goals as goal

pub unwrap-requires : goal.unwrap-requires
unwrap-requires c =
    let rows = rows_of (found_of c.args.matches.now) in
    let workers = named_within rows _ 64 c.requires.workers (omega arith) c.number_of-workers.result c.number_of-workers.ensures in
    let cut = named_within rows _ 4096 c.requires.cut (omega arith) c.number_of-cut.result c.number_of-cut.ensures in
    c.new.ensures.answered.1 (workers.0, workers.1, cut.0, cut.1)
