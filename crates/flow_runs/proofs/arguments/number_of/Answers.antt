use Rattle.std.proofs.Common.{rules, ◌∙◌}
use Rattle.std.specs.Str.Parse.{ParsesUnsigned, ExplainsUnsignedError, HasUnsignedDigitsIfOk}
use Rattle.clap.specs.Words.{found_of, rows_of}
use Rattle.clap.proofs.WalkLemmas.{one_text-rows}
use Rattle.flow_runs.proofs.matches.Numbers.{number_read, number_named}
use Rattle.flow_runs.proofs.arguments.number_of.Goals as goal

pub unwrap-requires : goal.unwrap-requires
unwrap-requires c =
    let found = found_of c.args.matches.now in
    let read = number_read _ (λ bs r. ParsesUnsigned 32 10 bs r × ExplainsUnsignedError 10 bs r × HasUnsignedDigitsIfOk bs r) (λ u x g. g.0)
    (rows_of found) c.args.name.now c.requires.0 c.requires.2 c.requires.1 c.get_one.result
    (λ t is. c.get_one.ensures.value t (one_text-rows found c.args.name.now ∙ is)) in
    rw read.1 (search rules)

pub returns : goal.returns
returns c =
    let found = found_of c.args.matches.now in
    number_named _ (λ bs r. ParsesUnsigned 32 10 bs r × ExplainsUnsignedError 10 bs r × HasUnsignedDigitsIfOk bs r) (λ u x g. g.0)
    (rows_of found) c.args.name.now c.requires.0 c.requires.2 c.requires.1 c.get_one.result
    (λ t is. c.get_one.ensures.value t (one_text-rows found c.args.name.now ∙ is))
    c.unwrap.result (search rules)
