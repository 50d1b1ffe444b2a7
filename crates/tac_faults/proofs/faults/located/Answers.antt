use Rattle.std.proofs.Common.{◌∙◌, ◌++◌, ap, append-nil, map, sym}
use Rattle.std.proofs.lemmas.List.{drop_all}
use Rattle.tac_faults.proofs.Lists.{take_min}
use Rattle.tac_faults.specs.Listed.{most_found}
use Rattle.tac_reader.specs.Faults.{refusal_at}
use Rattle.tac_faults.proofs.faults.located.Goals as goal

pub returns : goal.returns
returns c =
    let refusal = refusal_at c.args.text.now in
    sym (ap (λ fs. c.loop-fault.found.items ++ map refusal fs) (drop_all c.loop-fault.fault-index _ c.loop-fault-test.false)
    ∙ append-nil c.loop-fault.found.items)
    ∙ c.loop-fault.invariant
    ∙ ap (map refusal) (take_min most_found c.min.result c.args.faults.now c.min.ensures)
