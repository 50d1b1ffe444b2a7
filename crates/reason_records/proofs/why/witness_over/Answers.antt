use Rattle.reason_records.proofs.why.witness_over.Goals as goal

pub returns : goal.returns
returns c = c.witness_at.ensures.witness
