use Rattle.std.proofs.Common.{◌∙◌, ◌&&◌, ℕ, Bool, not}
use Rattle.std.proofs.lemmas.Result.{IfOk-weaker}
use Rattle.flow_graph.specs.declared.analysis.Analysis.TheVariants.{Reach, Live}
use Rattle.flow_lints.proofs.Doubts.{as_many, marked_are_among, tell_doubt}
use Rattle.flow_lints.proofs.doubt.doubt_on_executions.Goals as goal
use Rattle.flow_reports.specs.code.Findings.{knowledge_of}

pub leads_among-requires-clause-among : goal.leads_among-requires-clause-among
leads_among-requires-clause-among c =
    as_many c.args.found.now.graph.now c.deref.result.now (knowledge_of c.args.found.now).reach.has_path (c.deref.ensures.value ∙ c.in_ok-reached.ensures)

pub leads_among-requires-clause-marked : goal.leads_among-requires-clause-marked
leads_among-requires-clause-marked c =
    let endless : ℕ → Bool = λ p. (knowledge_of c.args.found.now).reach.has_path p && not ((knowledge_of c.args.found.now).live.has_path p) in
    as_many c.args.found.now.graph.now c.deref-2.result.now endless (c.deref-2.ensures.value ∙ c.in_ok-endless.ensures)

pub leads_among-requires-clause-within : goal.leads_among-requires-clause-within
leads_among-requires-clause-within c =
    marked_are_among c.args.found.now.graph.now c.requires.sound (knowledge_of c.args.found.now).reach.has_path
    (knowledge_of c.args.found.now).live.has_path c.deref.result.now c.deref-2.result.now
    (λ point below. c.requires.answers.answers.paths Reach point below) (λ point below. c.requires.answers.answers.paths Live point below)
    (c.deref.ensures.value ∙ c.in_ok-reached.ensures) (c.deref-2.ensures.value ∙ c.in_ok-endless.ensures)

pub returns : goal.returns
returns c =
    IfOk-weaker c.leads_among.result _ _
    (λ answers tells.
    tell_doubt c.args.found.now.graph.now c.requires.sound (knowledge_of c.args.found.now).reach.has_path
    (knowledge_of c.args.found.now).live.has_path c.deref.result.now c.deref-2.result.now
    (λ point below. c.requires.answers.answers.paths Reach point below) (λ point below. c.requires.answers.answers.paths Live point below)
    (c.deref.ensures.value ∙ c.in_ok-reached.ensures) (c.deref-2.ensures.value ∙ c.in_ok-endless.ensures) answers.items tells)
    c.leads_among.ensures
