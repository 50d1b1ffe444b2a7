use Rattle.std.proofs.Common.{ℕ, [], ◌∷◌, ◌+◌, ◌<◌, ◌||◌, length, ap, ◌∙◌, sym, arith}
use Rattle.std.proofs.lemmas.Option.{slice_get_within}
use Rattle.flow_graph.specs.declared.analysis.Analysis.TheVariants.{Reach}
use Rattle.report_answers.specs.code.Chosen.{wanted_query}
use Rattle.report_answers.proofs.queries.Querying.{first_read, second_read}
use Rattle.tac_program.specs.Programs.{Program}
use Rattle.flow_reports.specs.code.Findings.{knowledge_of}
use Rattle.report_answers.specs.code.Operands.{AreRead}
use Rattle.text_pieces.specs.code.Lists.{some_stand}
use Rattle.flow_reports.specs.Reports.{Knowledge}
use Rattle.flow_reports.proofs.knowledge.RemarkLines.{unset_are, one_passes, two_pass}
use Rattle.flow_reports.proofs.findings.Findings.finds_unset.Goals as goal

pub may_be_unset-requires-clause-queried : goal.may_be_unset-requires-clause-queried
may_be_unset-requires-clause-queried c =
    let here = c.requires.found.answers.queried c.args.point c.places-here.result c.args.kind.now c.places-here.ensures c.requires.kind in
    let x : ℕ = c.in-One.variable in
    let are : AreRead c.args.kind.now (x ∷ []) = record { rising = c.in-One.ensures.rising; read = c.in-One.ensures.read } in
    first_read c.args.self.now.answers.now.chosen c.args.self.now.answers.now.replies.queries c.places-here.result.reads c.args.point x c.args.kind.now [] here.reads are

pub may_be_unset-requires-in-Two-clause-queried : goal.may_be_unset-requires-in-Two-clause-queried
may_be_unset-requires-in-Two-clause-queried c =
    let here = c.requires.found.answers.queried c.args.point c.places-here.result c.args.kind.now c.places-here.ensures c.requires.kind in
    let x : ℕ = c.in-Two.first in
    let y : ℕ = c.in-Two.second in
    let are : AreRead c.args.kind.now (x ∷ y ∷ []) = record { rising = c.in-Two.ensures.rising; read = c.in-Two.ensures.read } in
    first_read c.args.self.now.answers.now.chosen c.args.self.now.answers.now.replies.queries c.places-here.result.reads c.args.point x c.args.kind.now (y ∷ []) here.reads are

pub overflow_add-here : goal.overflow_add-here
overflow_add-here c =
    let here = c.requires.found.answers.queried c.args.point c.places-here.result c.args.kind.now c.places-here.ensures c.requires.kind in
    let x : ℕ = c.in-Two.first in
    let y : ℕ = c.in-Two.second in
    let are : AreRead c.args.kind.now (x ∷ y ∷ []) = record { rising = c.in-Two.ensures.rising; read = c.in-Two.ensures.read } in
    let queries = c.args.self.now.answers.now.replies.queries in
    let second = second_read c.args.self.now.answers.now.chosen queries c.places-here.result.reads c.args.point x y c.args.kind.now here.reads are in
    let inside : c.places-here.result.reads + 1 < length queries =
    slice_get_within queries (c.places-here.result.reads + 1) (wanted_query c.args.self.now.answers.now.chosen Reach c.args.point y) second in
    omega (arith, inside, c.requires.found.answers.few)

pub may_be_unset-requires-else-may_be_unset-clause-queried : goal.may_be_unset-requires-else-may_be_unset-clause-queried
may_be_unset-requires-else-may_be_unset-clause-queried c =
    let here = c.requires.found.answers.queried c.args.point c.places-here.result c.args.kind.now c.places-here.ensures c.requires.kind in
    let x : ℕ = c.in-Two.first in
    let y : ℕ = c.in-Two.second in
    let are : AreRead c.args.kind.now (x ∷ y ∷ []) = record { rising = c.in-Two.ensures.rising; read = c.in-Two.ensures.read } in
    second_read c.args.self.now.answers.now.chosen c.args.self.now.answers.now.replies.queries c.places-here.result.reads c.args.point x y c.args.kind.now here.reads are

pub returns-in-None : goal.returns-in-None
returns-in-None c =
    let program : Program = c.args.self.now.graph.now in
    let are : AreRead c.args.kind.now [] = record { rising = c.in-None.ensures.rising; read = c.in-None.ensures.read } in
    sym (ap some_stand (unset_are program (knowledge_of c.args.self.now)
    c.args.point c.args.kind.now [] c.requires.found.sound c.requires.point c.requires.kind are))

pub returns-in-One : goal.returns-in-One
returns-in-One c =
    let program : Program = c.args.self.now.graph.now in
    let known : Knowledge = knowledge_of c.args.self.now in
    let x : ℕ = c.in-One.variable in
    let are : AreRead c.args.kind.now (x ∷ []) = record { rising = c.in-One.ensures.rising; read = c.in-One.ensures.read } in
    c.may_be_unset.ensures
    ∙ sym (one_passes (known.reach.contains c.args.point) x)
    ∙ sym (ap some_stand (unset_are program known c.args.point c.args.kind.now (x ∷ []) c.requires.found.sound c.requires.point c.requires.kind are))

pub returns-then-may_be_unset : goal.returns-then-may_be_unset
returns-then-may_be_unset c =
    let program : Program = c.args.self.now.graph.now in
    let known : Knowledge = knowledge_of c.args.self.now in
    let x : ℕ = c.in-Two.first in
    let y : ℕ = c.in-Two.second in
    let are : AreRead c.args.kind.now (x ∷ y ∷ []) = record { rising = c.in-Two.ensures.rising; read = c.in-Two.ensures.read } in
    c.if-may_be_unset.true
    ∙ sym
    (ap some_stand (unset_are program known c.args.point c.args.kind.now (x ∷ y ∷ []) c.requires.found.sound c.requires.point c.requires.kind are)
    ∙ two_pass (known.reach.contains c.args.point) x y
    ∙ ap (λ b. b || known.reach.contains c.args.point y) (sym c.may_be_unset-in-Two.ensures ∙ c.if-may_be_unset.true))

pub returns-else-may_be_unset : goal.returns-else-may_be_unset
returns-else-may_be_unset c =
    let program : Program = c.args.self.now.graph.now in
    let known : Knowledge = knowledge_of c.args.self.now in
    let x : ℕ = c.in-Two.first in
    let y : ℕ = c.in-Two.second in
    let are : AreRead c.args.kind.now (x ∷ y ∷ []) = record { rising = c.in-Two.ensures.rising; read = c.in-Two.ensures.read } in
    c.may_be_unset-else-may_be_unset.ensures
    ∙ sym
    (ap some_stand (unset_are program known c.args.point c.args.kind.now (x ∷ y ∷ []) c.requires.found.sound c.requires.point c.requires.kind are)
    ∙ two_pass (known.reach.contains c.args.point) x y
    ∙ ap (λ b. b || known.reach.contains c.args.point y) (sym c.may_be_unset-in-Two.ensures ∙ c.if-may_be_unset.false))
