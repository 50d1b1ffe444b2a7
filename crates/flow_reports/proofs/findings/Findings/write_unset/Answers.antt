use Rattle.std.proofs.Common.{ℕ, List, [], ◌∷◌, ◌+◌, ◌<◌, flat_map, length, ap, ◌∙◌, sym, arith}
use Rattle.std.proofs.lemmas.Option.{slice_get_within}
use Rattle.flow_graph.specs.declared.analysis.Analysis.TheVariants.{Reach}
use Rattle.report_answers.specs.code.Chosen.{wanted_query}
use Rattle.report_answers.proofs.queries.Querying.{first_read, second_read}
use Rattle.tac_program.specs.Programs.{Program}
use Rattle.flow_reports.specs.code.Findings.{knowledge_of}
use Rattle.report_answers.specs.code.Operands.{AreRead}
use Rattle.flow_reports.specs.Reports.{Knowledge}
use Rattle.flow_reports.specs.declared.remark.Remark.TheVariants.{Unset}
use Rattle.text_pieces.proofs.sinks.Taking.{takes_as, takes_nothing, takes_then}
use Rattle.flow_reports.proofs.knowledge.RemarkLines.{unset_are, two_texts}
use Rattle.report_answers.proofs.queries.Statements.{variables_are_there, first_of, second_of}
use Rattle.flow_reports.proofs.findings.Findings.write_unset.Goals as goal

pub write_unset_variable-requires-clause-queried : goal.write_unset_variable-requires-clause-queried
write_unset_variable-requires-clause-queried g c =
    let here = c.requires.found.answers.queried c.args.point c.places-reads.result c.args.kind.now c.places-reads.ensures c.requires.kind in
    let x : ℕ = c.in-One.variable in
    let are : AreRead c.args.kind.now (x ∷ []) = record { rising = c.in-One.ensures.rising; read = c.in-One.ensures.read } in
    first_read c.args.self.now.answers.now.chosen c.args.self.now.answers.now.replies.queries c.places-reads.result.reads c.args.point x c.args.kind.now [] here.reads are

pub write_unset_variable-requires-in-Two-clause-queried : goal.write_unset_variable-requires-in-Two-clause-queried
write_unset_variable-requires-in-Two-clause-queried g c =
    let here = c.requires.found.answers.queried c.args.point c.places-reads.result c.args.kind.now c.places-reads.ensures c.requires.kind in
    let x : ℕ = c.in-Two.first in
    let y : ℕ = c.in-Two.second in
    let are : AreRead c.args.kind.now (x ∷ y ∷ []) = record { rising = c.in-Two.ensures.rising; read = c.in-Two.ensures.read } in
    first_read c.args.self.now.answers.now.chosen c.args.self.now.answers.now.replies.queries c.places-reads.result.reads c.args.point x c.args.kind.now (y ∷ []) here.reads are

pub overflow_add-reads : goal.overflow_add-reads
overflow_add-reads g c =
    let here = c.requires.found.answers.queried c.args.point c.places-reads.result c.args.kind.now c.places-reads.ensures c.requires.kind in
    let x : ℕ = c.in-Two.first in
    let y : ℕ = c.in-Two.second in
    let are : AreRead c.args.kind.now (x ∷ y ∷ []) = record { rising = c.in-Two.ensures.rising; read = c.in-Two.ensures.read } in
    let queries = c.args.self.now.answers.now.replies.queries in
    let second = second_read c.args.self.now.answers.now.chosen queries c.places-reads.result.reads c.args.point x y c.args.kind.now here.reads are in
    let inside : c.places-reads.result.reads + 1 < length queries =
    slice_get_within queries (c.places-reads.result.reads + 1) (wanted_query c.args.self.now.answers.now.chosen Reach c.args.point y) second in
    omega (arith, inside, c.requires.found.answers.few)

pub write_unset_variable-requires-in-Two-2-clause-queried : goal.write_unset_variable-requires-in-Two-2-clause-queried
write_unset_variable-requires-in-Two-2-clause-queried g c =
    let here = c.requires.found.answers.queried c.args.point c.places-reads.result c.args.kind.now c.places-reads.ensures c.requires.kind in
    let x : ℕ = c.in-Two.first in
    let y : ℕ = c.in-Two.second in
    let are : AreRead c.args.kind.now (x ∷ y ∷ []) = record { rising = c.in-Two.ensures.rising; read = c.in-Two.ensures.read } in
    second_read c.args.self.now.answers.now.chosen c.args.self.now.answers.now.replies.queries c.places-reads.result.reads c.args.point x y c.args.kind.now here.reads are

pub write_unset_variable-requires-clause-variable : goal.write_unset_variable-requires-clause-variable
write_unset_variable-requires-clause-variable g c =
    let x : ℕ = c.in-One.variable in
    let are : AreRead c.args.kind.now (x ∷ []) = record { rising = c.in-One.ensures.rising; read = c.in-One.ensures.read } in
    variables_are_there c.args.self.now.graph.now c.args.point c.args.kind.now (x ∷ []) c.requires.found.sound c.requires.point c.requires.kind are x
    (first_of x [])

pub write_unset_variable-requires-in-Two-clause-variable : goal.write_unset_variable-requires-in-Two-clause-variable
write_unset_variable-requires-in-Two-clause-variable g c =
    let x : ℕ = c.in-Two.first in
    let y : ℕ = c.in-Two.second in
    let are : AreRead c.args.kind.now (x ∷ y ∷ []) = record { rising = c.in-Two.ensures.rising; read = c.in-Two.ensures.read } in
    variables_are_there c.args.self.now.graph.now c.args.point c.args.kind.now (x ∷ y ∷ [])
    c.requires.found.sound c.requires.point c.requires.kind are x (first_of x (y ∷ []))

pub write_unset_variable-requires-in-Two-2-clause-variable : goal.write_unset_variable-requires-in-Two-2-clause-variable
write_unset_variable-requires-in-Two-2-clause-variable g c =
    let x : ℕ = c.in-Two.first in
    let y : ℕ = c.in-Two.second in
    let are : AreRead c.args.kind.now (x ∷ y ∷ []) = record { rising = c.in-Two.ensures.rising; read = c.in-Two.ensures.read } in
    variables_are_there c.args.self.now.graph.now c.args.point c.args.kind.now (x ∷ y ∷ [])
    c.requires.found.sound c.requires.point c.requires.kind are y (second_of x y)

pub returns-in-None : goal.returns-in-None
returns-in-None g c =
    let program : Program = c.args.self.now.graph.now in
    let text : ℕ → List ℕ = λ v. g.F.ChosenForm.text c.args.form.now program c.args.point (Unset v) in
    let are : AreRead c.args.kind.now [] = record { rising = c.in-None.ensures.rising; read = c.in-None.ensures.read } in
    takes_as _ _ _ _ (takes_nothing _)
    (sym (ap (flat_map text) (unset_are program (knowledge_of c.args.self.now)
    c.args.point c.args.kind.now [] c.requires.found.sound c.requires.point c.requires.kind are)))

pub returns-in-One : goal.returns-in-One
returns-in-One g c =
    let program : Program = c.args.self.now.graph.now in
    let text : ℕ → List ℕ = λ v. g.F.ChosenForm.text c.args.form.now program c.args.point (Unset v) in
    let x : ℕ = c.in-One.variable in
    let are : AreRead c.args.kind.now (x ∷ []) = record { rising = c.in-One.ensures.rising; read = c.in-One.ensures.read } in
    takes_as _ _ _ _ c.write_unset_variable.ensures
    (ap (flat_map text) (sym (unset_are program (knowledge_of c.args.self.now) c.args.point c.args.kind.now (x
    ∷ []) c.requires.found.sound c.requires.point c.requires.kind are)))

pub returns-in-Two : goal.returns-in-Two
returns-in-Two g c =
    let program : Program = c.args.self.now.graph.now in
    let known : Knowledge = knowledge_of c.args.self.now in
    let point : ℕ = c.args.point in
    let text : ℕ → List ℕ = λ v. g.F.ChosenForm.text c.args.form.now program point (Unset v) in
    let x : ℕ = c.in-Two.first in
    let y : ℕ = c.in-Two.second in
    let are : AreRead c.args.kind.now (x ∷ y ∷ []) = record { rising = c.in-Two.ensures.rising; read = c.in-Two.ensures.read } in
    takes_as _ _ _ _ (takes_then _ _ _ _ _ c.write_unset_variable-in-Two.ensures c.write_unset_variable-in-Two-2.ensures)
    (sym (two_texts text (known.reach.contains point) x y)
    ∙ ap (flat_map text)
    (sym (unset_are program known point c.args.kind.now (x ∷ y ∷ []) c.requires.found.sound c.requires.point c.requires.kind are)))
