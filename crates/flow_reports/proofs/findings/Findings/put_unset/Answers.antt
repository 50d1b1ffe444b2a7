use Rattle.std.proofs.Common.{◌≡◌, ◌∙◌, ℕ, ◌+◌, ◌<◌, [], ◌∷◌, ◌++◌, List, Bool, if◌then◌else◌, append-nil, length, map, sym, ap, arith}
use Rattle.std.proofs.lemmas.List.{map-append}
use Rattle.std.proofs.lemmas.List.Elements.{filter-append}
use Rattle.std.proofs.lemmas.Option.{slice_get_within}
use Rattle.std.proofs.lemmas.Result.{on_ok_weaker}
use Rattle.std.specs.List.{filter}
use Rattle.flow_graph.specs.declared.analysis.Analysis.TheVariants.{Reach}
use Rattle.tac_program.specs.Programs.{Program}
use Rattle.flow_reports.specs.Listed.{placed_at}
use Rattle.flow_reports.specs.Reports.{Knowledge, unset_at}
use Rattle.report_answers.specs.code.Chosen.{wanted_query}
use Rattle.flow_reports.specs.code.Findings.{knowledge_of}
use Rattle.report_answers.specs.code.Operands.{AreRead}
use Rattle.flow_reports.specs.declared.remark.Remark.{Remark}
use Rattle.flow_reports.specs.declared.remark.Remark.TheVariants.{Unset}
use Rattle.flow_reports.proofs.knowledge.Listed.{map_if, then_placed}
use Rattle.flow_reports.proofs.knowledge.RemarkLines.{unset_are}
use Rattle.report_answers.proofs.queries.Querying.{first_read, second_read}
use Rattle.flow_reports.proofs.findings.Findings.put_unset.Goals as goal

-- what is said of one variable
one_said : (test : ℕ → Bool) (x : ℕ) (has : Bool) → has ≡ test x
    → map (λ v. Unset v) (filter test (x ∷ [])) ≡ (if has then Unset x ∷ [] else [])
one_said test x has is = map_if (λ v. Unset v) (test x) x ∙ ap (λ (b : Bool). let none : List Remark = [] in if b then Unset x ∷ [] else none) (sym is)

pub has-unset-requires-clause-queried : goal.has-unset-requires-clause-queried
has-unset-requires-clause-queried c =
    let here = c.requires.found.answers.queried c.args.point c.places-reads.result c.args.kind.now c.places-reads.ensures c.requires.kind in
    let x : ℕ = c.in-One.variable in
    let are : AreRead c.args.kind.now (x ∷ []) = record { rising = c.in-One.ensures.rising; read = c.in-One.ensures.read } in
    first_read c.args.self.now.answers.now.chosen c.args.self.now.answers.now.replies.queries c.places-reads.result.reads c.args.point x c.args.kind.now [] here.reads are

pub has-unset-requires-in-Two-clause-queried : goal.has-unset-requires-in-Two-clause-queried
has-unset-requires-in-Two-clause-queried c =
    let here = c.requires.found.answers.queried c.args.point c.places-reads.result c.args.kind.now c.places-reads.ensures c.requires.kind in
    let x : ℕ = c.in-Two.left in
    let y : ℕ = c.in-Two.right in
    let are : AreRead c.args.kind.now (x ∷ y ∷ []) = record { rising = c.in-Two.ensures.rising; read = c.in-Two.ensures.read } in
    first_read c.args.self.now.answers.now.chosen c.args.self.now.answers.now.replies.queries c.places-reads.result.reads c.args.point x c.args.kind.now (y ∷ []) here.reads are

pub overflow_add-reads : goal.overflow_add-reads
overflow_add-reads c =
    let here = c.requires.found.answers.queried c.args.point c.places-reads.result c.args.kind.now c.places-reads.ensures c.requires.kind in
    let x : ℕ = c.in-Two.left in
    let y : ℕ = c.in-Two.right in
    let are : AreRead c.args.kind.now (x ∷ y ∷ []) = record { rising = c.in-Two.ensures.rising; read = c.in-Two.ensures.read } in
    let queries = c.args.self.now.answers.now.replies.queries in
    let second = second_read c.args.self.now.answers.now.chosen queries c.places-reads.result.reads c.args.point x y c.args.kind.now here.reads are in
    let inside : c.places-reads.result.reads + 1 < length queries =
    slice_get_within queries (c.places-reads.result.reads + 1) (wanted_query c.args.self.now.answers.now.chosen Reach c.args.point y) second in
    omega (arith, inside, c.requires.found.answers.few)

pub has-unset-requires-in-Two-2-clause-queried : goal.has-unset-requires-in-Two-2-clause-queried
has-unset-requires-in-Two-2-clause-queried c =
    let here = c.requires.found.answers.queried c.args.point c.places-reads.result c.args.kind.now c.places-reads.ensures c.requires.kind in
    let x : ℕ = c.in-Two.left in
    let y : ℕ = c.in-Two.right in
    let are : AreRead c.args.kind.now (x ∷ y ∷ []) = record { rising = c.in-Two.ensures.rising; read = c.in-Two.ensures.read } in
    second_read c.args.self.now.answers.now.chosen c.args.self.now.answers.now.replies.queries c.places-reads.result.reads c.args.point x y c.args.kind.now here.reads are

pub returns-in-None : goal.returns-in-None
returns-in-None c =
    let program : Program = c.args.self.now.graph.now in
    let are : AreRead c.args.kind.now [] = record { rising = c.in-None.ensures.rising; read = c.in-None.ensures.read } in
    let none : unset_at program (knowledge_of c.args.self.now) c.args.point ≡ [] =
    unset_are program (knowledge_of c.args.self.now) c.args.point c.args.kind.now [] c.requires.found.sound c.requires.point c.requires.kind are in
    sym (ap (λ (xs : List ℕ). c.args.remarks.now.items ++ placed_at c.args.point (map (λ v. Unset v) xs)) none ∙ append-nil c.args.remarks.now.items)

pub returns-in-One : goal.returns-in-One
returns-in-One c =
    let program : Program = c.args.self.now.graph.now in
    let known : Knowledge = knowledge_of c.args.self.now in
    let point : ℕ = c.args.point in
    let x : ℕ = c.in-One.variable in
    let are : AreRead c.args.kind.now (x ∷ []) = record { rising = c.in-One.ensures.rising; read = c.in-One.ensures.read } in
    let said = ap (map (λ v. Unset v)) (unset_are program known point c.args.kind.now (x ∷ []) c.requires.found.sound c.requires.point c.requires.kind are)
    ∙ one_said (known.reach.contains point) x c.has-unset.result c.has-unset.ensures in
    on_ok_weaker c.put_if.result (λ put. put ∙ ap (λ (rs : List Remark). c.args.remarks.now.items ++ placed_at point rs) (sym said)) c.put_if.ensures

pub returns-in_ok-put_if-in-Two : goal.returns-in_ok-put_if-in-Two
returns-in_ok-put_if-in-Two c =
    let program : Program = c.args.self.now.graph.now in
    let known : Knowledge = knowledge_of c.args.self.now in
    let point : ℕ = c.args.point in
    let test : ℕ → Bool = known.reach.contains point in
    let x : ℕ = c.in-Two.left in
    let y : ℕ = c.in-Two.right in
    let are : AreRead c.args.kind.now (x ∷ y ∷ []) = record { rising = c.in-Two.ensures.rising; read = c.in-Two.ensures.read } in
    let first = one_said test x c.has-unset-in-Two.result c.has-unset-in-Two.ensures in
    let second = one_said test y c.has-unset-in-Two-2.result c.has-unset-in-Two-2.ensures in
    let said : map (λ v. Unset v) (unset_at program known point)
    ≡ map (λ v. Unset v) (filter test (x ∷ [])) ++ map (λ v. Unset v) (filter test (y ∷ [])) =
    ap (map (λ v. Unset v)) (unset_are program known point c.args.kind.now (x ∷ y ∷ []) c.requires.found.sound c.requires.point c.requires.kind are
    ∙ filter-append test (x ∷ []) (y ∷ []))
    ∙ map-append (λ v. Unset v) (filter test (x ∷ [])) (filter test (y ∷ [])) in
    on_ok_weaker c.put_if-in-Two-2.result
    (λ put.
    then_placed point c.args.remarks.now.items c.put_if-in-Two.new.remarks.items c.put_if-in-Two-2.new.remarks.items
    (map (λ v. Unset v) (filter test (x ∷ []))) (map (λ v. Unset v) (filter test (y ∷ [])))
    (c.in_ok-put_if-in-Two.ensures ∙ ap (λ (rs : List Remark). c.args.remarks.now.items ++ placed_at point rs) (sym first))
    (put ∙ ap (λ (rs : List Remark). c.put_if-in-Two.new.remarks.items ++ placed_at point rs) (sym second))
    ∙ ap (λ (rs : List Remark). c.args.remarks.now.items ++ placed_at point rs) (sym said))
    c.put_if-in-Two-2.ensures
