use Rattle.std.proofs.Common.{◌≡◌, ◌∙◌, ℕ, ◌+◌, ◌<◌, [], ◌∷◌, ◌++◌, List, Bool, if◌then◌else◌, append-nil, append_assoc, length, sym, ap, arith}
use Rattle.std.proofs.lemmas.List.{map-append}
use Rattle.std.proofs.lemmas.List.Elements.{filter-append}
use Rattle.std.proofs.lemmas.Option.{slice_get_within}
use Rattle.std.proofs.lemmas.Result.{on_ok_weaker}
use Rattle.std.specs.List.{filter}
use Rattle.flow_graph.specs.declared.analysis.Analysis.TheVariants.{Reach}
use Rattle.tac_program.specs.Programs.{Program}
use Rattle.flow_reports.specs.Reports.{Knowledge, unset_at}
use Rattle.flow_reports.specs.Uses.{uses_of}
use Rattle.report_answers.specs.code.Chosen.{wanted_query}
use Rattle.flow_reports.specs.code.Findings.{knowledge_of}
use Rattle.report_answers.specs.code.Operands.{AreRead}
use Rattle.flow_reports.specs.declared.unset.UnsetUse.{UnsetUse}
use Rattle.flow_reports.proofs.knowledge.RemarkLines.{unset_are}
use Rattle.report_answers.proofs.queries.Querying.{first_read, second_read}
use Rattle.flow_reports.proofs.findings.Findings.put_uses.Goals as goal

-- the uses of one variable
one_used : (point : ℕ) (test : ℕ → Bool) (x : ℕ) (has : Bool) → has ≡ test x
    → uses_of point (filter test (x ∷ [])) ≡ uses_of point (if has then x ∷ [] else [])
one_used point test x has is = ap (λ (b : Bool). uses_of point (if b then x ∷ [] else [])) (sym is)

-- uses behind uses
then_used : (point : ℕ) (old one two : List UnsetUse) (a b : List ℕ) → one ≡ old ++ uses_of point a → two ≡ one ++ uses_of point b
    → two ≡ old ++ uses_of point (a ++ b)
then_used point old one two a b first second =
    second
    ∙ ap (λ t. t ++ uses_of point b) first
    ∙ append_assoc old (uses_of point a) (uses_of point b)
    ∙ ap (λ t. old ++ t) (sym (map-append _ a b))

pub has-unset-requires-clause-queried : goal.has-unset-requires-clause-queried
has-unset-requires-clause-queried c =
    let here = c.requires.found.answers.queried c.args.point c.places-reads.result c.args.kind.now c.places-reads.ensures c.requires.kind in
    let x : ℕ = c.in-One.variable in
    let are : AreRead c.args.kind.now (x ∷ []) = record { rising = c.in-One.ensures.rising; read = c.in-One.ensures.read } in
    first_read c.args.self.now.answers.now.chosen c.args.self.now.answers.now.replies.queries c.places-reads.result.reads c.args.point x c.args.kind.now [] here.reads are

pub has-unset-requires-in-Two-clause-queried : goal.has-unset-requires-in-Two-clause-queried
has-unset-requires-in-Two-clause-queried c =
    let here = c.requires.found.answers.queried c.args.point c.places-reads.result c.args.kind.now c.places-reads.ensures c.requires.kind in
    let x : ℕ = c.in-Two.left in
    let y : ℕ = c.in-Two.right in
    let are : AreRead c.args.kind.now (x ∷ y ∷ []) = record { rising = c.in-Two.ensures.rising; read = c.in-Two.ensures.read } in
    first_read c.args.self.now.answers.now.chosen c.args.self.now.answers.now.replies.queries c.places-reads.result.reads c.args.point x c.args.kind.now (y ∷ []) here.reads are

pub overflow_add-reads : goal.overflow_add-reads
overflow_add-reads c =
    let here = c.requires.found.answers.queried c.args.point c.places-reads.result c.args.kind.now c.places-reads.ensures c.requires.kind in
    let x : ℕ = c.in-Two.left in
    let y : ℕ = c.in-Two.right in
    let are : AreRead c.args.kind.now (x ∷ y ∷ []) = record { rising = c.in-Two.ensures.rising; read = c.in-Two.ensures.read } in
    let queries = c.args.self.now.answers.now.replies.queries in
    let second = second_read c.args.self.now.answers.now.chosen queries c.places-reads.result.reads c.args.point x y c.args.kind.now here.reads are in
    let inside : c.places-reads.result.reads + 1 < length queries =
    slice_get_within queries (c.places-reads.result.reads + 1) (wanted_query c.args.self.now.answers.now.chosen Reach c.args.point y) second in
    omega (arith, inside, c.requires.found.answers.few)

pub has-unset-requires-in-Two-2-clause-queried : goal.has-unset-requires-in-Two-2-clause-queried
has-unset-requires-in-Two-2-clause-queried c =
    let here = c.requires.found.answers.queried c.args.point c.places-reads.result c.args.kind.now c.places-reads.ensures c.requires.kind in
    let x : ℕ = c.in-Two.left in
    let y : ℕ = c.in-Two.right in
    let are : AreRead c.args.kind.now (x ∷ y ∷ []) = record { rising = c.in-Two.ensures.rising; read = c.in-Two.ensures.read } in
    second_read c.args.self.now.answers.now.chosen c.args.self.now.answers.now.replies.queries c.places-reads.result.reads c.args.point x y c.args.kind.now here.reads are

pub returns-in-None-clause-put : goal.returns-in-None-clause-put
returns-in-None-clause-put c =
    let program : Program = c.args.self.now.graph.now in
    let are : AreRead c.args.kind.now [] = record { rising = c.in-None.ensures.rising; read = c.in-None.ensures.read } in
    let none : unset_at program (knowledge_of c.args.self.now) c.args.point ≡ [] =
    unset_are program (knowledge_of c.args.self.now) c.args.point c.args.kind.now [] c.requires.found.sound c.requires.point c.requires.kind are in
    sym (ap (λ (xs : List ℕ). c.args.uses.now.items ++ uses_of c.args.point xs) none ∙ append-nil c.args.uses.now.items)

pub returns-in-One-clause-put : goal.returns-in-One-clause-put
returns-in-One-clause-put c =
    let program : Program = c.args.self.now.graph.now in
    let known : Knowledge = knowledge_of c.args.self.now in
    let point : ℕ = c.args.point in
    let x : ℕ = c.in-One.variable in
    let are : AreRead c.args.kind.now (x ∷ []) = record { rising = c.in-One.ensures.rising; read = c.in-One.ensures.read } in
    let used = ap (uses_of point) (unset_are program known point c.args.kind.now (x ∷ []) c.requires.found.sound c.requires.point c.requires.kind are)
    ∙ one_used point (known.reach.contains point) x c.has-unset.result c.has-unset.ensures in
    on_ok_weaker c.put_use_if.result (λ put. put ∙ ap (λ (us : List UnsetUse). c.args.uses.now.items ++ us) (sym used)) c.put_use_if.ensures.put

pub returns-in_ok-put_use_if-in-Two-clause-put : goal.returns-in_ok-put_use_if-in-Two-clause-put
returns-in_ok-put_use_if-in-Two-clause-put c =
    let program : Program = c.args.self.now.graph.now in
    let known : Knowledge = knowledge_of c.args.self.now in
    let point : ℕ = c.args.point in
    let test : ℕ → Bool = known.reach.contains point in
    let x : ℕ = c.in-Two.left in
    let y : ℕ = c.in-Two.right in
    let are : AreRead c.args.kind.now (x ∷ y ∷ []) = record { rising = c.in-Two.ensures.rising; read = c.in-Two.ensures.read } in
    let first = one_used point test x c.has-unset-in-Two.result c.has-unset-in-Two.ensures in
    let second = one_used point test y c.has-unset-in-Two-2.result c.has-unset-in-Two-2.ensures in
    let used : uses_of point (unset_at program known point) ≡ uses_of point (filter test (x ∷ []) ++ filter test (y ∷ [])) =
    ap (uses_of point) (unset_are program known point c.args.kind.now (x ∷ y ∷ []) c.requires.found.sound c.requires.point c.requires.kind are
    ∙ filter-append test (x ∷ []) (y ∷ [])) in
    on_ok_weaker c.put_use_if-in-Two-2.result
    (λ put.
    then_used point c.args.uses.now.items c.put_use_if-in-Two.new.uses.items c.put_use_if-in-Two-2.new.uses.items
    (filter test (x ∷ [])) (filter test (y ∷ []))
    (c.in_ok-put_use_if-in-Two.ensures.put ∙ ap (λ (us : List UnsetUse). c.args.uses.now.items ++ us) (sym first))
    (put ∙ ap (λ (us : List UnsetUse). c.put_use_if-in-Two.new.uses.items ++ us) (sym second))
    ∙ ap (λ (us : List UnsetUse). c.args.uses.now.items ++ us) (sym used))
    c.put_use_if-in-Two-2.ensures.put
