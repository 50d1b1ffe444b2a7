-- The use that a text names, and its path
use Rattle.std.proofs.Common.{◌≡◌, ◌∙◌, ℕ, zero, suc, ◌+◌, ◌-◌, ◌<◌, ◌≤◌, Bool, List, [], ◌∷◌, ◌++◌, Option, Some, None, flat_map, length}
use Rattle.std.proofs.Common.{refl, sym, ap, ap₂, subst, arith, drop, get_or, true, false, if◌then◌else◌}
use Rattle.std.proofs.Math.Seq.{drop-cons}
use Rattle.std.specs.Prelude.{All}
use Rattle.std.specs.List.{filter, range_with_len}
use Rattle.std.proofs.lemmas.List.Concat.{flat_map-cons}
use Rattle.std.proofs.lemmas.List.Elements.{All-filter, All-head}
use Rattle.flow_graph.specs.Analyses.{shape_of, transfer_of}
use Rattle.flow_graph.specs.Points.{point_count}
use Rattle.flow_graph.specs.declared.analysis.Analysis.TheVariants.{Reach}
use Rattle.flow_reports.specs.Uses.{unset_uses, unset_uses_at}
use Rattle.flow_reports.specs.code.Findings.{knowledge_of}
use Rattle.flow_reports.specs.declared.unset.UnsetUse.{UnsetUse}
use Rattle.flow_views.specs.Views.{end_shown, first_shown}
use Rattle.flow_views.specs.code.ViewProgram.{AreShown}
use Rattle.flow_views.specs.declared.view_program.ViewProgram.{ViewProgram}
use Rattle.flow_views.proofs.facts.Known.{all_of, all_of_is}
use Rattle.flow_why.specs.Witnesses.{IsWitness}
use Rattle.tac_program.specs.Programs.{Program}
use Rattle.flow_paths.specs.Pictures.{asked_use, first_use, is_named}
use Rattle.flow_paths.specs.code.UnsetPaths.{ArePathsOf, PathTable, hops_at}
use Rattle.flow_paths.proofs.lists.Placed.{witness_found}
use Rattle.flow_paths.proofs.lists.Reaching.{same_uses}
use Rattle.flow_paths.proofs.lists.Shown.{inside}

-- two that give the same lists for the numbers of a range
same_range : {A : Type 0} (f g : ℕ → List A) (a n : ℕ) → ((k : ℕ) → a ≤ k → k < a + n → f k ≡ g k)
    → flat_map f (range_with_len a n) ≡ flat_map g (range_with_len a n)
same_range f g a zero each = refl
same_range f g a (suc n) each =
    flat_map-cons f a (range_with_len (a + 1) n)
    ∙ ap₂ (λ xs ys. xs ++ ys) (each a (omega arith) (omega arith))
    (same_range f g (a + 1) n (λ k from to. each k (omega (arith, from)) (omega (arith, to))))
    ∙ sym (flat_map-cons g a (range_with_len (a + 1) n))

-- the first of some uses is one of them
pub first_holds : (P : UnsetUse → Type 0) (uses : List UnsetUse) (one : UnsetUse) → first_use uses ≡ Some one → All P uses → P one
first_holds P [] one is all = absurd (cc is)
first_holds P (first ∷ others) one is all = subst P (cc is) (All-head P first others all)

pub named_holds : (P : UnsetUse → Type 0) (test : UnsetUse → Bool) (uses : List UnsetUse) (one : UnsetUse)
    → first_use (filter test uses) ≡ Some one → All P uses → P one
named_holds P test uses one is all = first_holds P (filter test uses) one is (All-filter test P uses all)

-- where no use is found there is none
pub none_found : (found : Option UnsetUse) → ((one : UnsetUse) → found ≡ Some one → ⊥) → found ≡ None
none_found None lacks = refl
none_found (Some one) lacks = absurd (lacks one refl)

-- a use that passes no test is passed over, and one that does is the first
skipped : (test : UnsetUse → Bool) (one : UnsetUse) (uses : List UnsetUse) → test one ≡ false → filter test (one ∷ uses) ≡ filter test uses
skipped test one uses fails = ap (λ (b : Bool). if b then one ∷ filter test uses else filter test uses) fails

pub passed_over : (test : UnsetUse → Bool) (uses : List UnsetUse) (i : ℕ) (d : UnsetUse) → i < length uses → test (get_or uses i d) ≡ false
    → filter test (drop i uses) ≡ filter test (drop (i + 1) uses)
passed_over test uses i d below fails =
    let more : suc i ≡ i + 1 = omega arith in
    ap (filter test) (drop-cons uses i d below) ∙ skipped test (get_or uses i d) (drop (suc i) uses) fails
    ∙ ap (λ (n : ℕ). filter test (drop n uses)) more

pub is_first : (test : UnsetUse → Bool) (uses : List UnsetUse) (i : ℕ) (d : UnsetUse) → i < length uses → test (get_or uses i d) ≡ true
    → first_use (filter test (drop i uses)) ≡ Some (get_or uses i d)
is_first test uses i d below passes =
    ap (λ us. first_use (filter test us)) (drop-cons uses i d below)
    ∙ ap (λ (b : Bool). first_use (if b then get_or uses i d ∷ filter test (drop (suc i) uses) else filter test (drop (suc i) uses))) passes

-- the path of one use is a witness
pub one_witness : (program : Program) (one : UnsetUse) (table : PathTable) → one.point < point_count program → ArePathsOf program (one ∷ []) table
    → IsWitness (shape_of program) (transfer_of program Reach one.variable) one.point (hops_at table one.point one.variable)
one_witness program one table below are =
    witness_found program (one ∷ []) table are one.point one.variable below (0, omega arith, refl)

-- What a text names among the uses that were found it names among those of all that is known.
pub asked_is : (shown : ViewProgram) (are : AreShown shown) (uses : List UnsetUse)
    → uses ≡ unset_uses shown.found.graph.now (knowledge_of shown.found) (first_shown shown.found.graph.now shown.view.procedure)
    (end_shown shown.found.graph.now shown.view.procedure - first_shown shown.found.graph.now shown.view.procedure)
    → (text : List ℕ) → first_use (filter (is_named shown.found.graph.now text) uses)
    ≡ asked_use shown.found.graph.now (all_of shown are) shown.view text
asked_is shown are uses told text =
    let program : Program = shown.found.graph.now in
    let first : ℕ = first_shown program shown.view.procedure in
    let count : ℕ = end_shown program shown.view.procedure - first in
    let bounds = inside program shown.view.procedure are.procedure in
    ap (λ us. first_use (filter (is_named program text) us))
    (told ∙ same_range (unset_uses_at program (knowledge_of shown.found)) (unset_uses_at program (all_of shown are)) first count
    (λ point low high. same_uses shown.found are.found are.doubts (all_of shown are) (all_of_is shown are) point (omega (arith, high, bounds.0, bounds.1))))
