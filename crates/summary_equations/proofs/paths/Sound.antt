-- Whatever the clauses derive has a path
use Rattle.std.proofs.Common.{◌≡◌, ℕ, Bool, true, false, not, ◌&&◌, ◌||◌, List, [], ◌∷◌, ◌++◌, refl, ◌∙◌, arith, inl, inr, ◌⊎◌}
use Rattle.std.proofs.Math.Bool.{or-true}
use Rattle.flow_graph.specs.declared.edge.Edge.{Edge}
use Rattle.flow_graph.specs.declared.edge.Edge.TheVariants.{Step, Call, Ret}
use Rattle.flow_graph.specs.Paths.{Shape, Transfer, value_across, value_after, HasPath, SomePathHas}
use Rattle.flow_graph.specs.WellFormed.{IsWellFormed}
use Rattle.flow_graph.specs.MatchedPaths.{IsPathFromEntry, IsEnteringPath, is_preserved_along}
use Rattle.flow_graph.proofs.paths.PathLemmas.{value_after-append}
use Rattle.flow_graph.proofs.paths.Splitting.{at_entry, steps_join, callee_paths_join, calls_enter, valid_join}
use Rattle.flow_graph.proofs.paths.RunLemmas.{not_and_parts}
use Rattle.summary_equations.specs.Equations.{Reached, entry_is_reached, reached_by_step, reached_by_call, Preserved, preserved_at_entry, preserved_by_step}
use Rattle.summary_equations.specs.Equations.{preserved_by_call}
use Rattle.summary_equations.specs.Equations.{Generated, generated_by_step, generated_before_step, generated_by_callee, generated_before_call, Entered, root_is_entered}
use Rattle.summary_equations.specs.Equations.{entered_by_call, Brought, brought_by_boundary, brought_where_generated, brought_where_preserved, HasFlag}
use Rattle.summary_equations.specs.Equations.{IsInSolution}

pub reached_path : {shape : Shape} → IsWellFormed shape → {x : ℕ} → Reached shape x → (path : List Edge) × IsPathFromEntry shape path x
reached_path well (entry_is_reached p in_range) = ([], at_entry _ well p in_range)
reached_path well (reached_by_step x y edge at_x) =
    let (path, joined) = reached_path well at_x in
    (path ++ Step x y ∷ [], steps_join _ path x y well edge joined)
reached_path well (reached_by_call site x p z call return at_x at_exit) =
    let (path, joined) = reached_path well at_x in
    let (inner, through) = reached_path well at_exit in
    (path ++ Call site x _ ∷ (inner ++ Ret site _ z ∷ []), callee_paths_join _ path inner site x p z well call.0 call.1 return joined through)

is_preserved_along-append : (kill : ℕ → ℕ → Bool) (front back : List Edge) → is_preserved_along kill front ≡ true → is_preserved_along kill back ≡ true
    → is_preserved_along kill (front ++ back) ≡ true
is_preserved_along-append kill [] back first second = second
is_preserved_along-append kill (Step x y ∷ front) back first second = grind (arith, is_preserved_along-append kill front back)
is_preserved_along-append kill (Call site x y ∷ front) back first second = is_preserved_along-append kill front back first second
is_preserved_along-append kill (Ret site x y ∷ front) back first second = is_preserved_along-append kill front back first second

pub preserved_path : {shape : Shape} {kill : ℕ → ℕ → Bool} → IsWellFormed shape → {x : ℕ} → Preserved shape kill x
    → (path : List Edge) × IsPathFromEntry shape path x × (is_preserved_along kill path ≡ true)
preserved_path well (preserved_at_entry p in_range) = ([], at_entry _ well p in_range, refl)
preserved_path {kill} well (preserved_by_step x y edge at_x preserved unkilled) =
    let (path, joined, keeps) = preserved_path well preserved in
    (path ++ Step x y ∷ [], steps_join _ path x y well edge joined, is_preserved_along-append kill path _ keeps (rw unkilled))
preserved_path {kill} well (preserved_by_call site x p z call return at_x at_exit preserved through_preserved) =
    let (path, joined, keeps) = preserved_path well preserved in
    let (inner, through, inner_keeps) = preserved_path well through_preserved in (
      path ++ Call site x _ ∷ (inner ++ Ret site _ z ∷ []),
      callee_paths_join _ path inner site x p z well call.0 call.1 return joined through,
      is_preserved_along-append kill path _ keeps (is_preserved_along-append kill inner _ inner_keeps refl),
    )

value_across-mono : (transfer : Transfer) (edge : Edge) (v w : Bool) → (v ≡ true → w ≡ true) → value_across transfer edge v ≡ true
    → value_across transfer edge w ≡ true
value_across-mono transfer (Step x y) v w more = go (transfer.gen x y) (transfer.kill x y) v w more
  where
    go : (gen kill v w : Bool) → (v ≡ true → w ≡ true) → (gen || (v && not kill)) ≡ true → (gen || (w && not kill)) ≡ true
    go true kill v w more has = refl
    go false kill true w more has = rw (more refl) has
    go false kill false w more has = absurd (cc has)
value_across-mono transfer (Call site x y) v w more = more
value_across-mono transfer (Ret site x y) v w more = more

value_after-mono : (transfer : Transfer) (path : List Edge) (v w : Bool) → (v ≡ true → w ≡ true) → value_after transfer path v ≡ true
    → value_after transfer path w ≡ true
value_after-mono transfer [] v w more = more
value_after-mono transfer (edge ∷ path) v w more = value_after-mono transfer path _ _ (value_across-mono transfer edge v w more)

-- what a path makes it has whatever came to it
value_after-generated : (transfer : Transfer) (path : List Edge) (value : Bool) → value_after transfer path false ≡ true
    → value_after transfer path value ≡ true
value_after-generated transfer path value generated = value_after-mono transfer path false value (λ e. absurd (cc e)) generated

pub value_after-preserved : (transfer : Transfer) (path : List Edge) → is_preserved_along transfer.kill path ≡ true → value_after transfer path true ≡ true
value_after-preserved transfer [] keeps = refl
value_after-preserved transfer (Step x y ∷ path) keeps =
    let (here, ahead) = not_and_parts (transfer.kill x y) (is_preserved_along transfer.kill path) keeps in
    value_after-mono transfer path true _ (λ e. rw here (or-true (transfer.gen x y))) (value_after-preserved transfer path ahead)
value_after-preserved transfer (Call site x y ∷ path) keeps = value_after-preserved transfer path keeps
value_after-preserved transfer (Ret site x y ∷ path) keeps = value_after-preserved transfer path keeps

pub generated_path : {shape : Shape} {transfer : Transfer} → IsWellFormed shape → {x : ℕ} → Generated shape transfer x
    → (path : List Edge) × IsPathFromEntry shape path x × (value_after transfer path false ≡ true)
generated_path {transfer} well (generated_by_step x y edge at_x gens) =
    let (path, joined) = reached_path well at_x in
    (path ++ Step x y ∷ [], steps_join _ path x y well edge joined, value_after-append transfer path _ false ∙ rw gens)
generated_path {transfer} well (generated_before_step x y edge at_x generated unkilled) =
    let (path, joined, has) = generated_path well generated in (
      path ++ Step x y ∷ [],
      steps_join _ path x y well edge joined,
      value_after-append transfer path _ false ∙ rw (has, unkilled) (or-true (transfer.gen x y)),
    )
generated_path {transfer} well (generated_by_callee site x p z call return at_x at_exit generated) =
    let (path, joined) = reached_path well at_x in
    let (inner, through, has) = generated_path well generated in (
      path ++ Call site x _ ∷ (inner ++ Ret site _ z ∷ []),
      callee_paths_join _ path inner site x p z well call.0 call.1 return joined through,
      value_after-append transfer path _ false ∙ (value_after-append transfer inner _ _ ∙ value_after-generated transfer inner _ has),
    )
generated_path {transfer} well (generated_before_call site x p z call return at_x at_exit generated preserved) =
    let (path, joined, has) = generated_path well generated in
    let (inner, through, keeps) = preserved_path well preserved in (
      path ++ Call site x _ ∷ (inner ++ Ret site _ z ∷ []),
      callee_paths_join _ path inner site x p z well call.0 call.1 return joined through,
      value_after-append transfer path _ false ∙ (rw has (value_after-append transfer inner _ true ∙ value_after-preserved transfer inner keeps)),
    )

pub entered_path : {shape : Shape} → IsWellFormed shape → {procedure : ℕ} → Entered shape procedure
    → (path : List Edge) × IsEnteringPath shape path procedure
entered_path well root_is_entered = ([], ((refl, refl), inl (refl, refl)))
entered_path {shape} well (entered_by_call site x p call entered at_x) =
    let (front, entering) = entered_path well entered in
    let (path, joined) = reached_path well at_x in
    ((front ++ path) ++ Call site x _ ∷ [], calls_enter shape (front ++ path) site x p call.1 (valid_join shape front path x entering joined))

pub brought_path : {shape : Shape} {transfer : Transfer} → IsWellFormed shape → {procedure : ℕ} → Brought shape transfer procedure
    → (path : List Edge) × IsEnteringPath shape path procedure × (value_after transfer path transfer.boundary ≡ true)
brought_path well (brought_by_boundary has) = ([], ((refl, refl), inl (refl, refl)), has)
brought_path {shape} {transfer} well (brought_where_generated site x p call entered at_x generated) =
    let (front, entering) = entered_path well entered in
    let (path, joined, has) = generated_path well generated in (
      (front ++ path) ++ Call site x _ ∷ [],
      calls_enter shape (front ++ path) site x p call.1 (valid_join shape front path x entering joined),
      value_after-append transfer (front ++ path) _ _ ∙ (value_after-append transfer front path _ ∙ value_after-generated transfer path _ has),
    )
brought_path {shape} {transfer} well (brought_where_preserved site x p call entered at_x brought preserved) =
    let (front, entering, has) = brought_path well brought in
    let (path, joined, keeps) = preserved_path well preserved in (
      (front ++ path) ++ Call site x _ ∷ [],
      calls_enter shape (front ++ path) site x p call.1 (valid_join shape front path x entering joined),
      value_after-append transfer (front ++ path) _ _ ∙ (value_after-append transfer front path _ ∙ rw has (value_after-preserved transfer path keeps)),
    )

pub flag_path : {shape : Shape} → IsWellFormed shape → (x : ℕ) → HasFlag shape x → HasPath shape x
flag_path {shape} well x flag =
    let (front, entering) = entered_path well flag.0 in
    let (path, joined) = reached_path well flag.1 in
    (front ++ path, valid_join shape front path x entering joined)

pub set_path : {shape : Shape} {transfer : Transfer} → IsWellFormed shape → (x : ℕ) → IsInSolution shape transfer x → SomePathHas shape transfer x
set_path {shape} {transfer} well x member = go member.1
  where
    go : Generated shape transfer x ⊎ (Brought shape transfer (shape.procedure_of x) × Preserved shape transfer.kill x) → SomePathHas shape transfer x
    go (inl generated) =
        let (front, entering) = entered_path well member.0.0 in
        let (path, joined, has) = generated_path well generated in
        (front ++ path, valid_join shape front path x entering joined, value_after-append transfer front _ _ ∙ value_after-generated transfer path _ has)
    go (inr brought) =
        let (front, entering, has) = brought_path well brought.0 in
        let (path, joined, keeps) = preserved_path well brought.1 in (
          front ++ path,
          valid_join shape front path x entering joined,
          value_after-append transfer front _ _ ∙ rw has (value_after-preserved transfer path keeps),
        )
