-- A run is extended to a backward valid path
use Rattle.std.proofs.Common.{◌≡◌, ℕ, Bool, true, false, not, ◌&&◌, List, [], ◌∷◌, ◌++◌, Option, Some, None, option_and_then, nat_eq}
use Rattle.std.proofs.Common.{if◌then◌else◌, IsSome, refl, sym, ap, ◌∙◌, arith}
use Rattle.std.proofs.Math.Bool.{or-true}
use Rattle.flow_graph.specs.Paths.{Edge, Step, Call, Ret, source_of, Shape, Transfer, IsEdge, final, IsPath, open_sites_after, value_across}
use Rattle.flow_graph.specs.Paths.{HasBackwardPath, IsBackwardValidPath, sites_before_edge, open_sites_before, value_before}
use Rattle.flow_graph.specs.Reversals.{reversed_path, reversed_shape}
use Rattle.flow_graph.specs.WellFormed.{IsWellFormed}
use Rattle.flow_graph.specs.Runs.{run_sites_after, IsRun, Accesses, is_unwritten_along, CallsReturn, IsLiveness}
use Rattle.flow_graph.specs.RunLaws.{ContinuationsAreRuns, FrontsOfRunsAreRuns, WhatFinishesIsNotDoubtful, RunsExtend, DeadIsSafe}
use Rattle.flow_graph.proofs.paths.PathLemmas.{IsPath-append, path_split, valid_front, open_sites_after-append, open_sites_after-none, some_sites}
use Rattle.flow_graph.proofs.paths.PathLemmas.{nat_eq_same, same_site}
use Rattle.flow_graph.proofs.paths.Reversal.{path_back, open_sites_after-reversed, reversed_path-twice, valid_reversed, reversed_is_well_formed}
use Rattle.flow_graph.proofs.paths.Splitting.{sites_kept, valid_split, OpenCalls}

run_sites_after-none : (path : List Edge) → run_sites_after path None ≡ None
run_sites_after-none [] = refl
run_sites_after-none (edge ∷ path) = run_sites_after-none path

same_run_site : (site latest : ℕ) (path : List Edge) (sites after : List ℕ)
    → run_sites_after path (if nat_eq site latest then Some sites else None) ≡ Some after
    → (site ≡ latest) × (run_sites_after path (Some sites) ≡ Some after)
same_run_site site latest path sites after = go (nat_eq site latest) refl
  where
    go : (same : Bool) → nat_eq site latest ≡ same → run_sites_after path (if same then Some sites else None) ≡ Some after
        → (site ≡ latest) × (run_sites_after path (Some sites) ≡ Some after)
    go true same opens = (grind arith, opens)
    go false same opens = absurd (cc (opens, run_sites_after-none path))

run_sites_after-append : (front back : List Edge) (sites : Option (List ℕ))
    → run_sites_after (front ++ back) sites ≡ run_sites_after back (run_sites_after front sites)
run_sites_after-append [] back sites = refl
run_sites_after-append (edge ∷ front) back sites = run_sites_after-append front back _

-- a path that is valid with some sites open is a run that knows of the latest of them alone
run_of_valid : (path : List Edge) (known below after : List ℕ) → open_sites_after path (Some (known ++ below)) ≡ Some after
    → IsSome (run_sites_after path (Some known))
run_of_valid [] known below after opens = refl
run_of_valid (Step x y ∷ path) known below after opens = run_of_valid path known below after opens
run_of_valid (Call site x y ∷ path) known below after opens = run_of_valid path (site ∷ known) below after opens
run_of_valid (Ret site x y ∷ path) [] [] after opens = absurd (cc (opens, open_sites_after-none path))
run_of_valid (Ret site x y ∷ path) [] (latest ∷ below) after opens = run_of_valid path [] below after (same_site site latest path below after opens).1
run_of_valid (Ret site x y ∷ path) (latest ∷ known) below after opens =
    let (same, rest) = same_site site latest path (known ++ below) after opens in
    rw (same, nat_eq_same latest) (run_of_valid path known below after rest)

pub continuations_are_runs : ContinuationsAreRuns
continuations_are_runs shape front back middle finish valid first second =
    let (below, opens) = some_sites _ (valid_front shape front back middle first valid.1).1 in
    let (after, all) = some_sites _ valid.1 in
    (second, run_of_valid back [] below after (ap (open_sites_after back) (sym opens) ∙ (sym (open_sites_after-append front back (Some [])) ∙ all)))

pub fronts_of_runs_are_runs : FrontsOfRunsAreRuns
fronts_of_runs_are_runs shape front back start finish is_run =
    let (middle, first, second) = path_split shape front back start finish is_run.0 in
    (middle, (first, go (run_sites_after front (Some [])) (rw (run_sites_after-append front back (Some [])) at is_run.1)))
  where
    go : (sites : Option (List ℕ)) → IsSome (run_sites_after back sites) → IsSome sites
    go None some = rw (run_sites_after-none back) at some
    go (Some sites) some = refl

pub what_finishes_is_not_doubtful : WhatFinishesIsNotDoubtful
what_finishes_is_not_doubtful shape point can doubtful =
    let (path, ahead, is_path, none) = doubtful in
    none (can path ahead is_path)

open_sites_before-append : (front back : List Edge) (sites : Option (List ℕ))
    → open_sites_before (front ++ back) sites ≡ open_sites_before front (open_sites_before back sites)
open_sites_before-append [] back sites = refl
open_sites_before-append (edge ∷ front) back sites = ap (option_and_then (sites_before_edge edge)) (open_sites_before-append front back sites)

value_before-append : (transfer : Transfer) (front back : List Edge) (value : Bool)
    → value_before transfer (front ++ back) value ≡ value_before transfer front (value_before transfer back value)
value_before-append transfer [] back value = refl
value_before-append transfer (edge ∷ front) back value = ap (value_across transfer edge) (value_before-append transfer front back value)

-- the sites that a run leaves open are those that the rest has to return to
run_before : (path : List Edge) (sites after pending : List ℕ) → run_sites_after path (Some sites) ≡ Some after
    → (more : List ℕ) × (open_sites_before path (Some (after ++ pending)) ≡ Some (sites ++ more))
run_before [] sites after pending opens =
    let same : sites ≡ after = cc in
    (pending, rw same)
run_before (Step x y ∷ path) sites after pending opens =
    let (more, before) = run_before path sites after pending opens in
    (more, rw before)
run_before (Call site x y ∷ path) sites after pending opens =
    let (more, before) = run_before path (site ∷ sites) after pending opens in
    (more, rw (before, nat_eq_same site))
run_before (Ret site x y ∷ path) [] after pending opens =
    let (more, before) = run_before path [] after pending opens in
    (site ∷ more, rw before)
run_before (Ret site x y ∷ path) (latest ∷ sites) after pending opens =
    let (same, along) = same_run_site site latest path sites after opens in
    let (more, before) = run_before path sites after pending along in
    (more, rw before (ap (λ (n : ℕ). Some (n ∷ (sites ++ more))) same))

-- a path to the exit of the point's procedure that leaves the sites behind it as they are
record Finish (shape : Shape) (x : ℕ) : Type 0 where
  path : List Edge
  to_exit : IsPath shape x path (shape.exit (shape.procedure_of x))
  sites : (behind : List ℕ) → open_sites_before path (Some behind) ≡ Some behind

-- a point with a backward valid path has a matched path to its procedure's exit
finish : (shape : Shape) → IsWellFormed shape → (x : ℕ) → HasBackwardPath shape x → Finish shape x
finish shape well x has =
    let valid = valid_reversed shape has.0 x has.1 in
    let (front, back, same, entering, from_entry) =
    valid_split (reversed_shape shape) (reversed_path has.0) x (reversed_is_well_formed shape well) valid in
    record {
      path = reversed_path back;
      to_exit = path_back shape back _ x from_entry.0;
      sites = λ behind. sym (open_sites_after-reversed (reversed_path back) (Some behind))
          ∙ (rw (reversed_path-twice back) (sites_kept back from_entry.1 behind));
    }

-- the calls that a run has open, whatever procedure it began in
abbrev RunCalls : Shape → ℕ → List ℕ → Type 0
RunCalls shape procedure sites = OpenCalls (λ q. Unit {0}) shape procedure sites

-- each point ahead of x has a backward valid path, as far as a conclusion R goes: with R empty it is only not denied
abbrev CanFinishFor : Type 0 → Shape → ℕ → Type 0
CanFinishFor R shape x = (path : List Edge) (ahead : ℕ) → IsPath shape x path ahead → (HasBackwardPath shape ahead → R) → R

can_finish_after : (R : Type 0) (shape : Shape) (path : List Edge) (x y : ℕ) → IsPath shape x path y → CanFinishFor R shape x → CanFinishFor R shape y
can_finish_after R shape path x y is_path can next ahead is_next = can (path ++ next) ahead (IsPath-append shape path next x y ahead is_path is_next)

module _ (shape : Shape) (well : IsWellFormed shape) (returns : CallsReturn shape) where
  calls_run : (path : List Edge) (x y : ℕ) (sites after : List ℕ) → IsPath shape x path y → run_sites_after path (Some sites) ≡ Some after
      → RunCalls shape (shape.procedure_of x) sites → RunCalls shape (shape.procedure_of y) after
  calls_run [] x y sites after is_path opens calls =
      let same : sites ≡ after = cc in
      rw (← is_path, ← same) calls
  calls_run (Step i j ∷ path) x y sites after is_path opens calls =
      calls_run path j y sites after is_path.2 opens (rw (← well.step_inside i j is_path.0, is_path.1) calls)
  calls_run (Call site i j ∷ path) x y sites after is_path opens calls =
      calls_run path j y (site ∷ sites) after is_path.2 opens (i, j, is_path.0, refl, rw is_path.1 calls)
  calls_run (Ret site i j ∷ path) x y [] after is_path opens calls = calls_run path j y [] after is_path.2 opens tt
  calls_run (Ret site i j ∷ path) x y (latest ∷ sites) after is_path opens calls =
      let (same, rest) = same_run_site site latest path sites after opens in
      let (u, v, call, callee, outer) = calls in
      calls_run path j y sites after is_path.2 rest (rw (← well.site_inside site u v i j (rw same call) is_path.0) outer)

  -- a path to the end that returns to these open sites first
  Rest : ℕ → List ℕ → Type 0
  Rest x sites =
      (path : List Edge) × IsPath shape x path (final shape) × (pending : List ℕ) × (open_sites_before path (Some []) ≡ Some (sites ++ pending))

  -- each open call is finished inside its callee, then the path leaves as the last point's own path does
  rest : (R : Type 0) (sites : List ℕ) (x : ℕ) → CanFinishFor R shape x → RunCalls shape (shape.procedure_of x) sites → (Rest x sites → R) → R
  unfolding Rest
  rest R [] x can calls done = can [] x refl (λ has. let (pending, before) = some_sites _ has.1.1 in done (has.0, has.1.0, pending, before))
  rest R (site ∷ sites) x can calls done = can [] x refl (λ has. go (λ z can_z calls_z. rest R sites z can_z calls_z) (finish shape well x has))
    where
      go : ((z : ℕ) → CanFinishFor R shape z → RunCalls shape (shape.procedure_of z) sites → (Rest z sites → R) → R) → Finish shape x → R
      go ih f =
          let (u, v, call, callee, outer) = calls in
          let back = returns site u v call in
          let z = back.0 in
          let return : IsEdge shape (Ret site (shape.exit (shape.procedure_of x)) z) = rw (← callee) back.1 in
          let along = λ (path : List Edge) (y : ℕ) (is_path : IsPath shape z path y).
          IsPath-append shape f.path (Ret site (shape.exit (shape.procedure_of x)) z ∷ path) x _ y f.to_exit (return, refl, is_path) in
          ih z
          (can_finish_after R shape (f.path ++ Ret site (shape.exit (shape.procedure_of x)) z ∷ []) x z (along [] z refl) can)
          (rw (← well.site_inside site u v _ z call return) outer)
          (λ r. done (
            f.path ++ Ret site (shape.exit (shape.procedure_of x)) z ∷ r.0,
            along r.0 _ r.1,
            r.2,
            open_sites_before-append f.path _ (Some []) ∙ rw r.3 (f.sites (site ∷ (sites ++ r.2))),
          ))

  -- the rest of a run, which with the run is a backward valid path
  extend : (R : Type 0) (run : List Edge) (start finish : ℕ) → CanFinishFor R shape start → IsRun shape start run finish
      → ((rest : List Edge) → IsPath shape finish rest (final shape) → IsBackwardValidPath shape (run ++ rest) start → R) → R
  unfolding Rest
  extend R run start finish can is_run done =
      let (sites, opens) = some_sites _ is_run.1 in
      rest R sites finish (can_finish_after R shape run start finish is_run.0 can) (calls_run run start finish [] sites is_run.0 opens tt) (λ r.
      let back = run_before run [] sites r.2 opens in
      done r.0 r.1 (IsPath-append shape run r.0 start finish _ is_run.0 r.1, rw (open_sites_before-append run r.0 (Some []), r.3, back.1) refl))

pub not_and_parts : (a b : Bool) → (not a && b) ≡ true → (a ≡ false) × (b ≡ true)
not_and_parts false b p = (refl, p)
not_and_parts true b p = absurd (cc p)

pub runs_extend : RunsExtend
runs_extend shape start finish run well returns can is_run =
    extend shape well returns ((rest : List Edge) × IsBackwardValidPath shape (run ++ rest) start) run start finish
    (λ path ahead is_path done. done (can path ahead is_path)) is_run (λ rest to_end valid. (rest, valid))

module _ (shape : Shape) (transfer : Transfer) (accesses : Accesses) (live : IsLiveness shape transfer accesses) where
  -- what is live behind steps that do not write it is live before them
  unwritten_live : (path : List Edge) (x y : ℕ) → IsPath shape x path y → is_unwritten_along accesses path ≡ true
      → value_before transfer path true ≡ true
  unwritten_live [] x y is_path unwritten = refl
  unwritten_live (Step i j ∷ path) x y is_path unwritten =
      let (here, ahead) = not_and_parts (accesses.writes i) (is_unwritten_along accesses path) unwritten in
      rw (unwritten_live path j y is_path.2 ahead, live.kill_writes i j is_path.0, here) (or-true (transfer.gen i j))
  unwritten_live (Call site i j ∷ path) x y is_path unwritten =
      unwritten_live path j y is_path.2 (not_and_parts (accesses.writes i) (is_unwritten_along accesses path) unwritten).1
  unwritten_live (Ret site i j ∷ path) x y is_path unwritten =
      unwritten_live path j y is_path.2 (not_and_parts (accesses.writes i) (is_unwritten_along accesses path) unwritten).1

  -- a path that begins where the variable is read makes it live there
  live_at : (path : List Edge) (x : ℕ) → accesses.reads x ≡ true → IsPath shape x path (final shape)
      → value_before transfer path transfer.boundary ≡ true
  live_at [] x reads is_path = absurd (cc (ap accesses.reads is_path, live.final_reads_nothing))
  live_at (edge ∷ path) x reads is_path =
      let (i, j, same) = live.reader_steps edge is_path.0 (rw is_path.1 reads) in
      let from_x : i ≡ x = sym (ap source_of same) ∙ is_path.1 in
      let gens : transfer.gen i j ≡ true = live.gen_reads i j (rw same at is_path.0) ∙ (ap accesses.reads from_x ∙ reads) in
      rw (same, gens)

pub dead_is_safe : DeadIsSafe
dead_is_safe shape transfer accesses point well returns live undoubted dead reader =
    let (run, finish, is_run, unwritten, reads) = reader in
    extend shape well returns ⊥ run point finish
    (λ path ahead is_path done. undoubted (path, ahead, is_path, done)) is_run (λ rest to_end valid.
    dead (
      run ++ rest,
      valid,
      value_before-append transfer run rest transfer.boundary ∙ rw (live_at shape transfer accesses live rest finish reads to_end)
          (unwritten_live shape transfer accesses live run point finish is_run.0 unwritten),
    ))
