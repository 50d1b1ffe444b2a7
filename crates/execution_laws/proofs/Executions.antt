-- An execution through a point that is not doubtful on executions is brought to its end
use Rattle.std.proofs.Common.{◌≡◌, ℕ, Bool, true, List, [], ◌∷◌, ◌++◌, Some, IsSome, ◌⊎◌, inl, inr}
use Rattle.std.proofs.Common.{refl, sym, ap, ◌∙◌, subst, append_assoc}
use Rattle.std.proofs.Math.Bool.{or-true}
use Rattle.flow_graph.specs.Analyses.{shape_of, transfer_of}
use Rattle.flow_graph.specs.Paths.{source_of, target_of, Shape, Transfer, root, final, IsEdge, IsPath, open_sites_after}
use Rattle.flow_graph.specs.declared.edge.Edge.{Edge}
use Rattle.flow_graph.specs.declared.edge.Edge.TheVariants.{Step, Call, Ret}
use Rattle.flow_graph.specs.Paths.{value_across, open_sites_before, value_before, HasPath, HasBackwardPath}
use Rattle.flow_graph.specs.Reversals.{reversed_path, reversed_shape}
use Rattle.flow_graph.specs.Runs.{Accesses, accesses_of, is_unwritten_along, CallsReturn, IsLiveness}
use Rattle.flow_graph.specs.declared.analysis.Analysis.TheVariants.{Live}
use Rattle.flow_graph.specs.WellFormed.{IsWellFormed}
use Rattle.flow_graph.proofs.graphs.GraphLaws.{graphs_are_well_formed, calls_of_programs_return, live_is_liveness}
use Rattle.flow_graph.proofs.paths.Finishing.{has_backward_decided}
use Rattle.flow_graph.proofs.paths.PathLemmas.{IsPath-append, path_split, open_sites_after-append, open_sites_after-none, some_sites, nat_eq_same}
use Rattle.flow_graph.proofs.paths.PathLemmas.{same_site, valid_front}
use Rattle.flow_graph.proofs.paths.Reversal.{path_back, open_sites_after-reversed, valid_reversed, reversed_is_well_formed}
use Rattle.flow_graph.proofs.paths.RunLemmas.{continuations_are_runs, not_and_parts}
use Rattle.flow_graph.proofs.paths.Splitting.{OpenCalls, sites_kept, valid_split}
use Rattle.execution_laws.specs.ExecutionLaws.{DoubtOnExecutionsIsDoubt, DoubtIsAtReachedPoints, ReachedEndlessIsDoubtful, ExecutionsAreReached}
use Rattle.execution_laws.specs.ExecutionLaws.{UndoubtedExecutionsFinish, ExecutionsExtend, DeadOnExecutionsIsSafe, ReadBehindIsRead}
use Rattle.execution_laws.specs.ExecutionLaws.{DeadVariablesAreSafeOnExecutions}
use Rattle.execution_laws.specs.Executions.{IsReachedAlong}

pub doubt_on_executions_is_doubt : DoubtOnExecutionsIsDoubt
doubt_on_executions_is_doubt shape point doubtful =
    let (path, ahead, is_path, reached, none) = doubtful in
    (path, ahead, is_path, none)

first_reached : (shape : Shape) (path : List Edge) (x : ℕ) → IsReachedAlong shape x path → HasPath shape x
first_reached shape [] x reached = reached
first_reached shape (edge ∷ path) x reached = reached.0

pub doubt_is_at_reached_points : DoubtIsAtReachedPoints
doubt_is_at_reached_points shape point doubtful =
    let (path, ahead, is_path, reached, none) = doubtful in
    first_reached shape path point reached

pub reached_endless_is_doubtful : ReachedEndlessIsDoubtful
reached_endless_is_doubtful shape point reached none = ([], point, refl, reached, none)

-- what follows a valid path on a longer one leads through reached points
reached_along : (shape : Shape) (path walked : List Edge) (x y : ℕ) → IsPath shape (root shape) walked x → IsPath shape x path y
    → IsSome (open_sites_after (walked ++ path) (Some [])) → IsReachedAlong shape x path
reached_along shape [] walked x y is_walked is_path opens = (walked, valid_front shape walked [] x is_walked opens)
reached_along shape (edge ∷ path) walked x y is_walked is_path opens = (
  (walked, valid_front shape walked (edge ∷ path) x is_walked opens),
  reached_along shape path (walked ++ edge ∷ []) (target_of edge) y
      (IsPath-append shape walked (edge ∷ []) (root shape) x (target_of edge) is_walked (is_path.0, is_path.1, refl)) is_path.2
      (subst (λ l. IsSome (open_sites_after l (Some []))) (sym (append_assoc walked (edge ∷ []) path)) opens),
)

pub executions_are_reached : ExecutionsAreReached
executions_are_reached shape before after point finish valid to_point is_path =
    reached_along shape after before point finish to_point is_path valid.1

reached-append : (shape : Shape) (front back : List Edge) (x y : ℕ) → IsPath shape x front y → IsReachedAlong shape x front
    → IsReachedAlong shape y back → IsReachedAlong shape x (front ++ back)
reached-append shape [] back x y is_path first second = subst (λ n. IsReachedAlong shape n back) (sym is_path) second
reached-append shape (edge ∷ front) back x y is_path first second =
    (first.0, reached-append shape front back (target_of edge) y is_path.2 first.1 second)

-- a path leads to one point
same_end : (shape : Shape) (path : List Edge) (x y z : ℕ) → IsPath shape x path y → IsPath shape x path z → y ≡ z
same_end shape [] x y z first second = sym first ∙ second
same_end shape (edge ∷ path) x y z first second = same_end shape path (target_of edge) y z first.2 second.2

-- what follows a point on a path
path_behind : (shape : Shape) (before after : List Edge) (x y z : ℕ) → IsPath shape x (before ++ after) z → IsPath shape x before y
    → IsPath shape y after z
path_behind shape before after x y z whole first =
    let (middle, to_middle, second) = path_split shape before after x z whole in
    subst (λ n. IsPath shape n after z) (same_end shape before x middle y to_middle first) second

pub read_behind_is_read : ReadBehindIsRead
read_behind_is_read shape accesses point reading =
    let (before, after, reader, valid, to_point, unwritten, reads) = reading in
    let is_after = path_behind shape before after (root shape) point reader valid.0 to_point in
    (after, reader, continuations_are_runs shape before after point reader valid to_point is_after, unwritten, reads)

pub undoubted_executions_finish : UndoubtedExecutionsFinish
undoubted_executions_finish shape point well undoubted path ahead is_path reached = go (has_backward_decided shape well ahead)
  where
    go : HasBackwardPath shape ahead ⊎ (¬ (HasBackwardPath shape ahead)) → HasBackwardPath shape ahead
    go (inl has) = has
    go (inr none) = absurd (undoubted (path, ahead, is_path, reached, none))

-- the sites that a path leaves open, read back, are those that it found
sites_back : (path : List Edge) (sites after : List ℕ) → open_sites_after path (Some sites) ≡ Some after
    → open_sites_before path (Some after) ≡ Some sites
sites_back [] sites after opens = sym opens
sites_back (Step x y ∷ path) sites after opens = rw (sites_back path sites after opens)
sites_back (Call site x y ∷ path) sites after opens = rw (sites_back path (site ∷ sites) after opens, nat_eq_same site)
sites_back (Ret site x y ∷ path) [] after opens = absurd (cc (opens, open_sites_after-none path))
sites_back (Ret site x y ∷ path) (latest ∷ sites) after opens =
    let (same, rest) = same_site site latest path sites after opens in
    rw (sites_back path sites after rest) (ap (λ (n : ℕ). Some (n ∷ sites)) same)

-- a path to the exit of the point's procedure that leaves the open sites as they are
record Finish (shape : Shape) (x : ℕ) : Type 0 where
  path : List Edge
  to_exit : IsPath shape x path (shape.exit (shape.procedure_of x))
  kept : (sites : List ℕ) → open_sites_after path (Some sites) ≡ Some sites

finish : (shape : Shape) → IsWellFormed shape → (x : ℕ) → HasBackwardPath shape x → Finish shape x
finish shape well x has =
    let valid = valid_reversed shape has.0 x has.1 in
    let (front, back, same, entering, from_entry) =
    valid_split (reversed_shape shape) (reversed_path has.0) x (reversed_is_well_formed shape well) valid in
    record {
      path = reversed_path back;
      to_exit = path_back shape back _ x from_entry.0;
      kept = λ sites. open_sites_after-reversed back (Some sites) ∙ sites_back back sites sites (sites_kept back from_entry.1 sites);
    }

-- the open calls of a path from the root
abbrev RootCalls : Shape → ℕ → List ℕ → Type 0
RootCalls shape procedure sites = OpenCalls (λ q. q ≡ shape.root_procedure) shape procedure sites

-- each point ahead through reached points can finish
abbrev ReachedFinish : Shape → ℕ → Type 0
ReachedFinish shape x = (path : List Edge) (ahead : ℕ) → IsPath shape x path ahead → IsReachedAlong shape x path → HasBackwardPath shape ahead

finish_after : (shape : Shape) (path : List Edge) (x y : ℕ) → IsPath shape x path y → IsReachedAlong shape x path → ReachedFinish shape x
    → ReachedFinish shape y
finish_after shape path x y is_path reached can next ahead is_next next_reached =
    can (path ++ next) ahead (IsPath-append shape path next x y ahead is_path is_next) (reached-append shape path next x y is_path reached next_reached)

-- the rest of an execution that stands at a point with these sites open
record Rest (shape : Shape) (x : ℕ) (sites : List ℕ) : Type 0 where
  path : List Edge
  to_end : IsPath shape x path (final shape)
  closes : open_sites_after path (Some sites) ≡ Some []

module _ (shape : Shape) (well : IsWellFormed shape) (returns : CallsReturn shape) where
  calls_path : (path : List Edge) (x y : ℕ) (sites after : List ℕ) → IsPath shape x path y → open_sites_after path (Some sites) ≡ Some after
      → RootCalls shape (shape.procedure_of x) sites → RootCalls shape (shape.procedure_of y) after
  calls_path [] x y sites after is_path opens calls =
      let same : sites ≡ after = cc in
      rw (← is_path, ← same) calls
  calls_path (Step i j ∷ path) x y sites after is_path opens calls =
      calls_path path j y sites after is_path.2 opens (rw (← well.step_inside i j is_path.0, is_path.1) calls)
  calls_path (Call site i j ∷ path) x y sites after is_path opens calls =
      calls_path path j y (site ∷ sites) after is_path.2 opens (i, j, is_path.0, refl, rw is_path.1 calls)
  calls_path (Ret site i j ∷ path) x y [] after is_path opens calls = absurd (cc (opens, open_sites_after-none path))
  calls_path (Ret site i j ∷ path) x y (latest ∷ sites) after is_path opens calls =
      let (same, rest) = same_site site latest path sites after opens in
      let (u, v, call, callee, outer) = calls in
      calls_path path j y sites after is_path.2 rest (rw (← well.site_inside site u v i j (rw same call) is_path.0) outer)

  -- each open call is finished inside its callee, the latest first, and then the root's procedure
  rest : (sites : List ℕ) (walked : List Edge) (x : ℕ) → IsPath shape (root shape) walked x → open_sites_after walked (Some []) ≡ Some sites
      → RootCalls shape (shape.procedure_of x) sites → ReachedFinish shape x → Rest shape x sites
  rest [] walked x is_walked opens calls can =
      let f = finish shape well x (can [] x refl (walked, (is_walked, rw opens refl))) in
      record {
        path = f.path;
        to_end = subst (λ p. IsPath shape x f.path (shape.exit p)) calls f.to_exit;
        closes = f.kept [];
      }
  rest (site ∷ sites) walked x is_walked opens calls can =
      let f = finish shape well x (can [] x refl (walked, (is_walked, rw opens refl))) in
      let (u, v, call, callee, outer) = calls in
      let (z, back) = returns site u v call in
      let return : IsEdge shape (Ret site (shape.exit (shape.procedure_of x)) z) =
      subst (λ p. IsEdge shape (Ret site (shape.exit p) z)) callee back in
      let on : List Edge = f.path ++ Ret site (shape.exit (shape.procedure_of x)) z ∷ [] in
      let is_on : IsPath shape x on z = IsPath-append shape f.path _ x _ z f.to_exit (return, refl, refl) in
      let one_less : open_sites_after on (Some (site ∷ sites)) ≡ Some sites =
      open_sites_after-append f.path _ (Some (site ∷ sites)) ∙ rw (f.kept (site ∷ sites), nat_eq_same site) refl in
      let opens_on : open_sites_after (walked ++ on) (Some []) ≡ Some sites =
      open_sites_after-append walked on (Some []) ∙ (ap (open_sites_after on) opens ∙ one_less) in
      let reached : IsReachedAlong shape x on = reached_along shape on walked x z is_walked is_on (rw opens_on refl) in
      let r = rest sites (walked ++ on) z (IsPath-append shape walked on (root shape) x z is_walked is_on) opens_on
      (subst (λ p. RootCalls shape p sites) (well.site_inside site u v _ z call return) outer)
      (finish_after shape on x z is_on reached can) in
      record {
        path = on ++ r.path;
        to_end = IsPath-append shape on r.path x z _ is_on r.to_end;
        closes = open_sites_after-append on r.path (Some (site ∷ sites)) ∙ (ap (open_sites_after r.path) one_less ∙ r.closes);
      }

  -- the rest of an execution that has come through a point behind which all can finish
  rest_behind : (before after : List Edge) (x y : ℕ) (sites : List ℕ) → ReachedFinish shape x
      → IsPath shape (root shape) before x → IsPath shape x after y → open_sites_after (before ++ after) (Some []) ≡ Some sites → Rest shape y sites
  rest_behind before after x y sites can to_x is_after opens =
      let whole = IsPath-append shape before after (root shape) x y to_x is_after in
      rest sites (before ++ after) y whole opens
      (calls_path (before ++ after) (root shape) y [] sites whole opens (well.entry_inside shape.root_procedure well.root_in_range))
      (finish_after shape after x y is_after (reached_along shape after before x y to_x is_after (rw opens refl)) can)

pub executions_extend : ExecutionsExtend
executions_extend shape before after point end well returns undoubted valid to_point =
    let is_after = path_behind shape before after (root shape) point end valid.0 to_point in
    let (sites, opens) = some_sites _ valid.1 in
    let r = rest_behind shape well returns before after point end sites (undoubted_executions_finish shape point well undoubted) to_point is_after opens in (
      r.path,
      IsPath-append shape (before ++ after) r.path (root shape) end _ valid.0 r.to_end,
      open_sites_after-append (before ++ after) r.path (Some []) ∙ (ap (open_sites_after r.path) opens ∙ r.closes),
    )

value_before-append : (transfer : Transfer) (front back : List Edge) (value : Bool)
    → value_before transfer (front ++ back) value ≡ value_before transfer front (value_before transfer back value)
value_before-append transfer [] back value = refl
value_before-append transfer (edge ∷ front) back value = ap (value_across transfer edge) (value_before-append transfer front back value)

module _ (shape : Shape) (transfer : Transfer) (accesses : Accesses) (live : IsLiveness shape transfer accesses) where
  -- what is live behind steps that do not write it is live before them
  unwritten_live : (path : List Edge) (x y : ℕ) → IsPath shape x path y → is_unwritten_along accesses path ≡ true
      → value_before transfer path true ≡ true
  unwritten_live [] x y is_path unwritten = refl
  unwritten_live (Step i j ∷ path) x y is_path unwritten =
      let (here, ahead) = not_and_parts (accesses.writes i) (is_unwritten_along accesses path) unwritten in
      rw (unwritten_live path j y is_path.2 ahead, live.kill_writes i j is_path.0, here) (or-true (transfer.gen i j))
  unwritten_live (Call site i j ∷ path) x y is_path unwritten =
      unwritten_live path j y is_path.2 (not_and_parts (accesses.writes i) (is_unwritten_along accesses path) unwritten).1
  unwritten_live (Ret site i j ∷ path) x y is_path unwritten =
      unwritten_live path j y is_path.2 (not_and_parts (accesses.writes i) (is_unwritten_along accesses path) unwritten).1

  -- a path that begins where the variable is read makes it live there
  live_at : (path : List Edge) (x : ℕ) → accesses.reads x ≡ true → IsPath shape x path (final shape)
      → value_before transfer path transfer.boundary ≡ true
  live_at [] x reads is_path = absurd (cc (ap accesses.reads is_path, live.final_reads_nothing))
  live_at (edge ∷ path) x reads is_path =
      let (i, j, same) = live.reader_steps edge is_path.0 (rw is_path.1 reads) in
      let from_x : i ≡ x = sym (ap source_of same) ∙ is_path.1 in
      let gens : transfer.gen i j ≡ true = live.gen_reads i j (rw same at is_path.0) ∙ (ap accesses.reads from_x ∙ reads) in
      rw (same, gens)

pub dead_on_executions_is_safe : DeadOnExecutionsIsSafe
dead_on_executions_is_safe shape transfer accesses point well returns live undoubted dead reading =
    let (before, after, reader, valid, to_point, unwritten, reads) = reading in
    let is_after = path_behind shape before after (root shape) point reader valid.0 to_point in
    let (sites, opens) = some_sites _ valid.1 in
    let (found, opens_before) = some_sites _ (valid_front shape before after point to_point valid.1).1 in
    let r = rest_behind shape well returns before after point reader sites (undoubted_executions_finish shape point well undoubted) to_point is_after
    opens in
    let opens_after : open_sites_after after (Some found) ≡ Some sites =
    ap (open_sites_after after) (sym opens_before) ∙ (sym (open_sites_after-append before after (Some [])) ∙ opens) in
    let closes : open_sites_after (after ++ r.path) (Some found) ≡ Some [] =
    open_sites_after-append after r.path (Some found) ∙ (ap (open_sites_after r.path) opens_after ∙ r.closes) in
    dead (
      after ++ r.path,
      (IsPath-append shape after r.path point reader _ is_after r.to_end, rw (sites_back (after ++ r.path) found [] closes) refl),
      value_before-append transfer after r.path transfer.boundary ∙ rw (live_at shape transfer accesses live r.path reader reads r.to_end)
          (unwritten_live shape transfer accesses live after point reader is_after unwritten),
    )

pub dead_variables_are_safe_on_executions : DeadVariablesAreSafeOnExecutions
dead_variables_are_safe_on_executions program point variable sound =
    dead_on_executions_is_safe (shape_of program) (transfer_of program Live variable) (accesses_of program variable) point
    (graphs_are_well_formed program sound) (calls_of_programs_return program sound) (live_is_liveness program variable sound)
