-- Flags across edges, and what a visit does to them
use Rattle.std.proofs.Common.{◌≡◌, ◌≢◌, ◌<◌, ◌+◌, inl, inr, length, get_or, set, true, false, Bool, ℕ, List, arith, refl, sym, ◌∙◌, subst, ap}
use Rattle.std.proofs.Common.{if◌then◌else◌}
use Rattle.std.proofs.Math.ListN.{length-set}
use Rattle.std.proofs.lemmas.Bool.{cases_eq, cases_lt}
use Rattle.std.proofs.lemmas.List.{get_or_past, get_or-set_same, get_or-set_other}
use Rattle.std.proofs.lemmas.List.Sums.{sum_by-set}
use Rattle.flow_graph.specs.declared.edge.Edge.{Edge}
use Rattle.flow_graph.specs.declared.edge.Edge.TheVariants.{Step, Call, Ret}
use Rattle.flow_graph.specs.Paths.{Shape, IsEdge, source_of}
use Rattle.summary_equations.specs.Equations.{CallsAt, ReturnsTo, Reached, entry_is_reached, reached_by_step, reached_by_call, Entered}
use Rattle.summary_equations.specs.Equations.{entered_by_call}
use Rattle.summary_equations.specs.Equations.{HasFlag}
use Rattle.flow_links.specs.Shapes.{IsNumbered, after_site}
use Rattle.worklist.specs.Worklist.{IsMarked}
use Rattle.gk_solve.specs.Tables.Flags.{IsFlagged, FlagsGrow, AreSound, AreExactly, IsReachClosedAt, IsCallSettled, IsSiteSettled, IsEntryClosedAt}
use Rattle.gk_solve.specs.Tables.Flags.{unset_flags, source_procedure, ReachSpreads, EntrySpreads}
use Rattle.gk_solve.specs.Tables.Visits.{IsSettled}
use Rattle.flow_links.specs.declared.link.CallLink.{CallLink}
use Rattle.flow_links.specs.declared.link.SiteLink.{SiteLink}
use Rattle.summary_equations.proofs.solutions.Least.{reached_least, entered_least}

-- ---- edges
module _ {shape : Shape} {backward : Bool} {points : ℕ} (is : IsNumbered shape backward points) where
  pub call_of : (site x y : ℕ) → IsEdge shape (Call site x y) → CallsAt shape site x (shape.procedure_of y)
  call_of site x y there =
      let to = is.formed.call_to_entry site x y there in
      (to.0, subst (λ (n : ℕ). IsEdge shape (Call site x n)) to.1 there)

  pub return_of : (site x y : ℕ) → IsEdge shape (Call site x y) → ReturnsTo shape site (shape.procedure_of y) (after_site backward site)
  return_of site x y there = (is.one_return site x y (after_site backward site) there).1 refl

  pub reached_across_call : (site x y : ℕ) → IsEdge shape (Call site x y) → Reached shape x → Reached shape (shape.exit (shape.procedure_of y))
      → Reached shape (after_site backward site)
  reached_across_call site x y there at_x at_exit =
      reached_by_call site x (shape.procedure_of y) (after_site backward site) (call_of site x y there) (return_of site x y there) at_x at_exit

  pub entered_across_call : (site x y : ℕ) → IsEdge shape (Call site x y) → Entered shape (shape.procedure_of x) → Reached shape x
      → Entered shape (shape.procedure_of y)
  entered_across_call site x y there caller at_x = entered_by_call site x (shape.procedure_of y) (call_of site x y there) caller at_x

  -- where a call is on a path, its callee's exit is where it is reached
  pub exit_has_flag : (site x y : ℕ) → IsEdge shape (Call site x y) → HasFlag shape x → Reached shape (shape.exit (shape.procedure_of y))
      → HasFlag shape (shape.exit (shape.procedure_of y))
  exit_has_flag site x y there at_x at_exit =
      let call = call_of site x y there in (
        subst (Entered shape) (sym (is.formed.exit_inside (shape.procedure_of y) call.0))
            (entered_by_call site x (shape.procedure_of y) call at_x.0 at_x.1),
        at_exit,
      )

  -- a point and what an edge leads to lie in one procedure
  pub step_has_flag : (x y : ℕ) → IsEdge shape (Step x y) → HasFlag shape x → HasFlag shape y
  step_has_flag x y there at_x = (subst (Entered shape) (is.formed.step_inside x y there) at_x.0, reached_by_step x y there at_x.1)

  pub return_has_flag : (site x y : ℕ) → IsEdge shape (Call site x y) → HasFlag shape x → Reached shape (shape.exit (shape.procedure_of y))
      → HasFlag shape (after_site backward site)
  return_has_flag site x y there at_x at_exit = (
    subst (Entered shape)
        (is.formed.site_inside site x y (shape.exit (shape.procedure_of y)) (after_site backward site) there (return_of site x y there)) at_x.0,
    reached_across_call site x y there at_x.1 at_exit,
  )

  -- a table that is closed at each edge and has the entries has every reached point
  pub all_reached : (flags : List Bool) → ((edge : Edge) → IsEdge shape edge → IsReachClosedAt shape backward flags edge)
      → ((p : ℕ) → p < shape.procedures → IsFlagged flags (shape.entry p))
      → (x : ℕ) → Reached shape x → IsFlagged flags x
  all_reached flags closed entry x at_x = reached_least {shape = shape} {reached = IsFlagged flags} record {
    entry = entry;
    step = λ x y edge. closed (Step x y) edge;
    call = λ site x p z call return at_x at_exit.
        let same : shape.procedure_of (shape.entry p) ≡ p = is.formed.entry_inside p call.0 in
        let back : IsEdge shape (Ret site (shape.exit (shape.procedure_of (shape.entry p))) z) =
        subst (λ (n : ℕ). IsEdge shape (Ret site (shape.exit n) z)) (sym same) return in
        subst (IsFlagged flags) (sym ((is.one_return site x (shape.entry p) z call.1).0 back))
        (closed (Call site x (shape.entry p)) call.1 at_x (subst (λ (n : ℕ). IsFlagged flags (shape.exit n)) (sym same) at_exit));
  } at_x

  -- a table of procedures that is closed at each edge and has the root has every entered procedure
  pub all_entered : (reached flags : List Bool) → AreExactly (Reached shape) reached
      → ((edge : Edge) → IsEdge shape edge → IsEntryClosedAt shape reached flags edge) → IsFlagged flags shape.root_procedure
      → (p : ℕ) → Entered shape p → IsFlagged flags p
  all_entered reached flags exact closed root p entered = entered_least {shape = shape} {reached = Reached shape} {entered = IsFlagged flags}
      record { entry = entry_is_reached; step = reached_by_step; call = reached_by_call }
      record {
        root = root;
        call = λ site x q call caller at_x.
            subst (IsFlagged flags) (is.formed.entry_inside q call.0) (closed (Call site x (shape.entry q)) call.1 caller ((exact x).1 at_x));
      }
      entered

-- ---- lists of flags
pub flag_here : (flags : List Bool) (at : ℕ) → at < length flags → IsFlagged (set flags at true) at
flag_here flags at within = get_or-set_same flags at true false within

pub flags_stay : (flags : List Bool) (at : ℕ) → FlagsGrow flags (set flags at true)
flags_stay flags at x flagged = elim (cases_eq x at) [
  | inl same ↦ elim (cases_lt at (length flags)) [
    | inl within ↦ ap (λ n. get_or (set flags at true) n false) same ∙ get_or-set_same flags at true false within
    | inr past ↦ let no : get_or flags x false ≡ false = get_or_past flags x false (omega arith) in absurd (cc)
  ]
  | inr other ↦ get_or-set_other flags at x true false other ∙ flagged
]

pub still_flags : (flags : List Bool) → FlagsGrow flags flags
still_flags flags x flagged = flagged

pub flags_on : (a b c : List Bool) → FlagsGrow a b → FlagsGrow b c → FlagsGrow a c
flags_on a b c first second x flagged = second x (first x flagged)

unset_falls : (flags : List Bool) (at : ℕ) → at < length flags → get_or flags at false ≡ false → unset_flags (set flags at true) < unset_flags flags
unset_falls flags at within clear =
    let weight : Bool → ℕ = λ flag. if flag then 0 else 1 in
    let moved : unset_flags (set flags at true) + weight (get_or flags at false) ≡ unset_flags flags + weight true =
    sum_by-set weight flags at true false within in
    let one : weight (get_or flags at false) ≡ 1 = ap weight clear in
    falls (unset_flags (set flags at true)) (unset_flags flags) (weight (get_or flags at false)) moved one
  where
    falls : (after before one : ℕ) → after + one ≡ before + 0 → one ≡ 1 → after < before
    falls after before one moved is_one = omega arith

before_flag : (flags : List Bool) (at x : ℕ) → x ≢ at → IsFlagged (set flags at true) x → IsFlagged flags x
before_flag flags at x other flagged = sym (get_or-set_other flags at x true false other) ∙ flagged

sound_flag : (Family : ℕ → Type 0) (flags : List Bool) (at : ℕ) → Family at → AreSound Family flags → AreSound Family (set flags at true)
sound_flag Family flags at here sound x flagged = elim (cases_eq x at) [
  | inl same ↦ subst Family (sym same) here
  | inr other ↦ sound x (before_flag flags at x other flagged)
]

-- ---- visits of points
module _ (shape : Shape) (backward : Bool) where
  -- a flag more, with its point and its callers marked
  pub grown_spreads : (flags dirty dirty_after : List Bool) (at : ℕ) → at < length flags → get_or flags at false ≡ false → Reached shape at
      → length dirty_after ≡ length dirty → IsMarked dirty_after at → ((x : ℕ) → IsMarked dirty x → IsMarked dirty_after x)
      → ((site x y : ℕ) → IsEdge shape (Call site x y) → shape.exit (shape.procedure_of y) ≡ at → IsMarked dirty_after x)
      → ReachSpreads shape backward flags dirty (set flags at true) dirty_after
  grown_spreads flags dirty dirty_after at within clear reached count here keeps callers = record {
    count = count;
    grows = flags_stay flags at;
    settled = λ edge there settled. by_case edge there settled;
    progress = inr (unset_falls flags at within clear);
    sound = sound_flag (Reached shape) flags at reached;
  }
    where
      at_step : (x y : ℕ) → (IsFlagged flags x → IsFlagged flags y)
          → IsSettled (IsReachClosedAt shape backward) source_of (set flags at true) dirty_after (Step x y)
      at_step x y closed = elim (cases_eq x at) [
        | inl same ↦ inr (subst (IsMarked dirty_after) (sym same) here)
        | inr other ↦ inl (λ flagged. flags_stay flags at y (closed (before_flag flags at x other flagged)))
      ]

      at_call : (site x y : ℕ) → IsEdge shape (Call site x y) → IsReachClosedAt shape backward flags (Call site x y)
          → IsSettled (IsReachClosedAt shape backward) source_of (set flags at true) dirty_after (Call site x y)
      at_call site x y there closed = elim (cases_eq x at) [
        | inl same ↦ inr (subst (IsMarked dirty_after) (sym same) here)
        | inr other ↦ elim (cases_eq (shape.exit (shape.procedure_of y)) at) [
          | inl exit ↦ inr (callers site x y there exit)
          | inr apart ↦ inl (λ flagged through. flags_stay flags at
              _ (closed (before_flag flags at x other flagged) (before_flag flags at (shape.exit (shape.procedure_of y)) apart through)))
        ]
      ]

      by_case : (edge : Edge) → IsEdge shape edge → IsSettled (IsReachClosedAt shape backward) source_of flags dirty edge
          → IsSettled (IsReachClosedAt shape backward) source_of (set flags at true) dirty_after edge
      by_case edge there (inr marked) = inr (keeps (source_of edge) marked)
      by_case (Step x y) there (inl closed) = at_step x y closed
      by_case (Call site x y) there (inl closed) = at_call site x y there closed
      by_case (Ret site x y) there (inl closed) = inl closed

  -- the edges from a point are its steps and calls
  pub reach_by_source : (flags dirty : List Bool) (at : ℕ)
      → ((y : ℕ) → IsEdge shape (Step at y) → IsSettled (IsReachClosedAt shape backward) source_of flags dirty (Step at y))
      → ((site y : ℕ) → IsEdge shape (Call site at y) → IsSettled (IsReachClosedAt shape backward) source_of flags dirty (Call site at y))
      → (edge : Edge) → IsEdge shape edge → source_of edge ≡ at → IsSettled (IsReachClosedAt shape backward) source_of flags dirty edge
  reach_by_source flags dirty at steps calls (Step x y) there same =
      subst (λ n. IsSettled (IsReachClosedAt shape backward) source_of flags dirty (Step n y)) (sym same)
      (steps y (subst (λ n. IsEdge shape (Step n y)) same there))
  reach_by_source flags dirty at steps calls (Call site x y) there same =
      subst (λ n. IsSettled (IsReachClosedAt shape backward) source_of flags dirty (Call site n y)) (sym same)
      (calls site y (subst (λ n. IsEdge shape (Call site n y)) same there))
  reach_by_source flags dirty at steps calls (Ret site x y) there same = inl tt

-- ---- visits of procedures
module _ (shape : Shape) (reached : List Bool) where
  -- a flag more, with its procedure marked
  pub entered_spreads : (flags dirty : List Bool) (at : ℕ) → at < length flags → at < length dirty → get_or flags at false ≡ false → Entered shape at
      → EntrySpreads shape reached flags dirty (set flags at true) (set dirty at true)
  entered_spreads flags dirty at within in_dirty clear entered = record {
    count = length_set_true dirty at;
    grows = flags_stay flags at;
    settled = λ edge there settled. by_case edge there settled;
    progress = inr (unset_falls flags at within clear);
    sound = sound_flag (Entered shape) flags at entered;
  }
    where
      length_set_true : (worklist : List Bool) (n : ℕ) → length (set worklist n true) ≡ length worklist
      length_set_true worklist n = length-set worklist n true

      by_case : (edge : Edge) → IsEdge shape edge → IsSettled (IsEntryClosedAt shape reached) (source_procedure shape) flags dirty edge
          → IsSettled (IsEntryClosedAt shape reached) (source_procedure shape) (set flags at true) (set dirty at true) edge
      by_case edge there (inr marked) = inr (flags_stay dirty at (source_procedure shape edge) marked)
      by_case (Step x y) there (inl closed) = inl tt
      by_case (Ret site x y) there (inl closed) = inl tt
      by_case (Call site x y) there (inl closed) = elim (cases_eq (shape.procedure_of x) at) [
        | inl same ↦ inr (subst (IsMarked (set dirty at true)) (sym same) (flag_here dirty at in_dirty))
        | inr other ↦
            inl (λ flagged at_x. flags_stay flags at (shape.procedure_of y) (closed (before_flag flags at (shape.procedure_of x) other flagged) at_x))
      ]

-- ---- the calls from a point
module _ (shape : Shape) (backward : Bool) where
  -- so it is once the flag of its return is set, or where that of its callee's exit is not
  pub call_flagged : (at : ℕ) (flags dirty : List Bool) (link : CallLink) → IsFlagged flags link.after
      → IsCallSettled shape backward at flags dirty link
  call_flagged at flags dirty link flagged =
      record { settled = λ site y there exit after. inl (λ from through. subst (IsFlagged flags) after flagged) }

  pub call_blocked : (at : ℕ) (flags dirty : List Bool) (link : CallLink) → get_or flags link.exit false ≡ false
      → IsCallSettled shape backward at flags dirty link
  call_blocked at flags dirty link clear = record {
    settled = λ site y there exit after.
        inl (λ from through. let set : get_or flags link.exit false ≡ true = subst (IsFlagged flags) (sym exit) through in absurd (cc));
  }

  pub call_settled_more : (at : ℕ) (f0 d0 f1 d1 : List Bool) (link : CallLink) → ReachSpreads shape backward f0 d0 f1 d1
      → IsCallSettled shape backward at f0 d0 link → IsCallSettled shape backward at f1 d1 link
  call_settled_more at f0 d0 f1 d1 link spreads is =
      record { settled = λ site y there exit after. spreads.settled (Call site at y) there (is.settled site y there exit after) }

-- ---- the calls of a procedure
module _ (shape : Shape) (reached : List Bool) where
  -- a call is settled once the flag of its callee is set, or where its point is not reached
  pub site_flagged : (flags dirty : List Bool) (link : SiteLink) → IsFlagged flags link.callee → IsSiteSettled shape reached flags dirty link
  site_flagged flags dirty link flagged =
      record { settled = λ site x y there point callee. inl (λ from at_x. subst (IsFlagged flags) callee flagged) }

  pub site_blocked : (flags dirty : List Bool) (link : SiteLink) → get_or reached link.point false ≡ false
      → IsSiteSettled shape reached flags dirty link
  site_blocked flags dirty link clear = record {
    settled = λ site x y there point callee.
        inl (λ from at_x. let set : get_or reached link.point false ≡ true = subst (IsFlagged reached) (sym point) at_x in absurd (cc));
  }

  pub site_settled_more : (f0 d0 f1 d1 : List Bool) (link : SiteLink) → EntrySpreads shape reached f0 d0 f1 d1
      → IsSiteSettled shape reached f0 d0 link → IsSiteSettled shape reached f1 d1 link
  site_settled_more f0 d0 f1 d1 link spreads is =
      record { settled = λ site x y there point callee. spreads.settled (Call site x y) there (is.settled site x y there point callee) }

  -- the edges of a procedure are settled where its calls are
  pub entry_by_source : (flags dirty : List Bool) (procedure : ℕ)
      → ((site x y : ℕ) → IsEdge shape (Call site x y) → shape.procedure_of x ≡ procedure
      → IsSettled (IsEntryClosedAt shape reached) (source_procedure shape) flags dirty (Call site x y))
      → (edge : Edge) → IsEdge shape edge → source_procedure shape edge ≡ procedure
      → IsSettled (IsEntryClosedAt shape reached) (source_procedure shape) flags dirty edge
  entry_by_source flags dirty procedure calls (Step x y) there same = inl tt
  entry_by_source flags dirty procedure calls (Call site x y) there same = calls site x y there same
  entry_by_source flags dirty procedure calls (Ret site x y) there same = inl tt

-- ---- flags within their list
pub flag_within : (flags : List Bool) (x : ℕ) → IsFlagged flags x → x < length flags
flag_within flags x flagged = elim (cases_lt x (length flags)) [
  | inl low ↦ low
  | inr past ↦ let no : get_or flags x false ≡ false = get_or_past flags x false past in absurd (cc)
]
