-- Joining and splitting of paths
use Rattle.std.proofs.Common.{◌≡◌, ℕ, List, [], ◌∷◌, ◌++◌, Option, Some, None, ◌<◌, inl, inr, refl, sym, ap, ◌∙◌, subst, append_assoc, append-nil}
use Rattle.flow_graph.specs.Paths.{Edge, Step, Call, Ret, Shape, IsEdge, root, IsPath, open_sites_after, IsValidPath}
use Rattle.flow_graph.specs.WellFormed.{IsWellFormed}
use Rattle.flow_graph.specs.MatchedPaths.{IsPathFromEntry, IsEnteringPath}
use Rattle.flow_graph.specs.PathLaws.{MatchedReturnsLeaveTheirCallee, StepsJoin, CalleePathsJoin, CallsEnter, ValidPathsSplit, PathsCompose}
use Rattle.flow_graph.specs.PathLaws.{FrontsAreValid}
use Rattle.flow_graph.proofs.paths.PathLemmas.{IsPath-append, path_split, open_sites_after-append, open_sites_after-none, open_sites_after-below}
use Rattle.flow_graph.proofs.paths.PathLemmas.{some_sites, nat_eq_same, same_site, valid_front}

-- a matched path leaves the sites that were open before it as they were
pub sites_kept : (path : List Edge) → open_sites_after path (Some []) ≡ Some [] → (sites : List ℕ) → open_sites_after path (Some sites) ≡ Some sites
sites_kept path matched sites = open_sites_after-below path [] [] sites matched

pub at_entry : (shape : Shape) → IsWellFormed shape → (procedure : ℕ) → procedure < shape.procedures
    → IsPathFromEntry shape [] (shape.entry procedure)
at_entry shape well procedure in_range = (ap shape.entry (well.entry_inside procedure in_range), refl)

pub steps_join : StepsJoin
steps_join shape path x y well edge from_entry = (
  IsPath-append shape path (Step x y ∷ []) _ x y (rw (← well.step_inside x y edge) from_entry.0) (edge, refl, refl),
  open_sites_after-append path (Step x y ∷ []) (Some []) ∙ rw from_entry.1,
)

pub callee_paths_join : CalleePathsJoin
callee_paths_join shape path inner site x procedure z well in_range call return outer through =
    let same : shape.procedure_of x ≡ shape.procedure_of z = well.site_inside site x _ _ z call return in
    let body : IsPath shape (shape.entry procedure) inner (shape.exit procedure) = rw (well.exit_inside procedure in_range) at through.0 in (
      IsPath-append shape path _ _ x z (rw (← same) outer.0)
          (call, refl, IsPath-append shape inner _ _ (shape.exit procedure) z body (return, refl, refl)),
      open_sites_after-append path _ (Some [])
          ∙ rw outer.1 (open_sites_after-append inner _ _ ∙ rw (sites_kept inner through.1 (site ∷ []), nat_eq_same site)),
    )

pub calls_enter : CallsEnter
calls_enter shape path site x procedure call valid =
    let (sites, opens) = some_sites _ valid.1 in (
      (
        IsPath-append shape path _ _ x _ valid.0 (call, refl, refl),
        rw (open_sites_after-append path (Call site x (shape.entry procedure) ∷ []) (Some []), opens) refl,
      ),
      inr (path, site, x, refl),
    )

-- a path by which a procedure is entered and a matched path in that procedure
pub valid_join : (shape : Shape) (front back : List Edge) (x : ℕ) → IsEnteringPath shape front (shape.procedure_of x) → IsPathFromEntry shape back x
    → IsValidPath shape (front ++ back) x
valid_join shape front back x entering from_entry =
    let (sites, opens) = some_sites _ entering.0.1 in (
      IsPath-append shape front back _ _ x entering.0.0 from_entry.0,
      rw (open_sites_after-append front back (Some []), opens, sites_kept back from_entry.1 sites) refl,
    )

-- front is a path that has entered the procedure by calls of these sites, with a matched path before each
Frames : Shape → ℕ → List ℕ → List Edge → Type 0
Frames shape procedure [] front = (front ≡ []) × (procedure ≡ shape.root_procedure)
Frames shape procedure (site ∷ sites) front =
    (outer : List Edge) × (path : List Edge) × (x : ℕ)
    × (procedure < shape.procedures) × (front ≡ outer ++ (path ++ Call site x (shape.entry procedure) ∷ []))
    × IsEdge shape (Call site x (shape.entry procedure)) × IsPathFromEntry shape path x × Frames shape (shape.procedure_of x) sites outer

record Split (shape : Shape) (x : ℕ) (sites : List ℕ) (path : List Edge) : Type 0 where
  front : List Edge
  back : List Edge
  same : path ≡ front ++ back
  frames : Frames shape (shape.procedure_of x) sites front
  from_entry : IsPathFromEntry shape back x

module _ (shape : Shape) (well : IsWellFormed shape) where
  split_step : (path : List Edge) (x y : ℕ) (sites : List ℕ) → IsEdge shape (Step x y) → Split shape x sites path
      → Split shape y sites (path ++ Step x y ∷ [])
  split_step path x y sites edge s = record {
    front = s.front;
    back = s.back ++ Step x y ∷ [];
    same = rw s.same (append_assoc s.front s.back _);
    frames = rw (← well.step_inside x y edge) s.frames;
    from_entry = steps_join shape s.back x y well edge s.from_entry;
  }

  split_call : (path : List Edge) (site x y : ℕ) (sites : List ℕ) → IsEdge shape (Call site x y) → Split shape x sites path
      → Split shape y (site ∷ sites) (path ++ Call site x y ∷ [])
  unfolding Frames
  split_call path site x y sites edge s =
      let target = well.call_to_entry site x y edge in
      record {
        front = path ++ Call site x y ∷ [];
        back = [];
        same = sym (append-nil (path ++ Call site x y ∷ []));
        frames = (
          s.front,
          s.back,
          x,
          target.0,
          rw s.same (append_assoc s.front s.back _ ∙ ap (λ (n : ℕ). s.front ++ (s.back ++ Call site x n ∷ [])) target.1),
          rw target.1 at edge,
          s.from_entry,
          s.frames,
        );
        from_entry = rw target.1 (at_entry shape well _ target.0);
      }

  split_return : (path : List Edge) (site x z : ℕ) (sites : List ℕ) → IsEdge shape (Ret site x z) → Split shape x (site ∷ sites) path
      → Split shape z sites (path ++ Ret site x z ∷ [])
  unfolding Frames
  split_return path site x z sites edge s =
      let (outer, before, y, in_range, same, call, from_entry, frames) = s.frames in
      let at_exit = (well.return_from_exit site x z edge).1 in
      let callee = shape.procedure_of x in
      record {
        front = outer;
        back = before ++ Call site y (shape.entry callee) ∷ (s.back ++ Ret site x z ∷ []);
        same = rw (s.same, same) (simp append_assoc);
        frames = rw (← well.site_inside site y _ x z call edge) frames;
        from_entry =
            subst (λ (n : ℕ). IsPathFromEntry shape (before ++ Call site y (shape.entry callee) ∷ (s.back ++ Ret site n z ∷ [])) z) (sym at_exit)
            (callee_paths_join shape before s.back site y callee z well in_range call (subst (λ (n : ℕ). IsEdge shape (Ret site n z)) at_exit edge)
            from_entry
            (subst (λ (n : ℕ). IsPathFromEntry shape s.back n) at_exit s.from_entry));
      }

  split_path : (path : List Edge) (before : List Edge) (x y : ℕ) (sites after : List ℕ) → IsPath shape x path y
      → open_sites_after path (Some sites) ≡ Some after
      → Split shape x sites before → Split shape y after (before ++ path)
  split_path [] before x y sites after is_path opens s =
      let same : sites ≡ after = cc in
      rw (← is_path, ← same, append-nil before) s
  split_path (Step i j ∷ path) before x y sites after is_path opens s =
      subst (λ (l : List Edge). Split shape y after l) (append_assoc before (Step i j ∷ []) path)
      (split_path path (before ++ Step i j ∷ []) j y sites after is_path.2 opens (split_step before i j sites is_path.0 (rw is_path.1 s)))
  split_path (Call site i j ∷ path) before x y sites after is_path opens s =
      subst (λ (l : List Edge). Split shape y after l) (append_assoc before (Call site i j ∷ []) path)
      (split_path path (before ++ Call site i j ∷ []) j y (site ∷ sites) after is_path.2 opens
      (split_call before site i j sites is_path.0 (rw is_path.1 s)))
  split_path (Ret site i j ∷ path) before x y [] after is_path opens s = absurd (cc (opens, open_sites_after-none path))
  split_path (Ret site i j ∷ path) before x y (latest ∷ sites) after is_path opens s =
      let (same, rest) = same_site site latest path sites after opens in
      subst (λ (l : List Edge). Split shape y after l) (append_assoc before (Ret site i j ∷ []) path)
      (split_path path (before ++ Ret site i j ∷ []) j y sites after is_path.2 rest
      (split_return before site i j sites is_path.0 (rw (is_path.1, same) s)))

  frames_enter : (procedure : ℕ) (sites : List ℕ) (front : List Edge) → Frames shape procedure sites front → IsEnteringPath shape front procedure
  unfolding Frames
  frames_enter procedure [] front frames = rw (frames.0, frames.1) ((refl, refl), inl (refl, refl))
  frames_enter procedure (site ∷ sites) front frames =
      let (outer, path, x, in_range, same, call, from_entry, outer_frames) = frames in
      let valid = valid_join shape outer path x (frames_enter (shape.procedure_of x) sites outer outer_frames) from_entry in
      rw (same, ← append_assoc outer path (Call site x (shape.entry procedure) ∷ [])) (calls_enter shape (outer ++ path) site x procedure call valid)

pub valid_split : (shape : Shape) (path : List Edge) (x : ℕ) → IsWellFormed shape → IsValidPath shape path x
    → (front : List Edge) × (back : List Edge) × (path ≡ front ++ back) × IsEnteringPath shape front (shape.procedure_of x)
    × IsPathFromEntry shape back x
unfolding Frames
valid_split shape path x well valid =
    let (sites, opens) = some_sites _ valid.1 in
    let start : Split shape (root shape) [] [] = record {
      front = [];
      back = [];
      same = refl;
      frames = (refl, well.entry_inside shape.root_procedure well.root_in_range);
      from_entry = at_entry shape well shape.root_procedure well.root_in_range;
    } in
    let s = split_path shape well path [] (root shape) x [] sites valid.0 opens start in
    (s.front, s.back, s.same, frames_enter shape well (shape.procedure_of x) sites s.front s.frames, s.from_entry)

pub valid_paths_split : ValidPathsSplit
valid_paths_split shape path x well = (
  valid_split shape path x well,
  (λ s. rw s.2 (valid_join shape s.0 s.1 x s.3 s.4)),
)

pub paths_compose : PathsCompose
paths_compose shape front back x z = (
  path_split shape front back x z,
  (λ (middle, first, second). IsPath-append shape front back x middle z first second),
)

pub fronts_are_valid : FrontsAreValid
fronts_are_valid shape front back x valid =
    let (middle, first, second) = path_split shape front back (root shape) x valid.0 in
    (middle, valid_front shape front back middle first valid.1, second)

-- the calls that are open in a path which has come into a procedure, the latest first, and what is known of the procedure
-- in which the first of them stands
abbrev pub OpenCalls : (ℕ → Type 0) → Shape → ℕ → List ℕ → Type 0
OpenCalls Outermost shape procedure [] = Outermost procedure
OpenCalls Outermost shape procedure (site ∷ sites) =
    (x : ℕ) × (y : ℕ) × IsEdge shape (Call site x y) × (shape.procedure_of y ≡ procedure) × OpenCalls Outermost shape (shape.procedure_of x) sites

calls_path : (Outermost : ℕ → Type 0) (shape : Shape) → IsWellFormed shape → (path : List Edge) (x y : ℕ) (sites after : List ℕ)
    → IsPath shape x path y → open_sites_after path (Some sites) ≡ Some after
    → OpenCalls Outermost shape (shape.procedure_of x) sites → OpenCalls Outermost shape (shape.procedure_of y) after
calls_path Outermost shape well [] x y sites after is_path opens calls =
    let same : sites ≡ after = cc in
    rw (← is_path, ← same) calls
calls_path Outermost shape well (Step i j ∷ path) x y sites after is_path opens calls =
    calls_path Outermost shape well path j y sites after is_path.2 opens (rw (← well.step_inside i j is_path.0, is_path.1) calls)
calls_path Outermost shape well (Call site i j ∷ path) x y sites after is_path opens calls =
    calls_path Outermost shape well path j y (site ∷ sites) after is_path.2 opens (i, j, is_path.0, refl, rw is_path.1 calls)
calls_path Outermost shape well (Ret site i j ∷ path) x y [] after is_path opens calls = absurd (cc (opens, open_sites_after-none path))
calls_path Outermost shape well (Ret site i j ∷ path) x y (latest ∷ sites) after is_path opens calls =
    let (same, rest) = same_site site latest path sites after opens in
    let (u, v, call, callee, outer) = calls in
    calls_path Outermost shape well path j y sites after is_path.2 rest (rw (← well.site_inside site u v i j (rw same call) is_path.0) outer)

pub matched_returns_leave_their_callee : MatchedReturnsLeaveTheirCallee
matched_returns_leave_their_callee shape before between after site x y site' u z finish well valid matched =
    let whole = Call site x y ∷ (between ++ Ret site' u z ∷ after) in
    let (middle, first, second) = path_split shape before whole (root shape) finish valid.0 in
    let (end, inner, last) = path_split shape between (Ret site' u z ∷ after) y finish second.2 in
    let same_procedure : shape.procedure_of end ≡ shape.procedure_of y =
    calls_path (λ q. q ≡ shape.procedure_of y) shape well between y end [] [] inner matched refl in
    let at_exit = (well.return_from_exit site' u z last.0).1 in
    let (sites, opens) = some_sites _ valid.1 in
    (site_of sites opens, at_exit ∙ ap (λ n. shape.exit (shape.procedure_of n)) last.1 ∙ ap shape.exit same_procedure)
  where
    go : (sites final : List ℕ) → open_sites_after (between ++ Ret site' u z ∷ after) (Some (site ∷ sites)) ≡ Some final → site' ≡ site
    go sites final opens =
        let along : open_sites_after (Ret site' u z ∷ after) (Some (site ∷ sites)) ≡ Some final =
        ap (λ s. open_sites_after (Ret site' u z ∷ after) s) (sym (open_sites_after-below between [] [] (site ∷ sites) matched))
        ∙ sym (open_sites_after-append between (Ret site' u z ∷ after) (Some (site ∷ sites))) ∙ opens in
        (same_site site' site after sites final along).0

    start : (opened : Option (List ℕ)) (final : List ℕ) → open_sites_after (Call site x y ∷ (between ++ Ret site' u z ∷ after)) opened ≡ Some final
        → site' ≡ site
    start None final opens = absurd (cc (opens, open_sites_after-none (between ++ Ret site' u z ∷ after)))
    start (Some sites) final opens = go sites final opens

    site_of : (final : List ℕ) → open_sites_after (before ++ Call site x y ∷ (between ++ Ret site' u z ∷ after)) (Some []) ≡ Some final → site' ≡ site
    site_of final opens = start (open_sites_after before (Some [])) final (sym (open_sites_after-append before _ (Some [])) ∙ opens)
