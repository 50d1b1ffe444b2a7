-- What entered and brought say
use Rattle.std.proofs.Common.{◌≡◌, ℕ, true, List, [], ◌∷◌, ◌<◌, sym, ap, ◌∙◌, inl, inr, ◌⊎◌}
use Rattle.flow_graph.specs.declared.edge.Edge.{Edge}
use Rattle.flow_graph.specs.declared.edge.Edge.TheVariants.{Call}
use Rattle.flow_graph.specs.Paths.{Shape, Transfer, root, IsValidPath, value_after}
use Rattle.flow_graph.specs.WellFormed.{IsWellFormed}
use Rattle.flow_graph.specs.MatchedPaths.{EndsInCallOf, IsEnteringPath}
use Rattle.flow_graph.proofs.paths.PathLemmas.{path_split, value_after-append, valid_front}
use Rattle.summary_equations.specs.Equations.{Entered, root_is_entered, Brought, brought_by_boundary}
use Rattle.summary_equations.specs.Laws.{EntriesArePaths}
use Rattle.summary_equations.proofs.paths.Sound.{entered_path, brought_path}
use Rattle.summary_equations.proofs.paths.Complete.{brought_of, came_by_call}
use Rattle.summary_equations.proofs.paths.Meet.{stands, flag_of}

entered_by : (shape : Shape) (transfer : Transfer) → IsWellFormed shape → (procedure : ℕ) → procedure < shape.procedures
    → (path : List Edge) × IsEnteringPath shape path procedure → Entered shape procedure
entered_by shape transfer well p in_range has = rw (well.entry_inside p in_range) at (flag_of shape transfer well (shape.entry p) (has.0, has.1.0)).0

brought_by : (shape : Shape) (transfer : Transfer) → IsWellFormed shape → (procedure : ℕ) → procedure < shape.procedures
    → (path : List Edge) × IsEnteringPath shape path procedure × (value_after transfer path transfer.boundary ≡ true)
    → Brought shape transfer procedure
brought_by shape transfer well p in_range has = go has.0 has.1.0 has.2 has.1.1
  where
    go : (path : List Edge) → IsValidPath shape path (shape.entry p) → value_after transfer path transfer.boundary ≡ true
        → ((path ≡ []) × (p ≡ shape.root_procedure)) ⊎ EndsInCallOf shape path p → Brought shape transfer p
    go path valid value (inl empty) = rw empty.1 (brought_by_boundary (rw empty.0 at value))
    go path valid value (inr ends) =
        let (front, site, x, same) = ends in
        let last = Call site x (shape.entry p) ∷ [] in
        let (y, before, call) = path_split shape front last (root shape) (shape.entry p) (rw same at valid.0) in
        let front_valid = valid_front shape front last y before (rw same at valid.1) in
        let (sites, at_x) = stands shape transfer well front x (rw (← call.1) at front_valid) in
        let came = came_by_call shape transfer well shape.root_procedure transfer.boundary site x (shape.entry p) sites _ call.0 at_x in
        rw (well.entry_inside p in_range) at
        (brought_of shape transfer well shape.root_procedure transfer.boundary root_is_entered (λ e. brought_by_boundary e) (site ∷ sites)
        (shape.procedure_of (shape.entry p)) _ came
        (sym (value_after-append transfer front _ _) ∙ (ap (λ l. value_after transfer l transfer.boundary) (sym same) ∙ value)))

pub entries_are_paths : EntriesArePaths
entries_are_paths shape transfer p well in_range = (
  (entered_path well, entered_by shape transfer well p in_range),
  (brought_path well, brought_by shape transfer well p in_range),
)
