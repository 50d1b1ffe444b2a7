-- Doubtful points, runs, and what it is to read a variable before it is written.
use Rattle.std.specs.Prelude.{◌≡◌, ℕ, Bool, true, false, not, List, [], ◌∷◌, Option, Some, None, option_and_then, IsSome, nat_eq, if◌then◌else◌}
use Rattle.std.specs.List.{list_all}
use Rattle.tac_program.specs.Programs.{Program}
use Rattle.flow_graph.specs.Transfers.{reads, writes}
use Rattle.flow_graph.specs.Paths.{Edge, Step, Call, Ret, source_of, Shape, Transfer, IsEdge, final, IsPath, HasBackwardPath}

-- A point is doubtful where some path from it, the empty one too and whichever call a return belongs to, leads to a point
-- that has no backward valid path.
abbrev pub IsDoubtful : Shape → ℕ → Type 0
IsDoubtful shape point = (path : List Edge) × (ahead : ℕ) × IsPath shape point path ahead × ¬ (HasBackwardPath shape ahead)

-- Not doubtful, said of each point ahead: every path from the point leads to one that has a backward valid path.
abbrev pub CanAlwaysFinish : Shape → ℕ → Type 0
CanAlwaysFinish shape point = (path : List Edge) (ahead : ℕ) → IsPath shape point path ahead → HasBackwardPath shape ahead

-- the open sites after an edge of a run: as for a valid path, but a return with no open site is let through
abbrev pub run_sites_after_edge : Edge → List ℕ → Option (List ℕ)
run_sites_after_edge (Step source target) sites = Some sites
run_sites_after_edge (Call site source target) sites = Some (site ∷ sites)
run_sites_after_edge (Ret site source target) [] = Some []
run_sites_after_edge (Ret site source target) (latest ∷ sites) = if nat_eq site latest then Some sites else None

-- the open sites after a run that is read from its first edge on
abbrev pub run_sites_after : List Edge → Option (List ℕ) → Option (List ℕ)
run_sites_after [] sites = sites
run_sites_after (edge ∷ path) sites = run_sites_after path (option_and_then (run_sites_after_edge edge) sites)

-- A run: what an execution that stands at the first point may pass. Returns match the calls of the run; one that no call
-- of it has opened leaves the procedure in which the run began, to any of its callers. Each finite beginning of an
-- endless execution is a run.
abbrev pub IsRun : Shape → ℕ → List Edge → ℕ → Type 0
IsRun shape start path finish = IsPath shape start path finish × IsSome (run_sites_after path (Some []))

-- whether the statement at a point reads a variable, and whether it writes it
pub record Accesses : Type 0 where
  pub reads : ℕ → Bool
  pub writes : ℕ → Bool

-- whether no statement that a path passes writes the variable
abbrev pub is_unwritten_along : Accesses → List Edge → Bool
is_unwritten_along accesses path = list_all (λ edge. not (accesses.writes (source_of edge))) path

-- Some run from the point ends where the statement reads the variable, and no statement that it passed wrote it.
abbrev pub ReadsBeforeWriting : Shape → Accesses → ℕ → Type 0
ReadsBeforeWriting shape accesses point =
    (path : List Edge) × (reader : ℕ) × IsRun shape point path reader
    × (is_unwritten_along accesses path ≡ true) × (accesses.reads reader ≡ true)

-- each call can return from the callee that it enters
abbrev pub CallsReturn : Shape → Type 0
CallsReturn shape =
    (site x y : ℕ) → IsEdge shape (Call site x y) → (z : ℕ) × IsEdge shape (Ret site (shape.exit (shape.procedure_of y)) z)

-- The transfer is that of live variables (Aho, Lam, Sethi, Ullman, 2nd edition, 9.2.5): a step makes live what the
-- statement at its beginning reads, and kills what it writes. A statement that reads has steps alone, and there is none at
-- the end of the root's procedure.
pub record IsLiveness (shape : Shape) (transfer : Transfer) (accesses : Accesses) : Type 0 where
  pub gen_reads : (x y : ℕ) → IsEdge shape (Step x y) → transfer.gen x y ≡ accesses.reads x
  pub kill_writes : (x y : ℕ) → IsEdge shape (Step x y) → transfer.kill x y ≡ accesses.writes x
  pub reader_steps : (edge : Edge) → IsEdge shape edge → accesses.reads (source_of edge) ≡ true → (x : ℕ) × (y : ℕ) × (edge ≡ Step x y)
  pub final_reads_nothing : accesses.reads (final shape) ≡ false

-- what the statements do with one variable
abbrev pub accesses_of : Program → ℕ → Accesses
accesses_of program variable = record { reads = λ point. reads program point variable; writes = λ point. writes program point variable }
