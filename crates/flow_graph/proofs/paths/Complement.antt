-- Complement
use Rattle.std.proofs.Common.{◌≡◌, Bool, true, false, not, List, [], ◌∷◌, ◌↔◌, ap, ◌∙◌, refl}
use Rattle.flow_graph.specs.Paths.{Edge, Step, Call, Ret, Transfer, IsValidPath, IsBackwardValidPath, value_across, value_after, value_before}
use Rattle.flow_graph.specs.Reversals.{complemented_transfer}
use Rattle.flow_graph.specs.PathLaws.{TransferComplement, ValuesComplement, MeetsComplement, ComplementOfReversed}

pub transfer_complement : TransferComplement
transfer_complement true true true = refl
transfer_complement true true false = refl
transfer_complement true false true = refl
transfer_complement true false false = refl
transfer_complement false true true = refl
transfer_complement false true false = refl
transfer_complement false false true = refl
transfer_complement false false false = refl

value_across-complemented : (transfer : Transfer) (edge : Edge) (value : Bool)
    → not (value_across transfer edge value) ≡ value_across (complemented_transfer transfer) edge (not value)
value_across-complemented transfer (Step x y) value = transfer_complement (transfer.gen x y) (transfer.kill x y) value
value_across-complemented transfer (Call site x y) value = refl
value_across-complemented transfer (Ret site x y) value = refl

pub value_after-complemented : (transfer : Transfer) (path : List Edge) (value : Bool)
    → value_after (complemented_transfer transfer) path (not value) ≡ not (value_after transfer path value)
value_after-complemented transfer [] value = refl
value_after-complemented transfer (edge ∷ path) value =
    rw (← value_across-complemented transfer edge value) (value_after-complemented transfer path (value_across transfer edge value))

pub value_before-complemented : (transfer : Transfer) (path : List Edge) (value : Bool)
    → value_before (complemented_transfer transfer) path (not value) ≡ not (value_before transfer path value)
value_before-complemented transfer [] value = refl
value_before-complemented transfer (edge ∷ path) value =
    rw (value_before-complemented transfer path value, value_across-complemented transfer edge (value_before transfer path value))

pub values_complement : ValuesComplement
values_complement transfer path value = (value_after-complemented transfer path value, value_before-complemented transfer path value)

-- none of some paths has the opposite of a bit exactly where each has the bit
none_has_opposite : (IsPathTo : List Edge → Type 0) (opposite value : List Edge → Bool) → ((path : List Edge) → opposite path ≡ not (value path))
    → ((path : List Edge) → IsPathTo path → value path ≡ true) ↔ (¬ ((path : List Edge) × IsPathTo path × (opposite path ≡ true)))
none_has_opposite IsPathTo opposite value is_not = (
  (λ each some.
      let has : value some.0 ≡ true = each some.0 some.1 in
      let lacks : opposite some.0 ≡ false = is_not some.0 ∙ ap not has in
      cc (lacks, some.2)),
  (λ none path is_path. go path is_path none (value path) refl),
)
  where
    go : (path : List Edge) → IsPathTo path → ¬ ((path : List Edge) × IsPathTo path × (opposite path ≡ true)) → (v : Bool) → value path ≡ v → v ≡ true
    go path is_path none true same = refl
    go path is_path none false same = absurd (none (path, is_path, is_not path ∙ ap not same))

pub meets_complement : MeetsComplement
meets_complement shape transfer x =
    let opposite = complemented_transfer transfer in (
      none_has_opposite (λ path. IsValidPath shape path x) (λ path. value_after opposite path opposite.boundary)
          (λ path. value_after transfer path transfer.boundary)
          (λ path. value_after-complemented transfer path transfer.boundary),
      none_has_opposite (λ path. IsBackwardValidPath shape path x) (λ path. value_before opposite path opposite.boundary)
          (λ path. value_before transfer path transfer.boundary)
          (λ path. value_before-complemented transfer path transfer.boundary),
    )

pub complement_of_reversed : ComplementOfReversed
complement_of_reversed transfer = refl
