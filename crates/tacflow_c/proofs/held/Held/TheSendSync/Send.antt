-- A handle may go to another thread: a kept program may, and any thread may give a block back.
use mir.Raw.{raw}
use base.Shift.{Keyless}
use denote.Memory.{lone}
use denote.RawPtr.{Ptr}
use denote.Param.Send.{IsSend, Frees, owning_send, struct_send, sendable}
use denote.Builtin.{RawPtr}
use denote.Struct.Struct.{exits_of}
use denote.Struct.Owning.{shape, fields, to}
use Rattle.std_alloc.proofs.SendSync.{quiet, lies}
use Rattle.std.proofs.Crossing.{crosses}
use Rattle.std.specs.Prelude.{Option, Some, None}
use Rattle.std.specs.declared.alloc.Global.{Global}
use Rattle.std.specs.contracts.alloc.Global as global
use Rattle.std.specs.contracts.impls.GlobalAllocator.TheImpl.{ghosts}
use Rattle.flow_kept.specs.contracts.shared.Shared as kept
use Rattle.flow_kept.proofs.Sent.{shared_send}
use Rattle.tacflow_c.specs.Held.{held}
use Rattle.tacflow_c.specs.contracts.held.Held.{the_row, the_type}

held_keyless : IsSend kept.the_row → Frees ghosts ghosts.dealloc_token → (a : Global) (p : Ptr) (k : Option (kept.the_row).Denot)
    → Keyless (held (ghosts.dealloc_token a) kept.the_row p k)
held_keyless s f a p None = tt
held_keyless s f a p (Some x) = (lies kept.the_row s p x, f.frees a (raw (lone (kept.the_row).mir)) p)

pub send : IsSend the_row
send =
    let ps : IsSend RawPtr = search sendable in let sa : IsSend (global.the_field).row = search sendable depth 20 in
    let f : Frees ghosts ghosts.dealloc_token = search (sendable, crosses) in
    owning_send the_type (ps, (sa, tt)) (λ d. held_keyless shared_send f d.alloc d.at d.value)
    (λ k. quiet (to the_type) (exits_of k (fields the_type)) ((struct_send (shape the_type) (ps, (sa, tt))).leaving k))
