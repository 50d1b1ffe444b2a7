use Rattle.std.proofs.Common.{◌∙◌, ℕ, Bool, not, ◌&&◌, slice_get, ap₂}
use Rattle.flow_graph.specs.Transfers.{changes, evaluates}
use Rattle.flow_graph.specs.Universes.{expressions}
use Rattle.gen_kill.proofs.bits.OwnBits.{expression_is_own}
use Rattle.tac_program.specs.Programs.{Program}
use Rattle.block_dots.proofs.sets.OwnBits.{one_without}
use Rattle.block_dots.proofs.transfers.spoils.Goals as goal

pub returns : goal.returns
returns c =
    let program : Program = c.args.graph.now in
    let point : ℕ = c.args.point in
    let bit : ℕ = c.args.bit in
    c.without.ensures
    ∙ ap₂ (λ (a b : Bool). a && not b) c.changes_bit.ensures (c.evaluates.ensures ∙ expression_is_own program point bit)
    ∙ one_without (changes program point) (evaluates program point) (slice_get (expressions program) bit)
