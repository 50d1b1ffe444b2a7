use Rattle.std.proofs.Common.{ℕ, ◌*◌, ◌+◌, ◌&&◌, sym, ap, ◌∙◌}
use Rattle.bit_rows.proofs.words.WordBits.{has_bit-zero}
use Rattle.bit_rows.specs.Words.{has_bit}
use Rattle.std.proofs.lemmas.Bool.{eqb-true}
use Rattle.point_sets.specs.Sets.{is_bit_shown, set_on}
use Rattle.flow_team.specs.Tables.{facts_of}
use Rattle.point_sets.proofs.point_set.PointSet.is_blank.Goals as goal

pub returns-in-Before : goal.returns-in-Before
returns-in-Before c = λ is k within.
    let set = c.args.self.now in
    let bit : ℕ = 64 * c.args.at + k in
    let shown = is_bit_shown set.graph.now set.table.now.analysis set.hides_entry bit in
    ap (λ side. set_on side set.graph.now set.table.now.analysis (facts_of set.table.now) set.point bit && shown) c.in-Before.is
    ∙ ap (λ b. b && shown)
    (sym (c.word.ensures.set k within) ∙ ap (λ w. has_bit w k) (eqb-true c.word.result 0 is) ∙ has_bit-zero k)
