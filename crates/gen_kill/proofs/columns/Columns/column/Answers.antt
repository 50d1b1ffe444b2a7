use Rattle.std.proofs.Common.{◌≡◌, ◌<◌, ℕ, List, Option, length, get_or, nat_eq, false, refl, subst, sym, ap, ◌∙◌}
use Rattle.gen_kill.specs.Selections.{bit_in}
use Rattle.gen_kill.specs.code.Columns.{HasColumn, chosen_if}
use Rattle.gen_kill.proofs.bits.Chosen.{column_found, column_missing}
use Rattle.gen_kill.proofs.columns.Columns.column.Goals as goal

pub returns-then-is_number_at-clause-marked : goal.returns-then-is_number_at-clause-marked
returns-then-is_number_at-clause-marked c column there =
    let list : List ℕ = c.self.inside.bits.items in
    let seen : chosen_if false list ≡ c.args.self.now = ap (λ b. chosen_if b list) (sym c.if-self.false) ∙ c.self.view_is in
    let at = subst (λ (xs : List ℕ). c.args.bit < length xs → c.number_at-column.result ≡ get_or xs c.args.bit 0) c.as_slice.ensures.value
    c.number_at-column.ensures in
    let is = subst (λ (xs : List ℕ). get_or xs c.number_at-column.result 0 ≡ c.args.bit) c.as_slice-2.ensures.value
    (c.if-is_number_at.ensures.0 refl).1 in
    subst (λ (o : Option (List ℕ)). HasColumn o column → nat_eq column c.number_at-column.result ≡ nat_eq (bit_in o column) c.args.bit) seen
    (λ below. column_found list c.self.inside.columns.items c.self.invariant c.number_at-column.result c.args.bit at column below is) there

pub returns-else-is_number_at-clause-marked : goal.returns-else-is_number_at-clause-marked
returns-else-is_number_at-clause-marked c column there =
    let list : List ℕ = c.self.inside.bits.items in
    let seen : chosen_if false list ≡ c.args.self.now = ap (λ b. chosen_if b list) (sym c.if-self.false) ∙ c.self.view_is in
    let at = subst (λ (xs : List ℕ). c.args.bit < length xs → c.number_at-column.result ≡ get_or xs c.args.bit 0) c.as_slice.ensures.value
    c.number_at-column.ensures in
    let none = subst (λ (xs : List ℕ). ¬ ((c.number_at-column.result < length xs) × (get_or xs c.number_at-column.result 0 ≡ c.args.bit)))
    c.as_slice-2.ensures.value (λ both. cc (c.if-is_number_at.ensures.1 both)) in
    subst (λ (o : Option (List ℕ)). HasColumn o column → false ≡ nat_eq (bit_in o column) c.args.bit) seen
    (λ below. column_missing list c.self.inside.columns.items c.self.invariant c.number_at-column.result c.args.bit at column below none) there
