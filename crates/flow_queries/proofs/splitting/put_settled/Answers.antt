use Rattle.std.proofs.Common.{◌≡◌, ◌∙◌, ◌<◌, ◌||◌, ◌&&◌, nat_eq, ℕ, Some, slice_get, slice_index, refl, sym, ap, subst}
use Rattle.std.proofs.lemmas.Grind.{get_or_default_zero}
use Rattle.std.proofs.lemmas.Option.{slice_get-get_or}
use Rattle.bit_rows.specs.Words.{has_bit}
use Rattle.flow_queries.specs.declared.query.Query.{Query}
use Rattle.flow_queries.proofs.queries.Splitting.{all_split_more}
use Rattle.flow_queries.proofs.splitting.put_settled.Goals as goal

pub returns : goal.returns
returns c =
    let left = c.args.split.now.left.items in
    let found = c.args.split.now.found.items in
    let rest = c.index.result.now in
    let new : Query = record { analysis = rest.analysis; point = rest.point; word = rest.word; bits = c.without_bit-bits.result } in
    let is : slice_get left c.args.number ≡ Some rest =
    slice_get-get_or left c.args.number rest c.requires.left ∙ ap Some (sym c.index.ensures) in
    let before : c.index-2.result.now ≡ slice_index found c.args.number =
    c.index-2.ensures ∙ get_or_default_zero found c.args.number c.index-2.result.now c.requires.found in
    all_split_more c.args.solvers.now c.args.queries.now left found c.args.number c.args.place c.with_bit_if.result rest new c.args.has c.requires.split
    c.requires.left c.requires.found is (c.requires.known rest is) c.requires.place refl refl refl c.without_bit-bits.ensures
    (subst
    (λ (n : ℕ). (k : ℕ) → k < 64 → has_bit c.with_bit_if.result k ≡ (has_bit n k || (nat_eq k c.args.place && c.args.has)))
    before c.with_bit_if.ensures)
