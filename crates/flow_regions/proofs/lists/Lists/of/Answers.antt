use Rattle.std.proofs.Common.{◌≡◌, ◌<◌, ◌+◌, ℕ, List, length, get_or, slice_index, ap, ◌∙◌, arith}
use Rattle.std.proofs.lemmas.Option.{get_or_from_slice_get, slice_get-get_or}
use Rattle.flow_regions.proofs.listed.Pairs.{sliced}
use Rattle.flow_regions.proofs.lists.Lists.of.Goals as goal

-- within a list the default is of no account
get_or_same : (xs : List ℕ) (i d e : ℕ) → i < length xs → get_or xs i d ≡ get_or xs i e
get_or_same xs i d e low = get_or_from_slice_get xs i (get_or xs i e) d (slice_get-get_or xs i e low)

pub returns-clause-has : goal.returns-clause-has
returns-clause-has c value (j, place, low, read) =
    let all : c.deref.result.now ≡ c.args.self.now.values.items = c.deref.ensures.value in
    let within = c.requires.lists.within c.args.key (omega (arith, c.requires.key)) in
    let from_is : c.index-from.result.now ≡ slice_index c.args.self.now.starts.items c.args.key = c.index-from.ensures ∙ get_or_same c.args.self.now.starts.items c.args.key c.index-from.result.now 0 (omega (arith, c.requires.key)) in
    let until_is : c.index-until.result.now ≡ slice_index c.args.self.now.starts.items (c.args.key + 1) = c.index-until.ensures ∙ get_or_same c.args.self.now.starts.items (c.args.key + 1) c.index-until.result.now 0 (omega (arith, c.requires.key)) in
    sliced c.deref.result.now c.index-from.result.now c.index-until.result.now j value (omega (arith, from_is, place.low)) (omega (arith, until_is, place.high))
    (omega (arith, until_is, within, c.deref.ensures.len)) (ap (λ (l : List ℕ). slice_index l j) all ∙ read)
