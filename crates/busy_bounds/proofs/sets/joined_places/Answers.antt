use Rattle.std.proofs.Common.{◌≡◌, ℕ, List, length, sym, subst}
use Rattle.busy_bounds.specs.code.Sets.{IsAmong, IsIn, IsThere}
use Rattle.busy_bounds.specs.declared.bound.Bound.{Bound}
use Rattle.busy_bounds.proofs.sets_left.Growing.{among_grown, among_more}
use Rattle.busy_bounds.proofs.sets.joined_places.Goals as goal

pub returns-in_ok-put_all-in-Among-2-clause-joins : goal.returns-in_ok-put_all-in-Among-2-clause-joins
returns-in_ok-put_all-in-Among-2-clause-joins c =
    let old : List ℕ = c.args.items.now.items in
    let mid : List ℕ = c.put_all.new.items.items in
    let new : List ℕ = c.put_all-in-Among.new.items.items in
    let start : ℕ = c.len-behind.result in
    let first = c.in_ok-put_all-in-Among.ensures in
    let second = c.in_ok-put_all-in-Among-2.ensures in
    let slice : c.as_slice.result.now ≡ new = c.as_slice.ensures.value in
    let in_set : (number : ℕ) → IsAmong new start (length new) number → IsIn new c.set_from.result number =
    λ number among.
    subst (λ (l : List ℕ). IsIn l c.set_from.result number) slice
    (c.set_from.ensures.has number (subst (λ (l : List ℕ). IsAmong l start (length l) number) (sym slice) among)) in
    record {
      there = subst (λ (l : List ℕ). IsThere l c.set_from.result) slice c.set_from.ensures.there;
      has_first = λ number among. in_set number (among_more mid new start number second.grows (first.has number among));
      has_second = λ number has.
          in_set number
          (second.has number
          (among_grown old mid c.in-Among.start c.in-Among.end number
          (subst (λ (b : Bound). IsThere old b) c.in-Among.is c.requires.other) first.grows
          (subst (λ (b : Bound). IsIn old b number) c.in-Among.is has)));
    }
