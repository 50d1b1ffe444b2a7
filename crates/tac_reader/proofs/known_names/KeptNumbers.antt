-- A name keeps its number while names come behind it.
use Rattle.std.proofs.Common.{◌≡◌, subst, ℕ, Bool, true, false, List, [], ◌∷◌, ◌++◌, sym, ap, ◌∙◌, arith, Some, bytes_eq, position}
use Rattle.std.proofs.Common.{if◌then◌else◌, slice_range, All}
use Rattle.std.proofs.lemmas.Grind.{common_steps}
use Rattle.std.proofs.lemmas.List.Elements.{All-weaker, All-push}
use Rattle.tac_program.specs.Names.{noted, is_one_of}
use Rattle.tac_reader.specs.code.Occurrences.{IsNumberedIn}
use Rattle.tac_reader.specs.declared.occurrences.Occurrence.{Occurrence}

kept : (p : List ℕ → Bool) (names : List (List ℕ)) (y : List ℕ) (n : ℕ) → position p names ≡ Some n → position p (names ++ y ∷ []) ≡ Some n
kept p names y n e = grind (arith, common_steps)

noted_kept : (p : List ℕ → Bool) (names : List (List ℕ)) (x : List ℕ) (n : ℕ) → position p names ≡ Some n → position p (noted names x) ≡ Some n
noted_kept p names x n e = by_test (is_one_of x names) where
  by_test : (t : Bool) → position p (if t then names else names ++ x ∷ []) ≡ Some n
  by_test true = e
  by_test false = kept p names x n e

-- One place more, whose name is noted.
pub numbered_more : (text : List ℕ) (names next : List (List ℕ)) (x : List ℕ) (places after : List Occurrence) (place : Occurrence)
    → next ≡ noted names x → after ≡ places ++ place ∷ [] → x ≡ slice_range text place.start place.stop
    → position (bytes_eq x) next ≡ Some place.number → All (IsNumberedIn text names) places → All (IsNumberedIn text next) after
numbered_more text names next x places after place grown pushed there number before =
    let kept : All (IsNumberedIn text (noted names x)) places = All-weaker (IsNumberedIn text names) (IsNumberedIn text (noted names x))
    (λ o. noted_kept (bytes_eq (slice_range text o.start o.stop)) names x o.number) places before in
    let here : IsNumberedIn text next place = ap (λ s. position (bytes_eq s) next) (sym there) ∙ number in
    subst (All (IsNumberedIn text next)) (sym pushed)
    (All-push (IsNumberedIn text next) places place (subst (λ ns. All (IsNumberedIn text ns) places) (sym grown) kept) here)
