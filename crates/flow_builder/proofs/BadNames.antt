-- Names by their ends and bytes: the next one, and when it is bad.
use Rattle.std.proofs.Common.{◌≡◌, ◌∙◌, ℕ, ◌+◌, ◌<◌, Bool, true, false, not, List, [], ◌∷◌, ◌++◌, length, length-append, get_or, take, drop}
use Rattle.std.proofs.Common.{inl, inr, refl, sym, ap, subst, arith}
use Rattle.std.specs.Prelude.{Contains, IsTrue, bytes_eq, slice_range, unwrap_or, ◌↔◌, ◌⊎◌}
use Rattle.std.proofs.lemmas.List.{get_or_at, take_at}
use Rattle.std.proofs.lemmas.List.Folds.{Any-from_list_any}
use Rattle.std.proofs.lemmas.Option.{slice_get-get_or}
use Rattle.std.proofs.lemmas.Slice.Eq.{bytes_eq-Decides}
use Rattle.tac_program.specs.Names.{is_one_of, name_at}
use Rattle.tac_program.specs.Sound.{IsLawfulName}
use Rattle.flow_builder.specs.Built.{names_from, names_of}
use Rattle.flow_builder.specs.Checks.{IsBadName}
use Rattle.flow_builder.specs.declared.arrays.BuiltNames.{BuiltNames}
use Rattle.flow_builder.proofs.Lists.{drop_more}

-- a name that is not lawful, by its test, and one that stands before, by its own
pub unlawful : (b : Bool) (P : Type 0) → (IsTrue b ↔ P) → b ≡ false → ¬ P
unlawful b P decides off lawful = cc (sym off ∙ decides.1 lawful)

pub stands_before : (names : List (List ℕ)) (name : List ℕ) (added : Bool) → added ≡ not (is_one_of name names) → not added ≡ true
    → Contains names name
stands_before names name added is old =
    let (k, one, below, at, same) = Any-from_list_any (bytes_eq name) names (one_of (is_one_of name names) added is old) in
    subst (Contains names) (sym ((bytes_eq-Decides name one).0 same)) (k, below, at)
  where
    one_of : (one added : Bool) → added ≡ not one → not added ≡ true → one ≡ true
    one_of true added is old = refl
    one_of false added is old = cc (sym (ap not is) ∙ old)

-- Of names so far, and those of the ends that are left, the next is bad where its bytes are no lawful name or a name so far.
pub bad_word : (names : BuiltNames) (table : List (List ℕ)) (n start : ℕ) → length table ≡ n → n < length names.ends.now
    → table ++ names_from start (drop n names.ends.now) names.bytes.now ≡ names_from 0 names.ends.now names.bytes.now
    → (¬ (IsLawfulName (slice_range names.bytes.now start (get_or names.ends.now n 0))))
    ⊎ Contains table (slice_range names.bytes.now start (get_or names.ends.now n 0))
    → IsBadName names n
bad_word names table n start count below is wrong =
    let ends : List ℕ = names.ends.now in
    let bytes : List ℕ = names.bytes.now in
    let name : List ℕ = slice_range bytes start (get_or ends n 0) in
    let rest : List (List ℕ) = names_from (get_or ends n 0) (drop (n + 1) ends) bytes in
    let whole : names_of names ≡ table ++ name ∷ rest = sym is ∙ ap (λ es. table ++ names_from start es bytes) (drop_more ends n 0 below) in
    let inside : n < length (table ++ name ∷ rest) = omega (arith, count, length-append table (name ∷ rest)) in
    let before : take n (names_of names) ≡ table = ap (take n) whole ∙ take_at table (name ∷ rest) n count in
    let here : name_at (names_of names) n ≡ name =
    ap (λ ns. name_at ns n) whole
    ∙ ap (λ o. unwrap_or o []) (slice_get-get_or (table ++ name ∷ rest) n [] inside)
    ∙ get_or_at table name rest [] n count in
    record {
      there = below;
      wrong = inr (elim wrong [
        | inl unspelled ↦ inl (subst (λ (s : List ℕ). ¬ (IsLawfulName s)) (sym here) unspelled)
        | inr old ↦ inr (subst (λ (s : List ℕ). Contains (take n (names_of names)) s) (sym here)
            (subst (λ (ns : List (List ℕ)). Contains ns name) (sym before) old))
      ]);
    }
