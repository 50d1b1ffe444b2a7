-- What some callee of a point's calls has, as its links are read
use Rattle.std.proofs.Common.{◌≡◌, ◌<◌, ◌+◌, ◌↔◌, inl, inr, ◌||◌, true, length, get_or, None, slice_get, Bool, ℕ, List, arith, refl, sym, ◌∙◌, subst, ap}
use Rattle.std.proofs.lemmas.Bool.{cases_eq, or_left, or_right, or_cases}
use Rattle.std.proofs.lemmas.Option.{slice_get_cases}
use Rattle.std.proofs.lemmas.List.{get_or_default}
use Rattle.std.proofs.lemmas.List.Elements.{Contains-get_or}
use Rattle.bit_rows.specs.Words.{has_bit}
use Rattle.flow_graph.specs.declared.edge.Edge.TheVariants.{Call}
use Rattle.flow_graph.specs.Paths.{Shape, IsEdge}
use Rattle.flow_links.specs.LinkLists.{AreCallsFrom}
use Rattle.flow_links.specs.Shapes.{after_site}
use Rattle.flow_links.specs.declared.link.CallLink.{CallLink}
use Rattle.gk_solve.specs.Tables.Flags.{IsFlagged}

abbrev pub no_link : CallLink
no_link = record { exit = 0; after = 0 }

-- a link below one has its exit on a path, and a bit there
abbrev pub IsFoundBelow : List Bool → (ℕ → ℕ) → List CallLink → ℕ → ℕ → Type 0
IsFoundBelow paths words calls n k =
    (j : ℕ) × (j < n) × IsFlagged paths (get_or calls j no_link).exit × (has_bit (words (get_or calls j no_link).exit) k ≡ true)

module _ (paths : List Bool) (words : ℕ → ℕ) (calls : List CallLink) (k : ℕ) where
  more : (n : ℕ) → IsFoundBelow paths words calls n k → IsFoundBelow paths words calls (n + 1) k
  more n (j, low, flagged, has) = (j, omega (arith, low), flagged, has)

  -- of no link nothing is found
  pub found_none : (has : Bool) → (has ≡ true → ⊥) → (has ≡ true) ↔ IsFoundBelow paths words calls 0 k
  found_none has never = ((λ is. absurd (never is)), λ (j, low, flagged, there). absurd (omega (arith, low)))

  -- with the bits at one more exit that is on a path
  pub found_more : (n : ℕ) (old new : Bool) → IsFlagged paths (get_or calls n no_link).exit
      → new ≡ (old || has_bit (words (get_or calls n no_link).exit) k)
      → (old ≡ true) ↔ IsFoundBelow paths words calls n k → (new ≡ true) ↔ IsFoundBelow paths words calls (n + 1) k
  found_more n old new flagged are found = (forth, back)
    where
      forth : new ≡ true → IsFoundBelow paths words calls (n + 1) k
      forth is = elim (or_cases old (has_bit (words (get_or calls n no_link).exit) k) (sym are ∙ is)) [
        | inl before ↦ more n (found.0 before)
        | inr here ↦ (n, omega arith, flagged, here)
      ]

      back : IsFoundBelow paths words calls (n + 1) k → new ≡ true
      back (j, low, at, has) = elim (cases_eq j n) [
        | inl same ↦ are ∙ or_right old (has_bit (words (get_or calls n no_link).exit) k)
            (subst (λ i. has_bit (words (get_or calls i no_link).exit) k ≡ true) same has)
        | inr other ↦ are ∙ or_left old (has_bit (words (get_or calls n no_link).exit) k) (found.1 (j, omega (arith, low, other), at, has))
      ]

  -- one more exit that is on none adds nothing
  pub found_still : (n : ℕ) (old : Bool) → (IsFlagged paths (get_or calls n no_link).exit → ⊥)
      → (old ≡ true) ↔ IsFoundBelow paths words calls n k → (old ≡ true) ↔ IsFoundBelow paths words calls (n + 1) k
  found_still n old never found = ((λ is. more n (found.0 is)), back)
    where
      back : IsFoundBelow paths words calls (n + 1) k → old ≡ true
      back (j, low, at, has) = elim (cases_eq j n) [
        | inl same ↦ absurd (never (subst (λ i. IsFlagged paths (get_or calls i no_link).exit) same at))
        | inr other ↦ found.1 (j, omega (arith, low, other), at, has)
      ]

  -- all links are those of the calls from a point
  pub some_callee : (shape : Shape) (backward : Bool) (points x n : ℕ) (has : Bool) → AreCallsFrom shape backward points x calls → length calls ≡ n
      → (has ≡ true) ↔ IsFoundBelow paths words calls n k
      → (has ≡ true) ↔ ((site : ℕ) × (y : ℕ) × IsEdge shape (Call site x y) × IsFlagged paths (shape.exit (shape.procedure_of y))
      × (has_bit (words (shape.exit (shape.procedure_of y))) k ≡ true))
  some_callee shape backward points x n has are whole found = (forth, back)
    where
      forth : has ≡ true → (site : ℕ) × (y : ℕ) × IsEdge shape (Call site x y) × IsFlagged paths (shape.exit (shape.procedure_of y))
          × (has_bit (words (shape.exit (shape.procedure_of y))) k ≡ true)
      forth is =
          let (j, low, flagged, there) = found.0 is in
          let (site, y, edge, exit, after) = (are.listed (get_or calls j no_link)).0 (Contains-get_or calls j no_link (omega (arith, low, whole))) in
          (site, y, edge, subst (IsFlagged paths) exit flagged, subst (λ e. has_bit (words e) k ≡ true) exit there)

      back : ((site : ℕ) × (y : ℕ) × IsEdge shape (Call site x y) × IsFlagged paths (shape.exit (shape.procedure_of y))
          × (has_bit (words (shape.exit (shape.procedure_of y))) k ≡ true)) → has ≡ true
      back (site, y, edge, flagged, there) =
          let link : CallLink = record { exit = shape.exit (shape.procedure_of y); after = after_site backward site } in
          let (j, within, is) = (are.listed link).1 (site, y, edge, refl, refl) in
          let same : get_or calls j no_link ≡ link = get_or_default calls j no_link link within ∙ is in
          let exit : shape.exit (shape.procedure_of y) ≡ (get_or calls j no_link).exit = sym (ap (λ (l : CallLink). l.exit) same) in
          found.1 (j, omega (arith, within, whole), subst (IsFlagged paths) exit flagged, subst (λ e. has_bit (words e) k ≡ true) exit there)

-- where there is no link, no call leaves the point
pub no_call : (shape : Shape) (backward : Bool) (points x : ℕ) (calls : List CallLink) → AreCallsFrom shape backward points x calls
    → None ≡ slice_get calls 0 → (site y : ℕ) → IsEdge shape (Call site x y) → ⊥
no_call shape backward points x calls are none site y edge =
    let link : CallLink = record { exit = shape.exit (shape.procedure_of y); after = after_site backward site } in
    let (j, within, is) = (are.listed link).1 (site, y, edge, refl, refl) in
    elim ((slice_get_cases calls 0).1) [
      | inl there ↦ let some = there.2 in absurd (cc)
      | inr past ↦ let short = past.0 in omega (arith, within, short)
    ]
