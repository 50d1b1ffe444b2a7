-- Paths that are put variable by variable are of all uses
use Rattle.std.proofs.Common.{◌≡◌, ◌∙◌, ℕ, zero, suc, ◌+◌, ◌-◌, ◌<◌, ◌≤◌, List, [], ◌∷◌, ◌++◌, length, map, slice_index, append-nil, append_assoc}
use Rattle.std.proofs.Common.{◌⊎◌, inl, inr, refl, sym, ap, subst, arith}
use Rattle.std.specs.Prelude.{All, Contains}
use Rattle.std.proofs.lemmas.List.{length-map, map-append}
use Rattle.std.proofs.lemmas.List.Elements.{All-from_get_or, All-get_or, All-map, All-push}
use Rattle.flow_graph.specs.Points.{point_count}
use Rattle.flow_reports.specs.declared.unset.UnsetUse.{UnsetUse}
use Rattle.tac_program.specs.Programs.{Program}
use Rattle.worklist.specs.Groups.{AreGroups}
use Rattle.flow_paths.specs.code.UnsetPaths.{IsUnsetUse, IsWitnessed, between, use_at, use_of, uses_in}
use Rattle.flow_paths.specs.declared.unset_path.UnsetPath.{UnsetPath}
use Rattle.flow_paths.proofs.lists.Between.{among_between, between_more, between_split, get_or-between, length-between, none_between}
use Rattle.flow_paths.proofs.lists.Placed.{contained, each_placed, no_use}

-- none are put where the places begin and end at one
pub put_none : (old uses : List UnsetUse) (places : List ℕ) (a b : ℕ) → a ≡ b → old ≡ old ++ map (use_at uses) (between places a b)
put_none old uses places a b same = sym (ap (λ ns. old ++ map (use_at uses) ns) (none_between places a b same) ∙ append-nil old)

-- one more
pub put_more : (old uses : List UnsetUse) (paths new : List UnsetPath) (path : UnsetPath) (places : List ℕ) (a n : ℕ) → a ≤ n
    → uses_in paths ≡ old ++ map (use_at uses) (between places a n) → new ≡ paths ++ path ∷ []
    → use_of path ≡ use_at uses (slice_index places n)
    → uses_in new ≡ old ++ map (use_at uses) (between places a (n + 1))
put_more old uses paths new path places a n low before is of =
    ap uses_in is
    ∙ map-append use_of paths (path ∷ [])
    ∙ ap (λ us. us ++ use_of path ∷ []) before
    ∙ append_assoc old (map (use_at uses) (between places a n)) (use_of path ∷ [])
    ∙ ap (λ u. old ++ (map (use_at uses) (between places a n) ++ u ∷ [])) of
    ∙ ap (λ us. old ++ us)
    (sym (map-append (use_at uses) (between places a n) (slice_index places n ∷ [])) ∙ ap (map (use_at uses)) (between_more places a n low))

pub witnessed_more : (program : Program) (paths new : List UnsetPath) (path : UnsetPath) → new ≡ paths ++ path ∷ []
    → All (IsWitnessed program) paths → IsWitnessed program path → All (IsWitnessed program) new
witnessed_more program paths new path is all one =
    subst (λ (xs : List UnsetPath). All (IsWitnessed program) xs) (sym is) (All-push (IsWitnessed program) paths path all one)

-- those of one variable more
pub put_next : (uses : List UnsetUse) (paths new : List UnsetPath) (places : List ℕ) (a b c : ℕ) → a ≤ b → b ≤ c
    → uses_in paths ≡ map (use_at uses) (between places a b)
    → uses_in new ≡ uses_in paths ++ map (use_at uses) (between places b c)
    → uses_in new ≡ map (use_at uses) (between places a c)
put_next uses paths new places a b c low high before put =
    put
    ∙ ap (λ us. us ++ map (use_at uses) (between places b c)) before
    ∙ sym (map-append (use_at uses) (between places a b) (between places b c))
    ∙ ap (map (use_at uses)) (between_split places a b c low high)

module _ (uses : List UnsetUse) (count : ℕ) (starts places : List ℕ) (groups : AreGroups (map (λ one. one.variable) uses) count starts places)
    (paths : List UnsetPath)
    (put : uses_in paths ≡ map (use_at uses) (between places (slice_index starts 0) (slice_index starts count))) where
  -- they end within the list, or where they begin
  ends : (n : ℕ) → n ≡ count → (slice_index starts count ≤ length uses) ⊎ (slice_index starts count ≡ slice_index starts 0)
  ends zero is = inr (sym (ap (slice_index starts) is))
  ends (suc n) is =
      let last : n + 1 ≡ count = omega (arith, is) in
      let within : slice_index starts count ≤ length (map (λ (one : UnsetUse). one.variable) uses) =
      subst (λ (c : ℕ). slice_index starts c ≤ length (map (λ (one : UnsetUse). one.variable) uses)) last (groups.within n (omega (arith, is))) in
      inl (omega (arith, within, length-map uses (λ (one : UnsetUse). one.variable)))

  place_inside : (i : ℕ) → i < slice_index starts count - slice_index starts 0 → slice_index starts 0 + i < length uses
  place_inside i inside = elim (ends count refl) [
    | inl within ↦ omega (arith, within, inside)
    | inr same ↦ absurd (let none : ⊥ = omega (arith, same, inside) in none)
  ]

  most : slice_index starts count - slice_index starts 0 ≤ length uses
  most = elim (ends count refl) [ inl within ↦ omega (arith, within) | inr same ↦ omega (arith, same) ]

  -- there are no more than uses
  pub few_paths : length paths ≤ length uses
  few_paths =
      let so_many : length paths ≡ slice_index starts count - slice_index starts 0 =
      sym (length-map paths use_of) ∙ ap length put
      ∙ length-map (between places (slice_index starts 0) (slice_index starts count)) (use_at uses)
      ∙ length-between places (slice_index starts 0) (slice_index starts count) in
      omega (arith, so_many, most)

  -- each use has one
  pub each_has : (program : Program) → length program.variable_names ≡ count → All (IsUnsetUse program) uses → All (Contains (uses_in paths)) uses
  each_has program so_many are =
      All-from_get_or (Contains (uses_in paths)) uses no_use
      (λ number below.
      let at = each_placed uses (λ one. one.variable) count starts places number groups below in
      let named : IsUnsetUse program (use_at uses number) = All-get_or (IsUnsetUse program) uses number no_use below are in
      let v : ℕ = (use_at uses number).variable in
      let low : slice_index starts 0 ≤ at.0 =
      omega (arith, groups.rising 0 v (omega arith) (omega (arith, named.variable, so_many)), at.1) in
      let high : at.0 < slice_index starts count =
      omega (arith, groups.rising (v + 1) count (omega (arith, named.variable, so_many)) (omega arith), at.2) in
      subst (λ (us : List UnsetUse). Contains us (use_at uses number)) (sym put)
      (contained (use_at uses) (between places (slice_index starts 0) (slice_index starts count)) number
      (subst (λ (k : ℕ). Contains (between places (slice_index starts 0) (slice_index starts count)) k) at.3
      (among_between places (slice_index starts 0) (slice_index starts count) at.0 low high))))

  -- and each is at a point
  pub at_points : (program : Program) → All (IsUnsetUse program) uses → All (λ one. one.point < point_count program) (uses_in paths)
  at_points program are =
      subst (λ (us : List UnsetUse). All (λ one. one.point < point_count program) us) (sym put)
      (All-map (λ one. one.point < point_count program) (use_at uses) (between places (slice_index starts 0) (slice_index starts count))
      (All-from_get_or (λ k. (use_at uses k).point < point_count program) (between places (slice_index starts 0) (slice_index starts count)) 0
      (λ i within.
      let inside : i < slice_index starts count - slice_index starts 0 =
      omega (arith, within, length-between places (slice_index starts 0) (slice_index starts count)) in
      let size : length places ≡ length uses = groups.size ∙ length-map uses (λ one. one.variable) in
      let there : slice_index starts 0 + i < length places = omega (arith, place_inside i inside, size) in
      let number : slice_index places (slice_index starts 0 + i) < length uses =
      omega (arith, groups.in_range (slice_index starts 0 + i) there, length-map uses (λ (one : UnsetUse). one.variable)) in
      subst (λ (k : ℕ). (use_at uses k).point < point_count program) (sym (get_or-between places (slice_index starts 0) (slice_index starts count) i 0 inside))
      (All-get_or (IsUnsetUse program) uses (slice_index places (slice_index starts 0 + i)) no_use number are).point)))
