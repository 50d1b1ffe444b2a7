-- What the tables of points answer
use Rattle.std.proofs.Common.{◌≡◌, ℕ, zero, suc, ◌+◌, ◌-◌, ◌<◌, ◌≤◌, List, [], ◌∷◌, length, take, get_or, slice_get, slice_index_or, option_copied}
use Rattle.std.proofs.Common.{option_map, unwrap_or, inl, inr, ◌⊎◌, is_some, IfSome, nat_lt, Bor, Option, Some, None, sum_by, refl, sym, ap, ap₂, ◌∙◌}
use Rattle.std.proofs.Common.{arith}
use Rattle.std.proofs.lemmas.List.Sums.{sum_by-cons, sum_by_more}
use Rattle.std.proofs.lemmas.Bool.{cases_lt}
use Rattle.std.proofs.lemmas.Option.{slice_get_past, slice_get-get_or, slice_get_read}
use Rattle.tac_program.specs.Programs.{Procedure, Program}
use Rattle.flow_graph.specs.Points.{Place, size_of, first_point, place_of, procedure_at, end_place, point_of, point_count}
use Rattle.flow_graph.specs.code.PointTables.{AreFirstPoints, AreProcedures}
use Rattle.flow_graph.specs.ProgramLaws.{IsPlaceOf}
use Rattle.flow_graph.proofs.places.PointLemmas.{points_have_places, places_have_points}

-- what is read for a point: its procedure p, and that procedure's first point f
pub record Found (program : Program) (firsts : List ℕ) (point p f : ℕ) : Type 0 where
  pub procedure : p ≡ procedure_at program point
  pub there : p < length firsts
  pub first : f ≤ point
  pub place : record { procedure = p; place = point - f } ≡ place_of program point

pub procedure_found : (program : Program) (firsts procedures : List ℕ) (point p : ℕ) → AreFirstPoints program firsts
    → AreProcedures program procedures
    → point < point_count program → p ≡ get_or procedures point p → (p ≡ procedure_at program point) × (p < length firsts)
procedure_found program firsts procedures point p are_firsts are_procedures below is_p =
    let same : p ≡ procedure_at program point = is_p ∙ are_procedures.each point p below in
    let place : IsPlaceOf program point = points_have_places program point below in
    (same, omega (arith, are_firsts.count, place.procedure, same))

pub found : (program : Program) (firsts procedures : List ℕ) (point p f : ℕ) → AreFirstPoints program firsts → AreProcedures program procedures
    → point < point_count program → p ≡ get_or procedures point p → f ≡ get_or firsts p f → Found program firsts point p f
found program firsts procedures point p f are_firsts are_procedures below is_p is_f =
    let (same, there) = procedure_found program firsts procedures point p are_firsts are_procedures below is_p in
    let place : IsPlaceOf program point = points_have_places program point below in
    let first : f ≡ first_point program (procedure_at program point) =
    is_f ∙ are_firsts.each p f (omega (arith, are_firsts.count)) ∙ ap (first_point program) same in
    record {
      procedure = same;
      there = there;
      first = omega (arith, place.back);
      place = ap₂ (λ a b. record { procedure = a; place = b }) same (omega (arith, place.back));
    }

pub point_fits : (program : Program) (firsts : List ℕ) (procedure place f : ℕ) → AreFirstPoints program firsts → procedure < length program.procedures
    → place ≤ end_place program procedure
    → f ≡ get_or firsts procedure f → f + place < point_count program
point_fits program firsts procedure place f are_firsts there within is_f =
    let (below, is) = places_have_points program procedure place there within in
    omega (arith, is_f, are_firsts.each procedure f there)

-- what `get` of a slice lends is what is there
pub copied_is_get : {A : Type 0} (found : Option (Bor A)) (xs : List A) (i : ℕ) → is_some found ≡ nat_lt i (length xs)
    → IfSome found (λ x. x.now ≡ slice_index_or xs i x.now) → option_copied found ≡ slice_get xs i
copied_is_get None xs i some value =
    let past : length xs ≤ i = grind arith in
    sym (slice_get_past xs i past)
copied_is_get (Some x) xs i some value =
    let below : i < length xs = grind arith in
    ap Some value ∙ sym (slice_get-get_or xs i x.now below)

-- each procedure has a point
pub procedures_before : (ps : List Procedure) (k : ℕ) → k ≤ length ps → k ≤ sum_by size_of (take k ps)
procedures_before ps zero within = omega arith
procedures_before [] (suc k) within = absurd (omega arith)
procedures_before (p ∷ ps) (suc k) within =
    let rest : k ≤ sum_by size_of (take k ps) = procedures_before ps k (omega arith) in
    let front : sum_by size_of (p ∷ take k ps) ≡ size_of p + sum_by size_of (take k ps) = sum_by-cons size_of p (take k ps) in
    omega arith

-- the points of one procedure more
pub one_more : (program : Program) (k n : ℕ) (p : Procedure) (old new : List ℕ) → k < length program.procedures → p ≡ get_or program.procedures k p
    → length old ≡ sum_by size_of (take k program.procedures) → ((i d : ℕ) → i < length old → get_or old i d ≡ procedure_at program i)
    → n ≡ length old + (length p.statements + 1)
    → ((i d : ℕ) → i < n → i < length old → get_or new i d ≡ get_or old i d) → ((i d : ℕ) → length old ≤ i → i < n → get_or new i d ≡ k)
    → (n ≡ sum_by size_of (take (k + 1) program.procedures)) × ((i d : ℕ) → i < n → get_or new i d ≡ procedure_at program i)
one_more program k n p old new there is_p so_many each is_n same added = (omega (arith, more), at)
  where
    element : size_of (get_or program.procedures k p) ≡ suc (length p.statements)
    element = ap size_of (sym is_p)

    more : sum_by size_of (take (k + 1) program.procedures) ≡ sum_by size_of (take k program.procedures) + suc (length p.statements)
    more = sum_by_more size_of program.procedures k p there ∙ ap (λ m. sum_by size_of (take k program.procedures) + m) element

    ends : end_place program k ≡ length p.statements
    ends = ap (λ o. length (unwrap_or (option_map (λ (p : Procedure). p.statements) o) [])) (slice_get_read program.procedures _ k p refl there is_p)

    at : (i d : ℕ) → i < n → get_or new i d ≡ procedure_at program i
    at i d below = by_case (cases_lt i (length old))
      where
        by_case : (i < length old) ⊎ (length old ≤ i) → get_or new i d ≡ procedure_at program i
        by_case (inl before) = same i d below before ∙ each i d before
        by_case (inr behind) =
            let (fits, is) = places_have_points program k (i - length old) there (omega (arith, ends)) in
            let back : point_of program k (i - length old) ≡ i = omega arith in
            added i d behind below ∙ sym (ap (λ (at : Place). at.procedure) is) ∙ ap (procedure_at program) back
