-- What stands around remarks is found by their points
use Rattle.std.proofs.Common.{◌≡◌, ◌∙◌, ℕ, ◌+◌, ◌-◌, ◌<◌, ◌≤◌, Bool, true, false, List, [], ◌∷◌, ◌++◌, length, map, get_or, slice_index}
use Rattle.std.proofs.Common.{if◌then◌else◌, refl, sym, ap, ap₂, subst, take, arith, Option, Some, None}
use Rattle.std.specs.Prelude.{All, Contains, IfSome, MatchOption}
use Rattle.std.proofs.lemmas.List.{get_or-map, get_or_default, length-map, map-append, take_more}
use Rattle.std.proofs.lemmas.List.Elements.{All-from_get_or, All-get_or, All-head, All-push, All-tail, All-weaker}
use Rattle.std.proofs.lemmas.Map.Made.{Contains-tail}
use Rattle.std.proofs.lemmas.Bool.{eq-eqb, eqb-true}
use Rattle.flow_graph.specs.Points.{end_place, point_count, procedure_at}
use Rattle.flow_graph.proofs.places.PointLemmas.{places_have_points, points_have_places}
use Rattle.flow_reasons.specs.Reached.{IsLastReached, NoneReachedFrom}
use Rattle.flow_reports.specs.declared.listed.PlacedRemark.{PlacedRemark}
use Rattle.flow_reports.specs.declared.remark.Remark.{Remark}
use Rattle.flow_reports.specs.declared.remark.Remark.TheVariants.{NeverReached, Unset, Computed, VeryBusy, Dead}
use Rattle.tac_program.specs.Programs.{Program}
use Rattle.flow_paths.specs.Sets.{AreExactAt, set_fields}
use Rattle.flow_paths.specs.code.Arounds.{AreAroundsOf, AreByPoint, AroundTable, IsAround, IsAskable, IsExactFor, Kept, around_at, kept_among}
use Rattle.flow_paths.specs.code.Arounds.{kept_at, kept_of, nothing, remark_at, remarks_in, same_remark, sets_of}
use Rattle.flow_paths.specs.code.UnsetPaths.{between, numbers_of}
use Rattle.flow_paths.specs.declared.around.Around.{Around}
use Rattle.flow_paths.proofs.lists.Between.{among_between, between_first, get_or-between, length-between}
use Rattle.flow_paths.proofs.lists.Keyed.{keyed_at, places_of_each}

-- the point before one in its procedure is a point
pub last_there : (program : Program) (point : ℕ) (last : Option ℕ) → point < point_count program
    → MatchOption last (NoneReachedFrom program point 0) (λ found. IsLastReached program point found) → IfSome last (λ p. p < point_count program)
last_there program point None below is = tt
last_there program point (Some found) below is =
    let here = points_have_places program point below in
    let inside : is.at ≤ end_place program (procedure_at program point) = omega (arith, here.place, is.before) in
    omega (arith, (places_have_points program (procedure_at program point) is.at here.procedure inside).0, is.is)

-- two remarks are told apart
pub same_itself : (remark : Remark) → same_remark remark remark ≡ true
same_itself NeverReached = refl
same_itself (Unset v) = eq-eqb v v refl
same_itself (Computed v) = eq-eqb v v refl
same_itself (VeryBusy v) = eq-eqb v v refl
same_itself (Dead v) = eq-eqb v v refl

pub same_is : (one other : Remark) → same_remark one other ≡ true → one ≡ other
same_is NeverReached NeverReached is = refl
same_is NeverReached (Unset w) is = absurd (cc is)
same_is NeverReached (Computed w) is = absurd (cc is)
same_is NeverReached (VeryBusy w) is = absurd (cc is)
same_is NeverReached (Dead w) is = absurd (cc is)
same_is (Unset v) NeverReached is = absurd (cc is)
same_is (Unset v) (Unset w) is = ap (λ n. Unset n) (eqb-true v w is)
same_is (Unset v) (Computed w) is = absurd (cc is)
same_is (Unset v) (VeryBusy w) is = absurd (cc is)
same_is (Unset v) (Dead w) is = absurd (cc is)
same_is (Computed v) NeverReached is = absurd (cc is)
same_is (Computed v) (Unset w) is = absurd (cc is)
same_is (Computed v) (Computed w) is = ap (λ n. Computed n) (eqb-true v w is)
same_is (Computed v) (VeryBusy w) is = absurd (cc is)
same_is (Computed v) (Dead w) is = absurd (cc is)
same_is (VeryBusy v) NeverReached is = absurd (cc is)
same_is (VeryBusy v) (Unset w) is = absurd (cc is)
same_is (VeryBusy v) (Computed w) is = absurd (cc is)
same_is (VeryBusy v) (VeryBusy w) is = ap (λ n. VeryBusy n) (eqb-true v w is)
same_is (VeryBusy v) (Dead w) is = absurd (cc is)
same_is (Dead v) NeverReached is = absurd (cc is)
same_is (Dead v) (Unset w) is = absurd (cc is)
same_is (Dead v) (Computed w) is = absurd (cc is)
same_is (Dead v) (VeryBusy w) is = absurd (cc is)
same_is (Dead v) (Dead w) is = ap (λ n. Dead n) (eqb-true v w is)

abbrev pub no_remark : PlacedRemark
no_remark = record { point = 0; remark = NeverReached }

abbrev remark_of : Around → PlacedRemark
remark_of around = around.placed

-- the remark of a number, and what is kept of it
pub remark_read : (arounds : List Around) (k : ℕ) (d : Around) → k < length arounds → remark_at arounds k ≡ (get_or arounds k d).placed
remark_read arounds k d below = get_or-map remark_of arounds k d no_remark below

pub kept_read : (arounds : List Around) (k : ℕ) (d : Around) → k < length arounds → kept_at arounds k ≡ kept_of (get_or arounds k d)
kept_read arounds k d below = get_or-map kept_of arounds k d nothing below

-- the first of some numbers, and the others
module _ (arounds : List Around) (places : List ℕ) (n b : ℕ) (remark : Remark) (around : Around) (below : n < b)
    (within : slice_index places n < length arounds) (is : around ≡ get_or arounds (slice_index places n) around) where
  its_remark : (remark_at arounds (slice_index places n)).remark ≡ around.placed.remark
  its_remark =
      ap (λ (p : PlacedRemark). p.remark) (remark_read arounds (slice_index places n) around within) ∙ ap (λ (a : Around). a.placed.remark) (sym is)

  by_first : (t : Bool) → same_remark around.placed.remark remark ≡ t
      → kept_among arounds (between places n b) remark
      ≡ (if t then kept_at arounds (slice_index places n) else kept_among arounds (between places (n + 1) b) remark)
  by_first t test =
      ap (λ ns. kept_among arounds ns remark) (between_first places n b below)
      ∙ ap (λ (c : Bool). if c then kept_at arounds (slice_index places n) else kept_among arounds (between places (n + 1) b) remark)
      (ap (λ (r : Remark). same_remark r remark) its_remark ∙ test)

  pub first_kept : same_remark around.placed.remark remark ≡ true → kept_of around ≡ kept_among arounds (between places n b) remark
  first_kept same =
      sym (by_first true same ∙ kept_read arounds (slice_index places n) around within ∙ ap (λ (a : Around). kept_of a) (sym is))

  pub others_kept : same_remark around.placed.remark remark ≡ false
      → kept_among arounds (between places n b) remark ≡ kept_among arounds (between places (n + 1) b) remark
  others_kept other = by_first false other

-- what stands at a place of a point is the number of a remark
pub around_there : (table : AroundTable) (point place : ℕ) → AreByPoint table → point + 1 < length table.starts
    → place < slice_index table.starts (point + 1) → slice_index table.places place < length table.arounds
around_there table point place groups below high =
    let inside : point < length table.starts - 1 = omega (arith, below) in
    let there : place < length table.places = omega (arith, groups.within point inside, groups.size, high) in
    omega (
      arith,
      groups.in_range place there,
      length-map (remarks_in table.arounds) (λ (one : PlacedRemark). one.point),
      length-map table.arounds remark_of,
    )

-- what is kept of a remark is exact
kept_exact : (program : Program) (arounds : List Around) (k : ℕ) → All (IsAround program) arounds → k < length arounds
    → IsExactFor program (remark_at arounds k) (kept_at arounds k)
kept_exact program [] k all below = absurd (let none : ⊥ = omega (arith, below) in none)
kept_exact program (d ∷ arounds) k all below =
    let is : IsAround program (get_or (d ∷ arounds) k d) = All-get_or (IsAround program) (d ∷ arounds) k d below all in
    let of : (get_or (d ∷ arounds) k d).placed ≡ remark_at (d ∷ arounds) k = sym (remark_read (d ∷ arounds) k d below) in
    let kept : kept_of (get_or (d ∷ arounds) k d) ≡ kept_at (d ∷ arounds) k = sym (kept_read (d ∷ arounds) k d below) in
    subst (λ (p : PlacedRemark). IsExactFor program p (kept_at (d ∷ arounds) k)) of
    (subst (λ (one : Kept). IsExactFor program (get_or (d ∷ arounds) k d).placed one) kept is)

module _ (program : Program) (arounds : List Around) (all : All (IsAround program) arounds) (point : ℕ) (remark : Remark) (m : ℕ)
    (is : remark_at arounds m ≡ record { point = point; remark = remark }) where
  At : ℕ → Type 0
  At k = (k < length arounds) × ((remark_at arounds k).point ≡ point)

  -- among the remarks on a point, one of which is this one
  found_among : (numbers : List ℕ) → All At numbers → Contains numbers m
      → IsExactFor program (record { point = point; remark = remark }) (kept_among arounds numbers remark)
  unfolding At
  found_among [] each has = absurd (let none : ⊥ = omega (arith, has.1) in none)
  found_among (k ∷ numbers) each has =
      by_test (same_remark (remark_at arounds k).remark remark) refl (λ rest. found_among numbers (All-tail At k numbers each) rest)
    where
      here : (k < length arounds) × ((remark_at arounds k).point ≡ point)
      here = All-head At k numbers each

      by_test : (b : Bool) → same_remark (remark_at arounds k).remark remark ≡ b
          → (Contains numbers m → IsExactFor program (record { point = point; remark = remark }) (kept_among arounds numbers remark))
          → IsExactFor program (record { point = point; remark = remark })
          (if b then kept_at arounds k else kept_among arounds numbers remark)
      by_test true same further =
          let mine : remark_at arounds k ≡ record { point = point; remark = remark } =
          ap₂ (λ (p : ℕ) (r : Remark). let one : PlacedRemark = record { point = p; remark = r } in one) here.1
          (same_is (remark_at arounds k).remark remark same) in
          subst (λ (p : PlacedRemark). IsExactFor program p (kept_at arounds k)) mine (kept_exact program arounds k all here.0)
      by_test false other further =
          further
          (Contains-tail k numbers m
          (λ (same : k ≡ m). absurd (cc (sym other
          ∙ ap (λ (j : ℕ). same_remark (remark_at arounds j).remark remark) same
          ∙ ap (λ (p : PlacedRemark). same_remark p.remark remark) is ∙ same_itself remark)))
          has)

-- the sets of all remarks have what is kept of one
spread : (at : ℕ → Remark → Kept) (program : Program) (point : ℕ) (remark : Remark)
    → IsExactFor program (record { point = point; remark = remark }) (at point remark) → AreExactAt (sets_of at) program point remark
spread at program point NeverReached is = is
spread at program point (Unset v) is = is
spread at program point (Computed v) is = is
spread at program point (VeryBusy v) is = is
spread at program point (Dead v) is = is

-- the numbers of a point are those of remarks on it
numbers_are : (table : AroundTable) (point : ℕ) → AreByPoint table → point < length table.starts - 1
    → All (λ k. (k < length table.arounds) × ((remark_at table.arounds k).point ≡ point)) (numbers_of table.starts table.places point)
numbers_are table point groups below =
    let first : ℕ = slice_index table.starts point in
    let end : ℕ = slice_index table.starts (point + 1) in
    All-from_get_or (λ k. (k < length table.arounds) × ((remark_at table.arounds k).point ≡ point)) (between table.places first end) 0
    (λ i within.
    let inside : i < end - first = omega (arith, within, length-between table.places first end) in
    let at = keyed_at (remarks_in table.arounds) (λ one. one.point) no_remark (length table.starts - 1) table.starts table.places point (first + i)
    groups below (omega arith) (omega (arith, inside)) in
    let there : slice_index table.places (first + i) < length table.arounds = omega (arith, at.0, length-map table.arounds remark_of) in
    subst (λ (k : ℕ). (k < length table.arounds) × ((remark_at table.arounds k).point ≡ point))
    (sym (get_or-between table.places first end i 0 inside)) (there, at.1))

-- A remark around which something stands has it, and it is exact.
pub around_found : (program : Program) (remarks : List PlacedRemark) (table : AroundTable) → AreAroundsOf program remarks table
    → (point : ℕ) (remark : Remark) → point < point_count program → Contains remarks (record { point = point; remark = remark })
    → AreExactAt (sets_of (around_at table)) program point remark
unfolding At
around_found program remarks table are point remark below has =
    let one : PlacedRemark = record { point = point; remark = remark } in
    let kept : Contains (remarks_in table.arounds) one = subst (λ (rs : List PlacedRemark). Contains rs one) (sym are.complete) has in
    let m : ℕ = kept.0 in
    let is : remark_at table.arounds m ≡ one = get_or_default (remarks_in table.arounds) m no_remark one kept.1 ∙ kept.2 in
    let at = places_of_each (remarks_in table.arounds) (λ one. one.point) no_remark (length table.starts - 1) table.starts table.places m are.by_point kept.1 in
    let mine : (remark_at table.arounds m).point ≡ point = ap (λ (p : PlacedRemark). p.point) is in
    let low : slice_index table.starts point ≤ at.0 = subst (λ (p : ℕ). slice_index table.starts p ≤ at.0) mine at.1 in
    let high : at.0 < slice_index table.starts (point + 1) = subst (λ (p : ℕ). at.0 < slice_index table.starts (p + 1)) mine at.2 in
    let among : Contains (numbers_of table.starts table.places point) m =
    subst (λ (k : ℕ). Contains (numbers_of table.starts table.places point) k) at.3
    (among_between table.places (slice_index table.starts point) (slice_index table.starts (point + 1)) at.0 low high) in
    spread (around_at table) program point remark
    (found_among program table.arounds are.exact point remark m is (numbers_of table.starts table.places point)
    (numbers_are table point are.by_point (omega (arith, below, are.count))) among)

-- one more
pub around_put : (arounds new : List Around) (around : Around) (old : List PlacedRemark) → remarks_in arounds ≡ old → new ≡ arounds ++ around ∷ []
    → remarks_in new ≡ old ++ around.placed ∷ []
around_put arounds new around old before is =
    ap remarks_in is ∙ map-append remark_of arounds (around ∷ []) ∙ ap (λ rs. rs ++ around.placed ∷ []) before

pub exact_put : (program : Program) (arounds new : List Around) (around : Around) → new ≡ arounds ++ around ∷ [] → All (IsAround program) arounds
    → IsAround program around → All (IsAround program) new
exact_put program arounds new around is all one =
    subst (λ (xs : List Around). All (IsAround program) xs) (sym is) (All-push (IsAround program) arounds around all one)

-- the points of one more
pub points_put : (arounds : List Around) (i : ℕ) (around : Around) → i < length arounds → around ≡ get_or arounds i around
    → map (λ one. one.point) (remarks_in (take i arounds)) ++ around.placed.point ∷ []
    ≡ map (λ one. one.point) (remarks_in (take (i + 1) arounds))
points_put arounds i around below is =
    let point : PlacedRemark → ℕ = λ one. one.point in
    ap (λ (a : Around). map point (remarks_in (take i arounds)) ++ a.placed.point ∷ []) is
    ∙ sym (ap (λ (xs : List Around). map point (remarks_in xs)) (take_more arounds i around below)
    ∙ ap (map point) (map-append remark_of (take i arounds) (get_or arounds i around ∷ []))
    ∙ map-append point (remarks_in (take i arounds)) ((get_or arounds i around).placed ∷ []))

-- points are below what each of them is below
pub points_low : (remarks : List PlacedRemark) (points : List ℕ) (limit count : ℕ) → points ≡ map (λ one. one.point) remarks → count ≡ limit
    → All (λ one. one.point < limit) remarks → (i : ℕ) → i < length points → slice_index points i < count
points_low remarks points limit count are same all i below =
    let point : PlacedRemark → ℕ = λ one. one.point in
    let within : i < length remarks = omega (arith, below, ap length are, length-map remarks point) in
    let is : slice_index points i ≡ (get_or remarks i no_remark).point =
    ap (λ (ns : List ℕ). slice_index ns i) are ∙ get_or-map point remarks i no_remark 0 within in
    let low : (get_or remarks i no_remark).point < limit = All-get_or (λ (one : PlacedRemark). one.point < limit) remarks i no_remark within all in
    omega (arith, is, low, same)

-- each remark that is askable is on a point
pub askable_points : (program : Program) (remarks others : List PlacedRemark) → others ≡ remarks → All (IsAskable program) remarks
    → All (λ one. one.point < point_count program) others
askable_points program remarks others same asked =
    subst (λ (rs : List PlacedRemark). All (λ one. one.point < point_count program) rs) (sym same)
    (All-weaker (IsAskable program) (λ one. one.point < point_count program) (λ one is. omega (arith, is.next)) remarks asked)

-- a remark's fields have what is kept of it alone
only_its : (at : ℕ → Remark → Kept) (program : Program) (point : ℕ) (remark : Remark)
    → set_fields (sets_of (λ p r. at point remark)) program point remark ≡ set_fields (sets_of at) program point remark
only_its at program point NeverReached = refl
only_its at program point (Unset v) = refl
only_its at program point (Computed v) = refl
only_its at program point (VeryBusy v) = refl
only_its at program point (Dead v) = refl

-- the fields of a remark by what is read of it
pub fields_of : (table : AroundTable) (program : Program) (point : ℕ) (remark is : Remark) (read : Kept) → remark ≡ is
    → read ≡ around_at table point remark
    → set_fields (sets_of (λ p r. read)) program point is ≡ set_fields (sets_of (around_at table)) program point remark
fields_of table program point remark is read same found =
    ap (λ (kept : Kept). set_fields (sets_of (λ p r. kept)) program point is) (found ∙ ap (around_at table point) same)
    ∙ only_its (around_at table) program point is
    ∙ ap (set_fields (sets_of (around_at table)) program point) (sym same)
