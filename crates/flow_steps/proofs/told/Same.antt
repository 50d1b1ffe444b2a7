-- What is told by columns is what the definition tells
use Rattle.std.proofs.Common.{◌≡◌, ◌∙◌, ℕ, zero, suc, ◌+◌, ◌-◌, ◌<◌, Bool, not, ◌||◌, List, [], ◌∷◌, ◌++◌, map, filter}
use Rattle.std.proofs.Common.{codes, decimal, refl, ap, ap₂, arith, Contains, if◌then◌else◌}
use Rattle.std.specs.List.{list_any, range_with_len}
use Rattle.flow_graph.specs.Analyses.{is_must}
use Rattle.flow_graph.specs.Points.{end_place}
use Rattle.flow_graph.specs.Universes.{bits}
use Rattle.flow_graph.proofs.lists.Membership.{Contains-first, Contains-in_filter, Contains-in_range, Contains-later}
use Rattle.flow_views.specs.Json.{array}
use Rattle.flow_views.specs.Views.{analysis_name, points_in}
use Rattle.json_texts.specs.Changes.{numbers_in}
use Rattle.point_sets.specs.Changes.{beyond}
use Rattle.text_pieces.specs.Strings.{quoted}
use Rattle.flow_rounds.specs.Steps.{Iteration, changed_points, computes, has_changed, set_after}
use Rattle.flow_rounds.specs.code.Frames.{AreColumns, AreSized, Framed, IsOrdered, IsWithin, bit_in, iteration_of}
use Rattle.flow_steps.specs.StepTexts.{beginning_name, change_object, known_object, known_points, round_line, start_line}
use Rattle.flow_steps.specs.code.Told.{HasPoints, change_told, differs, known_told, points_of, round_told, start_told}

-- tests that agree on the elements of a list, or of a range
same_filter : (f g : ℕ → Bool) (xs : List ℕ) → ((x : ℕ) → Contains xs x → f x ≡ g x) → filter f xs ≡ filter g xs
same_filter f g [] same = refl
same_filter f g (x ∷ xs) same =
    (λ i. if same x (Contains-first x xs) i then x ∷ filter f xs else filter f xs)
    ∙ ap (λ (rest : List ℕ). if g x then x ∷ rest else rest) (same_filter f g xs (λ y at. same y (Contains-later x xs y at)))

same_texts : (f g : ℕ → List ℕ) (xs : List ℕ) → ((x : ℕ) → Contains xs x → f x ≡ g x) → map f xs ≡ map g xs
same_texts f g [] same = refl
same_texts f g (x ∷ xs) same =
    ap₂ (λ (y : List ℕ) (ys : List (List ℕ)). y ∷ ys) (same x (Contains-first x xs)) (same_texts f g xs (λ y at. same y (Contains-later x xs y at)))

same_in_range : (f g : ℕ → Bool) (first n : ℕ) → ((k : ℕ) → k < first + n → f k ≡ g k)
    → filter f (range_with_len first n) ≡ filter g (range_with_len first n)
same_in_range f g first zero same = refl
same_in_range f g first (suc n) same =
    (λ i. if same first (omega arith) i then first ∷ filter f (range_with_len (first + 1) n) else filter f (range_with_len (first + 1) n))
    ∙ ap (λ (rest : List ℕ). if g first then first ∷ rest else rest) (same_in_range f g (first + 1) n (λ k below. same k (omega (arith, below))))

same_any : (f g : ℕ → Bool) (first n : ℕ) → ((k : ℕ) → k < first + n → f k ≡ g k)
    → list_any f (range_with_len first n) ≡ list_any g (range_with_len first n)
same_any f g first zero same = refl
same_any f g first (suc n) same = λ i. same first (omega arith) i || same_any f g (first + 1) n (λ k below. same k (omega (arith, below))) i

pub sized : (framed : Framed) (rounds : ℕ) (columns : List (List Bool)) → AreColumns framed rounds columns
    → AreSized framed.points (bits framed.program framed.analysis) columns
sized framed rounds columns are = record { count = are.count; each = λ bit below. (are.each bit below).count }

module _ (framed : Framed) where
  abbrev it : Iteration
  it = iteration_of framed

  abbrev count : ℕ
  count = bits framed.program framed.analysis

  same_set : (rounds : ℕ) (columns : List (List Bool)) → AreColumns framed rounds columns → (point : ℕ) → IsWithin framed.points point
      → (bit : ℕ) → bit < count → bit_in framed.points columns point bit ≡ set_after it rounds point bit
  same_set rounds columns are point within bit below = (are.each bit below).each point within.0 within.1

  same_numbers : (f g : ℕ → Bool) → ((bit : ℕ) → bit < count → f bit ≡ g bit)
      → numbers_in framed.program framed.analysis f ≡ numbers_in framed.program framed.analysis g
  same_numbers f g same = ap (λ ns. array (map decimal ns)) (same_in_range f g 0 count (λ k below. same k (omega (arith, below))))

  module _ (rounds : ℕ) (old new : List (List Bool)) (before : AreColumns framed rounds old) (after : AreColumns framed (rounds + 1) new)
      (ordered : IsOrdered framed) where
    module _ (point : ℕ) (within : IsWithin framed.points point) where
      same_beyond : (bit : ℕ) → bit < count
          → beyond (bit_in framed.points new point) (bit_in framed.points old point) bit ≡ beyond (set_after it (rounds + 1) point)
          (set_after it rounds point) bit
      same_beyond bit below =
          ap₂ (λ (a b : Bool). beyond (λ _. a) (λ _. b) bit) (same_set (rounds + 1) new after point within bit below)
          (same_set rounds old before point within bit below)

      same_lost : (bit : ℕ) → bit < count
          → beyond (bit_in framed.points old point) (bit_in framed.points new point) bit ≡ beyond (set_after it rounds point)
          (set_after it (rounds + 1) point) bit
      same_lost bit below =
          ap₂ (λ (a b : Bool). beyond (λ _. a) (λ _. b) bit) (same_set rounds old before point within bit below)
          (same_set (rounds + 1) new after point within bit below)

      same_change : change_told framed old new point ≡ change_object it rounds point
      same_change =
          let came = same_numbers (beyond (bit_in framed.points new point) (bit_in framed.points old point))
          (beyond (set_after it (rounds + 1) point) (set_after it rounds point)) same_beyond in
          let went = same_numbers (beyond (bit_in framed.points old point) (bit_in framed.points new point))
          (beyond (set_after it rounds point) (set_after it (rounds + 1) point)) same_lost in
          λ i. codes "{\"point\":" ++ decimal point ++ codes "," ++ (codes "\"came\":" ++ came i ++ codes ",\"went\":" ++ went i) ++ codes "}"

      same_differs : differs framed old new point ≡ has_changed it rounds point
      same_differs =
          same_any (λ bit. beyond (bit_in framed.points new point) (bit_in framed.points old point) bit
          || beyond (bit_in framed.points old point) (bit_in framed.points new point) bit)
          (λ bit. beyond (set_after it (rounds + 1) point) (set_after it rounds point) bit
          || beyond (set_after it rounds point) (set_after it (rounds + 1) point) bit) 0 count
          (λ k below i. same_beyond k (omega (arith, below)) i || same_lost k (omega (arith, below)) i)

    pub same_points : filter (differs framed old new) framed.order ≡ changed_points it rounds
    same_points = same_filter (differs framed old new) (has_changed it rounds) framed.order
        (λ point at. same_differs point ((ordered.listed point).0 at).0)

    pub same_round : round_told framed old new rounds ≡ round_line it rounds
    same_round =
        let changes : map (change_told framed old new) (filter (differs framed old new) framed.order) ≡ map (change_object it rounds)
        (changed_points it rounds) =
        ap (map (change_told framed old new)) same_points
        ∙ same_texts (change_told framed old new) (change_object it rounds) (changed_points it rounds)
        (λ point at. same_change point ((ordered.listed point).0 (Contains-in_filter (has_changed it rounds) framed.order point at).0).0) in
        λ i. codes "{\"type\":\"round\",\"analysis\":" ++ quoted (analysis_name framed.analysis)
        ++ codes ",\"round\":" ++ decimal (rounds + 1)
        ++ codes ",\"changed\":" ++ array (changes i) ++ codes "}\n"

  module _ (columns : List (List Bool)) (are : AreColumns framed 0 columns) (points : HasPoints framed) where
    same_known : (point : ℕ) → IsWithin framed.points point → known_told framed columns point ≡ known_object it point
    same_known point within =
        let numbers = same_numbers (bit_in framed.points columns point) (set_after it 0 point) (same_set 0 columns are point within) in
        λ i. codes "{\"point\":" ++ decimal point ++ codes ",\"bits\":" ++ numbers i ++ codes "}"

    all_points : points_of framed.points ≡ points_in framed.program framed.procedure
    all_points =
        let first = points.first in
        let end = points.end in
        let many : framed.points.end - framed.points.first ≡ suc (end_place framed.program framed.procedure) = omega (arith, first, end) in
        λ i. range_with_len (first i) (many i)

    pub same_start : start_told framed columns (filter (λ point. not (computes it point)) (points_of framed.points)) ≡ start_line it
    same_start =
        let test : ℕ → Bool = (λ point. not (computes it point)) in
        let known : map (known_told framed columns) (filter test (points_of framed.points)) ≡ map (known_object it) (known_points it) =
        same_texts (known_told framed columns) (known_object it) (filter test (points_of framed.points)) (λ point at. same_known point
        (let (low, high) = Contains-in_range framed.points.first (framed.points.end - framed.points.first) point
        (Contains-in_filter test (points_of framed.points) point at).0 in (low, omega (arith, low, high))))
        ∙ ap (λ (ps : List ℕ). map (known_object it) (filter test ps)) all_points in
        λ i. codes "{\"type\":\"start\",\"analysis\":" ++ quoted (analysis_name framed.analysis)
        ++ codes ",\"begin\":" ++ quoted (beginning_name (is_must framed.analysis))
        ++ codes ",\"order\":" ++ array (map decimal framed.order)
        ++ codes ",\"known\":" ++ array (known i) ++ codes "}\n"
