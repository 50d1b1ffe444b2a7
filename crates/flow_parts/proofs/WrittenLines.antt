-- Lines of remarks that are in a part, point by point.
use Rattle.std.proofs.Common.{◌≡◌, refl, ℕ, Bool, true, false, List, [], ◌∷◌, ◌++◌, cond, if◌then◌else◌, filter, flat_map, sym}
use Rattle.std.proofs.Common.{ap, ◌∙◌}
use Rattle.std.proofs.lemmas.List.Folds.{flat_map-map}
use Rattle.std.proofs.lemmas.Grind.{flat_map-append}
use Rattle.flow_graph.specs.Points.{points}
use Rattle.tac_program.specs.Programs.{Program}
use Rattle.flow_reports.specs.Reports.{Knowledge, remark_line, remarks_at}
use Rattle.flow_reports.specs.Listed.{placed_at, remarks_of}
use Rattle.flow_reports.specs.declared.listed.PlacedRemark.{PlacedRemark}
use Rattle.flow_reports.specs.declared.remark.Remark.{Remark}
use Rattle.flow_parts.specs.Cuts.{is_in_part}
use Rattle.flow_parts.specs.Parts.{part_lines, part_remarks}

-- the texts of those that pass a test
passing : {A B : Type 0} (text_of : A → List B) (test : A → Bool) (xs : List A)
    → flat_map (λ x. if test x then text_of x else []) xs ≡ flat_map text_of (filter test xs)
passing text_of test [] = refl
passing text_of test (x ∷ xs) = by_test (test x) (passing text_of test xs)
  where
    by_test : (b : Bool) → flat_map (λ x. if test x then text_of x else []) xs ≡ flat_map text_of (filter test xs)
        → (if b then text_of x else []) ++ flat_map (λ x. if test x then text_of x else []) xs
        ≡ flat_map text_of (cond b (x ∷ filter test xs) (filter test xs))
    by_test true rest = ap (λ ys. text_of x ++ ys) rest
    by_test false rest = rest

-- what is written at a point, by what is written of a remark there
abbrev pub texts_in : (text_of : ℕ → Remark → List ℕ) → Program → Knowledge → (count part : ℕ) → ℕ → List ℕ
texts_in text_of program known count part point =
    flat_map (λ remark. if is_in_part program count part remark then text_of point remark else []) (remarks_at program known point)

texts_at_points : (text_of : ℕ → Remark → List ℕ) (program : Program) (known : Knowledge) (count part : ℕ) (ps : List ℕ)
    → flat_map (texts_in text_of program known count part) ps
    ≡ flat_map (λ placed. if is_in_part program count part placed.remark then text_of placed.point placed.remark else [])
    (flat_map (λ point. placed_at point (remarks_at program known point)) ps)
texts_at_points text_of program known count part [] = refl
texts_at_points text_of program known count part (point ∷ ps) =
    ap (λ t. texts_in text_of program known count part point ++ t) (texts_at_points text_of program known count part ps)
    ∙ ap (λ t. t ++ flat_map all (flat_map (λ p. placed_at p (remarks_at program known p)) ps))
    (sym (flat_map-map all place (remarks_at program known point)))
    ∙ sym (flat_map-append all (placed_at point (remarks_at program known point)) (flat_map (λ p. placed_at p (remarks_at program known p)) ps))
  where
    all : PlacedRemark → List ℕ
    all = λ placed. if is_in_part program count part placed.remark then text_of placed.point placed.remark else []

    place : Remark → PlacedRemark
    place = λ remark. record { point = point; remark = remark }

pub texts_are : (text_of : ℕ → Remark → List ℕ) (program : Program) (known : Knowledge) (count part : ℕ)
    → flat_map (texts_in text_of program known count part) (points program)
    ≡ flat_map (λ (placed : PlacedRemark). text_of placed.point placed.remark) (part_remarks program known count part)
texts_are text_of program known count part =
    texts_at_points text_of program known count part (points program)
    ∙ passing (λ (placed : PlacedRemark). text_of placed.point placed.remark) (λ placed. is_in_part program count part placed.remark)
    (remarks_of program known)

-- of the lines of a report
abbrev pub lines_in : Program → Knowledge → (count part : ℕ) → ℕ → List ℕ
lines_in program known count part = texts_in (remark_line program) program known count part

pub lines_are : (program : Program) (known : Knowledge) (count part : ℕ)
    → flat_map (lines_in program known count part) (points program) ≡ part_lines program (part_remarks program known count part)
lines_are program known count part = texts_are (remark_line program) program known count part
