-- All lints, put point by point
use Rattle.std.proofs.Common.{Bool, true, false, cond, zero, if◌then◌else◌, length-append}
use Rattle.std.proofs.Common.{◌≡◌, ℕ, suc, ◌+◌, ◌-◌, ◌<◌, ◌≤◌, List, [], ◌∷◌, ◌++◌, map, flat_map, drop, length, refl, sym, ap, ◌∙◌, append_assoc, arith}
use Rattle.std.specs.List.{filter, range_with_len}
use Rattle.std.proofs.lemmas.List.{map-append}
use Rattle.flow_graph.specs.Points.{point_count}
use Rattle.flow_graph.proofs.lists.NumberListLemmas.{filter-range_more}
use Rattle.flow_graph.proofs.lists.Ranges.{flat_map-range_more}
use Rattle.flow_lints.specs.Lints.{LintKnowledge, lints_at, lints_placed_at}
use Rattle.flow_lints.specs.code.Lints.{behind, front}
use Rattle.flow_lints.specs.declared.lint.Lint.{Lint}
use Rattle.flow_lints.specs.declared.lint.Lint.TheVariants.{Told}
use Rattle.flow_lints.specs.declared.lint.PlacedLint.{PlacedLint}
use Rattle.flow_lints.proofs.Fronts.{first_in_front, listed, others_behind}
use Rattle.flow_reports.specs.Listed.{placed_at, remarks_of}
use Rattle.flow_reports.specs.Reports.{remarks_at}
use Rattle.flow_reports.specs.declared.listed.PlacedRemark.{PlacedRemark}
use Rattle.flow_reports.specs.declared.remark.Remark.{Remark}
use Rattle.tac_program.specs.Programs.{Program}

-- remarks as lints at a point
abbrev told_there : ℕ → List Remark → List PlacedLint
told_there point remarks = lints_placed_at point (map (λ r. Told r) remarks)

-- four kinds, one after another
pub four_kinds : (point : ℕ) (old one two three four : List PlacedLint) (uncalled : List Lint) (unreached kept dead : List Remark)
    → one ≡ old ++ lints_placed_at point uncalled → two ≡ one ++ told_there point unreached → three ≡ two ++ told_there point kept
    → four ≡ three ++ told_there point dead
    → four ≡ old ++ lints_placed_at point (uncalled ++ map (λ r. Told r) (unreached ++ kept ++ dead))
four_kinds point old one two three four uncalled unreached kept dead first second third fourth =
    fourth
    ∙ ap (λ ls. ls ++ told_there point dead) third
    ∙ ap (λ ls. (ls ++ told_there point kept) ++ told_there point dead) second
    ∙ ap (λ ls. ((ls ++ told_there point unreached) ++ told_there point kept) ++ told_there point dead) first
    ∙ regroup (lints_placed_at point uncalled) (told_there point unreached) (told_there point kept) (told_there point dead)
    ∙ ap (λ ls. old ++ ls) (sym parts)
  where
    regroup : (a b c d : List PlacedLint) → (((old ++ a) ++ b) ++ c) ++ d ≡ old ++ (a ++ ((b ++ c) ++ d))
    regroup a b c d = simp append_assoc

    parts : lints_placed_at point (uncalled ++ map (λ r. Told r) (unreached ++ kept ++ dead))
        ≡ lints_placed_at point uncalled ++ ((told_there point unreached ++ told_there point kept) ++ told_there point dead)
    parts = simp map-append

-- The lints of the points before one are put, and the remarks from there on stand from a place on.
pub record LintsSoFar (program : Program) (known : LintKnowledge) (remarks : List PlacedRemark) (point next : ℕ) (lints : List PlacedLint) : Type 0 where
  pub within : next ≤ length remarks
  pub left : drop next remarks ≡ listed (remarks_at program known.report) point (point_count program - point)
  pub put : lints ≡ flat_map (λ p. lints_placed_at p (lints_at program known p)) (range_with_len 0 point)

module _ (program : Program) (known : LintKnowledge) (remarks : List PlacedRemark) where
  pub none_so_far : remarks ≡ remarks_of program known.report → LintsSoFar program known remarks 0 0 []
  none_so_far are =
      let all : point_count program ≡ point_count program - 0 = omega arith in
      record { within = omega arith; left = are ∙ ap (listed (remarks_at program known.report) 0) all; put = refl }

  left_more : (point : ℕ) → point < point_count program → point_count program - point ≡ suc (point_count program - (point + 1))
  left_more point below = omega (arith, below)

  pub front_of_point : (point next : ℕ) (lints : List PlacedLint) → point < point_count program → LintsSoFar program known remarks point next lints
      → front point (drop next remarks) ≡ placed_at point (remarks_at program known.report point)
  front_of_point point next lints below so_far =
      ap (front point) (so_far.left ∙ ap (listed (remarks_at program known.report) point) (left_more point below))
      ∙ first_in_front (remarks_at program known.report) point (point_count program - (point + 1))

  pub one_more : (point next after : ℕ) (lints new : List PlacedLint) → point < point_count program → LintsSoFar program known remarks point next lints
      → after ≤ length remarks → drop after remarks ≡ behind point (drop next remarks)
      → new ≡ lints ++ lints_placed_at point (lints_at program known point)
      → LintsSoFar program known remarks (point + 1) after new
  one_more point next after lints new below so_far within left put = record {
    within = within;
    left = left ∙ ap (behind point) (so_far.left ∙ ap (listed (remarks_at program known.report) point) (left_more point below))
        ∙ others_behind (remarks_at program known.report) point (point_count program - (point + 1));
    put = put ∙ ap (λ ls. ls ++ lints_placed_at point (lints_at program known point)) so_far.put
        ∙ sym (flat_map-range_more (λ p. lints_placed_at p (lints_at program known p)) point);
  }

-- no more numbers pass a test than there are
pub few_pass : (test : ℕ → Bool) (a n : ℕ) → length (filter test (range_with_len a n)) ≤ n
few_pass test a zero = omega arith
few_pass test a (suc n) = go (test a) (few_pass test (a + 1) n)
  where
    go : (passes : Bool) → length (filter test (range_with_len (a + 1) n)) ≤ n
        → length (cond passes (a ∷ filter test (range_with_len (a + 1) n)) (filter test (range_with_len (a + 1) n))) ≤ suc n
    go true few = omega (arith, few)
    go false few = omega (arith, few)

-- one number more is counted, if it passes
pub one_counted : (test : ℕ → Bool) (n count after : ℕ) (passes : Bool) → count ≡ length (filter test (range_with_len 0 n)) → passes ≡ test n
    → after ≡ (if passes then count + 1 else count) → after ≡ length (filter test (range_with_len 0 (n + 1)))
one_counted test n count after passes counted is after_is =
    after_is ∙ go passes ∙ sym (length-append (filter test (range_with_len 0 n)) (if passes then n ∷ [] else []))
    ∙ ap (λ b. length (filter test (range_with_len 0 n) ++ (if b then n ∷ [] else []))) is ∙ ap length (sym (filter-range_more test n))
  where
    go : (b : Bool) → (if b then count + 1 else count) ≡ length (filter test (range_with_len 0 n)) + length (if b then n ∷ [] else [])
    go true = omega (arith, counted)
    go false = omega (arith, counted)
