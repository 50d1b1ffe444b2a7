-- Solved words put into rows, and the rows of a slice word by word
use Rattle.std.proofs.Common.{◌≡◌, ◌<◌, ◌≤◌, ◌+◌, ◌-◌, ◌*◌, ◌/◌, ◌%◌, ◌⊎◌, ◌↔◌, inl, inr, ◌||◌, length, get_or, true, Bool, ℕ, List, arith, refl, sym}
use Rattle.std.proofs.Common.{◌∙◌, subst, ap, nat_le}
use Rattle.std.proofs.lemmas.Bool.{cases_eq, cases_lt, false≢true, or_left, or_right, or_cases, and_parts, and_from}
use Rattle.bit_rows.specs.RowSet.{RowSet, contains, with_words}
use Rattle.bit_rows.specs.RowTable.{RowTable, set_at, with_set, blank_table}
use Rattle.bit_rows.specs.Words.{has_bit, masks_have}
use Rattle.bit_rows.proofs.sets.SetLaws.{HasRange-with_words, contains-empty_set, contains-with_words}
use Rattle.bit_rows.proofs.words.WordBits.{has_bit-zero}
use Rattle.std.proofs.lemmas.List.{get_or_past}
use Rattle.bit_rows.proofs.sets.Tables.{IsUniform-replaced, set_at-with_set_same, set_at-with_set_other, set_at-blank_table}
use Rattle.flow_graph.specs.Problems.{may_shape}
use Rattle.gen_kill.specs.Selections.{Selection, column_transfer}
use Rattle.flow_graph.specs.WellFormed.{IsWellFormed}
use Rattle.flow_graph.specs.Points.{point_count}
use Rattle.flow_links.specs.Shapes.{LinkedProgram, directed_shape}
use Rattle.summary_equations.specs.Equations.{HasFlag, IsInSolution}
use Rattle.gk_solve.specs.Solved.{AreSolved, SliceTable, direction_of, word_at}
use Rattle.gk_solve.specs.Tables.Flags.{ArePathFlags, IsFlagged}
use Rattle.flow_rows.specs.Solutions.{IsLeastSolution, IsMeetOverPaths}
use Rattle.flow_rows.specs.code.Rows.{IsInWords, IsPut, TellsBelow}
use Rattle.summary_equations.proofs.paths.Meet.{solution_is_meet}

-- the words of the next point, put into its row
module _ (Bit : ℕ → ℕ → Type 0) (first now : RowTable) (n from : ℕ) (masks : List ℕ) (within : n < length first.flags)
    (before : IsPut (λ point b. (point < n) × Bit point b) first now)
    (are : (b : ℕ) → first.lo ≤ b → b < first.hi → (masks_have masks from (b / 64) (b % 64) ≡ true) ↔ Bit n b) where
  abbrev after : RowTable
  after = with_set now n (with_words (set_at now n) from masks)

  here : (b : ℕ) → first.lo ≤ b → b < first.hi
      → (contains (set_at after n) b ≡ true) ↔ ((contains (set_at first n) b ≡ true) ⊎ ((n < n + 1) × Bit n b))
  here b low high =
      let range = before.uniform.ranges n in
      let row = set_at now n in
      let flags : length now.flags ≡ length first.flags = ap length before.same_flags in
      let is : contains (set_at after n) b ≡ (contains row b || masks_have masks from (b / 64) (b % 64))
      = ap (λ (s : RowSet). contains s b)
      (set_at-with_set_same now n (with_words row from masks) (omega (arith, within, before.uniform.count, flags)))
      ∙ contains-with_words row from masks b (omega (arith, range.lo, before.same_lo, low)) (omega (arith, range.hi, before.same_hi, high)) in (
        λ has. elim (or_cases (contains row b) (masks_have masks from (b / 64) (b % 64)) (sym is ∙ has)) [
          | inl old ↦ earlier ((before.bit n b within low high).0 old)
          | inr new ↦ inr (omega arith, (are b low high).0 new)
        ],
        λ either. is ∙ put either,
      )
    where
      earlier : (contains (set_at first n) b ≡ true) ⊎ ((n < n) × Bit n b) → (contains (set_at first n) b ≡ true) ⊎ ((n < n + 1) × Bit n b)
      earlier (inl old) = inl old
      earlier (inr new) = absurd (omega (arith, new.0))

      put : (contains (set_at first n) b ≡ true) ⊎ ((n < n + 1) × Bit n b)
          → (contains (set_at now n) b || masks_have masks from (b / 64) (b % 64)) ≡ true
      put (inl old) = or_left (contains (set_at now n) b) (masks_have masks from (b / 64) (b % 64)) ((before.bit n b within low high).1 (inl old))
      put (inr new) = or_right (contains (set_at now n) b) (masks_have masks from (b / 64) (b % 64)) ((are b low high).1 new.1)

  elsewhere : (p b : ℕ) → (p ≡ n → ⊥) → p < length first.flags → first.lo ≤ b → b < first.hi
      → (contains (set_at after p) b ≡ true) ↔ ((contains (set_at first p) b ≡ true) ⊎ ((p < n + 1) × Bit p b))
  elsewhere p b other inside low high =
      let same : set_at after p ≡ set_at now p = set_at-with_set_other now n p (with_words (set_at now n) from masks) other in
      let old = before.bit p b inside low high in (
        λ has. more (old.0 (ap (λ (s : RowSet). contains s b) (sym same) ∙ has)),
        λ either. ap (λ (s : RowSet). contains s b) same ∙ old.1 (less either),
      )
    where
      more : (contains (set_at first p) b ≡ true) ⊎ ((p < n) × Bit p b) → (contains (set_at first p) b ≡ true) ⊎ ((p < n + 1) × Bit p b)
      more (inl old) = inl old
      more (inr new) = inr (omega (arith, new.0), new.1)

      less : (contains (set_at first p) b ≡ true) ⊎ ((p < n + 1) × Bit p b) → (contains (set_at first p) b ≡ true) ⊎ ((p < n) × Bit p b)
      less (inl old) = inl old
      less (inr new) = inr (below (cases_lt p n) new.0, new.1)
        where
          below : (p < n) ⊎ (n ≤ p) → p < n + 1 → p < n
          below (inl h) _ = h
          below (inr h) most = absurd (other (omega arith))

  pub put_more : IsPut (λ point b. (point < n + 1) × Bit point b) first after
  put_more = record {
    uniform = IsUniform-replaced now n (set_at now n) (with_words (set_at now n) from masks) before.uniform
        (omega (arith, within, ap length before.same_flags)) refl (HasRange-with_words (set_at now n) from masks);
    same_lo = before.same_lo;
    same_hi = before.same_hi;
    same_flags = before.same_flags;
    bit = λ p b inside low high. elim (cases_eq p n) [
      | inl same ↦ subst (λ (i : ℕ). (contains (set_at after i) b ≡ true) ↔ ((contains (set_at first i) b ≡ true) ⊎ ((i < n + 1) × Bit i b)))
          (sym same) (here b low high)
      | inr other ↦ elsewhere p b other inside low high
    ];
  }

-- masks that are a slice's words at a point have its bits
pub masks_are : (slice : SliceTable) (point from : ℕ) (masks : List ℕ) → from ≡ slice.from → from + length masks ≡ slice.until
    → ((w : ℕ) → w < length masks → get_or masks w 0 ≡ word_at slice point (from + w)) → (b : ℕ)
    → (masks_have masks from (b / 64) (b % 64) ≡ true) ↔ IsInWords slice point b
unfolding masks_have
masks_are slice point from masks from_is until_is each b = (
  λ has.
      let parts = and_parts (nat_le from (b / 64)) (has_bit (get_or masks (b / 64 - from) 0) (b % 64)) has in
      let low : from ≤ b / 64 = grind (arith, parts.0) in
      elim (cases_lt (b / 64 - from) (length masks)) [
        | inl inside ↦ (omega (arith, low, from_is), omega (arith, inside, low, until_is), sym (here low inside) ∙ parts.1)
        | inr past ↦ absurd
            (false≢true (sym (has_bit-zero (b % 64)) ∙ (ap (λ n. has_bit n (b % 64)) (sym (get_or_past masks (b / 64 - from) 0 past)) ∙ parts.1)))
      ],
  λ there.
      let low : from ≤ b / 64 = omega (arith, there.0, from_is) in
      let inside : b / 64 - from < length masks = omega (arith, low, there.1, until_is) in
      let is_low : nat_le from (b / 64) ≡ true = grind (arith, low) in
      and_from (nat_le from (b / 64)) (has_bit (get_or masks (b / 64 - from) 0) (b % 64)) is_low (here low inside ∙ there.2),
)
  where
    here : from ≤ b / 64 → b / 64 - from < length masks
        → has_bit (get_or masks (b / 64 - from) 0) (b % 64) ≡ has_bit (word_at slice point (b / 64)) (b % 64)
    here low inside =
        let back : from + (b / 64 - from) ≡ b / 64 = omega (arith, low) in
        ap (λ n. has_bit n (b % 64)) (each (b / 64 - from) inside) ∙ ap (λ n. has_bit (word_at slice point n) (b % 64)) back

-- ---- a slice
-- put words tell more
pub tells_more : (form : Selection) (slice : SliceTable) (old new : RowTable) (limit lo hi : ℕ) → AreSolved form slice
    → slice.points ≡ point_count form.program → slice.lo ≡ lo → slice.hi ≡ hi
    → limit ≡ 64 * slice.from → slice.from ≤ slice.until → IsPut (IsInWords slice) old new → TellsBelow form limit lo hi old
    → TellsBelow form (64 * slice.until) lo hi new
tells_more form slice old new limit lo hi solved points same_lo same_hi limit_is ordered put tells = record {
  same_lo = put.same_lo ∙ tells.same_lo;
  same_hi = put.same_hi ∙ tells.same_hi;
  count = ap length put.same_flags ∙ tells.count;
  flag = λ point within. subst (λ (flags : List Bool). IsFlagged flags point ↔ HasFlag (may_shape form.program form.analysis) point)
      (sym put.same_flags) (tells.flag point within);
  bit = λ point b within low high.
      let had = tells.bit point b within low high in
      let has = put.bit point b (omega (arith, tells.count, within)) (omega (arith, low, tells.same_lo)) (omega (arith, high, tells.same_hi)) in
      (λ there. from point b within low high had (has.0 there), λ is. has.1 (to point b within low high had is));
}
  where
    from : (point b : ℕ) → point < point_count form.program → lo ≤ b → b < hi
        → (contains (set_at old point) b ≡ true)
        ↔ ((b < limit) × IsInSolution (may_shape form.program form.analysis) (column_transfer form b) point)
        → (contains (set_at old point) b ≡ true) ⊎ IsInWords slice point b
        → (b < 64 * slice.until) × IsInSolution (may_shape form.program form.analysis) (column_transfer form b) point
    from point b within low high had (inl before) = let h = had.0 before in (omega (arith, h.0, limit_is, ordered), h.1)
    from point b within low high had (inr new) =
        let same : 64 * (b / 64) + b % 64 ≡ b = omega arith in
        let is = (solved point (b / 64) (b % 64) (omega (arith, within, points)) new.0 new.1 (omega arith)).0 new.2 in (
          omega (arith, new.1),
          subst (λ n. IsInSolution (may_shape form.program form.analysis) (column_transfer form n) point) same is.2,
        )

    to : (point b : ℕ) → point < point_count form.program → lo ≤ b → b < hi
        → (contains (set_at old point) b ≡ true)
        ↔ ((b < limit) × IsInSolution (may_shape form.program form.analysis) (column_transfer form b) point)
        → (b < 64 * slice.until) × IsInSolution (may_shape form.program form.analysis) (column_transfer form b) point
        → (contains (set_at old point) b ≡ true) ⊎ IsInWords slice point b
    to point b within low high had is = elim (cases_lt b limit) [
      | inl earlier ↦ inl (had.1 (earlier, is.1))
      | inr later ↦
          let same : 64 * (b / 64) + b % 64 ≡ b = omega arith in
          let first : slice.from ≤ b / 64 = omega (arith, later, limit_is) in
          let last : b / 64 < slice.until = omega (arith, is.0) in
          inr (
            first,
            last,
            (solved point (b / 64) (b % 64) (omega (arith, within, points)) first last (omega arith)).1 (
              omega (arith, low, same_lo, same),
              omega (arith, high, same_hi, same),
              subst (λ n. IsInSolution (may_shape form.program form.analysis) (column_transfer form n) point) (sym same) is.1,
            ),
          )
    ]

-- blank rows tell the flags, and nothing below their first bit
pub blank_tells : (form : Selection) (linked : LinkedProgram) → linked ≡ direction_of form → (limit lo hi : ℕ) (flags : List Bool) (rows : RowTable)
    → limit ≤ lo
    → ArePathFlags (directed_shape linked) (point_count linked.program) flags → rows ≡ blank_table flags lo hi → TellsBelow form limit lo hi rows
blank_tells form linked same limit lo hi flags rows first are blank =
    let are_flags = subst (λ (l : LinkedProgram). ArePathFlags (directed_shape l) (point_count l.program) flags) same are in
    subst (λ (t : RowTable). TellsBelow form limit lo hi t) (sym blank) (record {
      same_lo = refl;
      same_hi = refl;
      count = are_flags.count;
      flag = λ point within. are_flags.exact point;
      bit = λ point b within low high. (
        λ has.
            absurd (false≢true (sym (ap (λ (s : RowSet). contains s b) (set_at-blank_table flags lo hi point) ∙ contains-empty_set lo hi b) ∙ has)),
        λ solved. absurd (omega (arith, solved.0)),
      );
    })

-- past the last bit all is told
pub tells_all : (form : Selection) (limit lo hi : ℕ) (rows : RowTable) → (lo < hi → hi ≤ limit) → TellsBelow form limit lo hi rows
    → IsLeastSolution form lo hi rows
tells_all form limit lo hi rows whole tells = record {
  same_lo = tells.same_lo;
  same_hi = tells.same_hi;
  count = tells.count;
  flag = tells.flag;
  bit = λ point b within low high.
      let is = tells.bit point b within low high in
      let below : hi ≤ limit = whole (omega arith) in
      (λ has. (is.0 has).1, λ solved. is.1 (omega arith, solved));
}

-- the least solution is the meet over paths
pub solution_to_meet : (form : Selection) (lo hi : ℕ) (rows : RowTable) → IsWellFormed (may_shape form.program form.analysis)
    → IsLeastSolution form lo hi rows → IsMeetOverPaths form lo hi rows
solution_to_meet form lo hi rows formed solution =
    let shape = may_shape form.program form.analysis in
    record {
      same_lo = solution.same_lo;
      same_hi = solution.same_hi;
      count = solution.count;
      flag = λ point within.
          let is = solution.flag point within in
          let meet = (solution_is_meet shape (column_transfer form 0) point formed).0 in
          (λ flag. meet.0 (is.0 flag), λ path. is.1 (meet.1 path));
      bit = λ point b within low high.
          let is = solution.bit point b within low high in
          let meet = (solution_is_meet shape (column_transfer form b) point formed).1 in
          (λ has. meet.0 (is.0 has), λ path. is.1 (meet.1 path));
    }
