-- Words put into the rows of the points.
use Rattle.std.proofs.Common.{◌≡◌, ◌≢◌, ℕ, ◌+◌, ◌-◌, ◌*◌, ◌/◌, ◌%◌, ◌<◌, ◌≤◌, ◌↔◌, true, false, ◌||◌, ◌&&◌, leb, List, length, get_or}
use Rattle.std.proofs.Common.{take, refl, sym, ap, ◌∙◌, subst, inl, inr, ⊎_elim, arith, add-mul}
use mathlib.Core.Logic.{dite}
use native.Mathlib.Decide.{ℕ_discrete, dec_le}
use Rattle.std.specs.Int.{bit_at}
use Rattle.std.proofs.lemmas.Bool.{both_ways, le-leb, lt-leb, and_parts, or_cases, or_left, or_right}
use Rattle.std.proofs.lemmas.List.{set-set, set-get_or, get_or_past, get_or-take}
use Rattle.bit_rows.specs.Words.{has_bit, masks_have}
use Rattle.bit_rows.specs.RowSet.{RowSet, hi_of, contains, empty_set, with_words}
use Rattle.bit_rows.specs.RowTable.{RowTable, IsUniform, set_at, with_set, blank_table}
use Rattle.bit_rows.proofs.sets.SetLaws.{HasRange-with_words, contains-with_words, contains-empty_set}
use Rattle.bit_rows.proofs.sets.Tables.{set_at-blank_table, IsUniform-blank_table, set_at-with_set_same, set_at-with_set_other, IsUniform-replaced}
use Rattle.bit_rows.proofs.words.WordBits.{has_bit-zero}
use Rattle.slice_board.specs.Boards.{words_for}
use Rattle.slice_board.specs.code.Closing.{row_bit, RowLiesWithin, IsPutIn, ArePutIn}
use Rattle.slice_board.proofs.words.Calls.{one_of_bit, bit_of_one}

-- a place that masks have lies in one of them
in_masks : (masks : List ℕ) (n w i : ℕ) → masks_have masks n w i ≡ true → (n ≤ w) × (w - n < length masks) × (bit_at (get_or masks (w - n) 0) i ≡ 1)
unfolding masks_have
in_masks masks n w i h =
    let parts = and_parts (leb n w) (has_bit (get_or masks (w - n) 0) i) h in
    let from : n ≤ w = dite (dec_le n w) (λ e. e) (λ no. absurd (both_ways (leb n w) (lt-leb n w (omega arith)) parts.0)) in
    let within : w - n < length masks = dite (dec_le (length masks) (w - n))
    (λ past.
    absurd (both_ways (has_bit (get_or masks (w - n) 0) i) (ap (λ v. has_bit v i) (get_or_past masks (w - n) 0 past) ∙ has_bit-zero i) parts.1))
    (λ no. omega arith) in
    (from, within, one_of_bit (get_or masks (w - n) 0) i parts.1)

of_masks : (masks : List ℕ) (n w i : ℕ) → n ≤ w → bit_at (get_or masks (w - n) 0) i ≡ 1 → masks_have masks n w i ≡ true
unfolding masks_have
of_masks masks n w i from one = ap (λ t. t && has_bit (get_or masks (w - n) 0) i) (le-leb n w from) ∙ bit_of_one (get_or masks (w - n) 0) i one

-- ---- a block of a row's words

-- k words behind the word n of a row is its word n + k
word_behind : (from apart n k : ℕ) → from + n * apart + k * apart ≡ from + (n + k) * apart
word_behind from apart n k = omega (arith, add-mul n k apart)

-- what is taken of a block are the row's words from the word n on
pub taken : (words block : List ℕ) (from n count apart points : ℕ) → apart ≡ points
    → ((k : ℕ) → k < count → get_or block k 0 ≡ get_or words (from + n * apart + k * apart) 0)
    → (k : ℕ) → k < count → get_or (take count block) k 0 ≡ get_or words (from + n * points + k * points) 0
taken words block from n count apart points same copy k below =
    get_or-take count block k 0 below ∙ copy k below ∙ ap (λ (a : ℕ). get_or words (from + n * a + k * a) 0) same

-- where the row's words lie in the table, those of a block do
pub block_room : (from n count width apart points slots : ℕ) → apart ≡ points → n + count ≤ width → ((k : ℕ) → k < width → from + k * points < slots)
    → (k : ℕ) → k < count → from + n * apart + k * apart < slots
block_room from n count width apart points slots same fits room k below =
    let a = room (n + k) (omega arith) in
    subst (λ (a : ℕ). from + n * a + k * a < slots) (sym same) (omega (arith, word_behind from points n k))

-- what holds of the row's words holds of the block: no place of it lies past the universe
pub masks_within : (words : List ℕ) (from n count : ℕ) (rows : RowTable) (masks : List ℕ) → RowLiesWithin rows words from
    → n + count ≤ words_for rows.hi
    → ((k : ℕ) → k < count → get_or masks k 0 ≡ get_or words (from + n * length rows.flags + k * length rows.flags) 0)
    → (k : ℕ) → k < count → (i : ℕ) → i < 64 → has_bit (get_or masks k 0) i ≡ true → 64 * (n + k) + i < rows.hi
masks_within words from n count rows masks within room copy k below i place set =
    let apart : ℕ = length rows.flags in
    let w : (64 * (n + k) + i) / 64 ≡ n + k = omega arith in
    let j : (64 * (n + k) + i) % 64 ≡ i = omega arith in
    let at : from + n * apart + k * apart ≡ from + (64 * (n + k) + i) / 64 * apart =
    word_behind from apart n k ∙ ap (λ (m : ℕ). from + m * apart) (sym w) in
    let one : bit_at (get_or words (from + n * apart + k * apart) 0) i ≡ 1 =
    ap (λ (v : ℕ). bit_at v i) (sym (copy k below)) ∙ one_of_bit (get_or masks k 0) i set in
    within (64 * (n + k) + i) (omega arith) ((λ l. bit_at (get_or words (sym at l) 0) (j l)) ∙ one)

-- ---- one point's row
module _ (words : List ℕ) (from point : ℕ) (old : RowTable) where
  pub IsPutIn-none : IsUniform old → IsPutIn words from point 0 old old
  IsPutIn-none uniform = record {
    uniform = uniform;
    others = ap (λ (l : List RowSet). record old { sets = l }) (sym (set-get_or old.sets point (empty_set old.lo old.hi)));
    bits = λ bit within. ((λ h. inl h), (λ h. ⊎_elim (λ e. e) (λ e. absurd (omega (arith, e.0))) h));
  }

  pub IsPutIn-more : (n count : ℕ) (now new : RowTable) (masks : List ℕ) → IsPutIn words from point n old now → IsUniform old → old.lo ≡ 0
      → point < length old.flags → length masks ≡ count
      → ((k : ℕ) → k < count → get_or masks k 0 ≡ get_or words (from + n * length old.flags + k * length old.flags) 0)
      → new ≡ with_set now point (with_words (set_at now point) n masks) → IsPutIn words from point (n + count) old new
  IsPutIn-more n count now new masks p before lowest there size copy is =
      let s : RowSet = set_at now point in
      let t : RowSet = with_words s n masks in
      let lo_is : now.lo ≡ old.lo = ap (λ (r : RowTable). r.lo) p.others in
      let hi_is : now.hi ≡ old.hi = ap (λ (r : RowTable). r.hi) p.others in
      let flags_is : length now.flags ≡ length old.flags = ap (λ (r : RowTable). length r.flags) p.others in
      let range = p.uniform.ranges point in
      let low : s.lo ≡ now.lo = range.lo in
      let high : hi_of s ≡ now.hi = range.hi in
      let here : set_at new point ≡ t =
      ap (λ (r : RowTable). set_at r point) is ∙ set_at-with_set_same now point t (omega (arith, p.uniform.count)) in
      let apart : ℕ = length old.flags in
      let word_at : (w : ℕ) → n ≤ w → w < n + count → get_or masks (w - n) 0 ≡ get_or words (from + w * apart) 0 = λ w a b.
      let back : n + (w - n) ≡ w = omega arith in
      let e : from + n * apart + (w - n) * apart ≡ from + w * apart = word_behind from apart n (w - n) ∙ ap (λ (k : ℕ). from + k * apart) back in
      copy (w - n) (omega arith) ∙ ap (λ (k : ℕ). get_or words k 0) e in
      record {
        uniform = subst IsUniform (sym is) (IsUniform-replaced now point s t p.uniform (omega arith) refl (HasRange-with_words s n masks));
        others =
            is
            ∙ ap (λ (u : RowSet). with_set now point u) (sym here)
            ∙ ap (λ (r : RowTable). with_set r point (set_at new point)) p.others
            ∙ ap (λ (l : List RowSet). record old { sets = l }) (set-set old.sets point (set_at now point) (set_at new point));
        bits = λ bit within.
            let w : ℕ = bit / 64 in
            let i : ℕ = bit % 64 in
            let made : contains (set_at new point) bit ≡ (contains s bit || masks_have masks n w i) =
            ap (λ (u : RowSet). contains u bit) here ∙ contains-with_words s n masks bit (omega arith) (omega arith) in (
              (λ h. ⊎_elim
                  (λ had. ⊎_elim (λ e. inl e) (λ e. inr (omega (arith, e.0), e.1)) ((p.bits bit within).0 had))
                  (λ got. let m = in_masks masks n w i got in let m0 = m.0 in let m1 = m.1 in
                  inr (omega arith, ap (λ (v : ℕ). bit_at v i) (sym (word_at w m.0 (omega arith))) ∙ m.2))
                  (or_cases (contains s bit) (masks_have masks n w i) (sym made ∙ h))),
              (λ h. made ∙ ⊎_elim
                  (λ had. or_left (contains s bit) (masks_have masks n w i) ((p.bits bit within).1 (inl had)))
                  (λ e. dite (dec_le n w)
                  (λ late. or_right (contains s bit) (masks_have masks n w i)
                  (of_masks masks n w i late (ap (λ (v : ℕ). bit_at v i) (word_at w late e.0) ∙ e.1)))
                  (λ early. or_left (contains s bit) (masks_have masks n w i) ((p.bits bit within).1 (inr (omega arith, e.1)))))
                  h),
            );
      }

  pub IsPutIn-other : (n : ℕ) (new : RowTable) → IsPutIn words from point n old new → (other : ℕ) → other ≢ point
      → set_at new other ≡ set_at old other
  IsPutIn-other n new p other apart = ap (λ (r : RowTable). set_at r other) p.others ∙ set_at-with_set_other old point other (set_at new point) apart

module _ (words : List ℕ) (from : ℕ) (old : RowTable) (blank : old ≡ blank_table old.flags 0 old.hi) where
  blank_lo : old.lo ≡ 0
  blank_lo = ap (λ (r : RowTable). r.lo) blank

  pub blank_uniform : IsUniform old
  blank_uniform = subst IsUniform (sym blank) (IsUniform-blank_table old.flags 0 old.hi (omega arith))

  pub blank_empty : (point bit : ℕ) → contains (set_at old point) bit ≡ false
  blank_empty point bit = ap (λ (r : RowTable). contains (set_at r point) bit) blank
      ∙ ap (λ (s : RowSet). contains s bit) (set_at-blank_table old.flags 0 old.hi point) ∙ contains-empty_set 0 old.hi bit

  pub ArePutIn-none : ArePutIn words from 0 old old
  ArePutIn-none =
      record { uniform = blank_uniform; lo = refl; hi = refl; flags = refl; bits = λ point bit h. absurd (omega arith); left = λ point h. refl }

  pub ArePutIn-more : (n : ℕ) (now new : RowTable) → ArePutIn words from n old now → IsPutIn words (from + n) n (words_for now.hi) now new
      → ArePutIn words from (n + 1) old new
  ArePutIn-more n now new all p = record {
    uniform = p.uniform;
    lo = ap (λ (r : RowTable). r.lo) p.others ∙ all.lo;
    hi = ap (λ (r : RowTable). r.hi) p.others ∙ all.hi;
    flags = ap (λ (r : RowTable). r.flags) p.others ∙ all.flags;
    bits = λ point bit h within.
        let hi_is = all.hi in
        dite (ℕ_discrete point n)
        (λ same. subst (λ (k : ℕ). (contains (set_at new k) bit ≡ true) ↔ (row_bit words (from + k) (length old.flags) bit ≡ 1)) (sym same)
        (let row = p.bits bit (omega arith) in
        let place : row_bit words (from + n) (length now.flags) bit ≡ row_bit words (from + n) (length old.flags) bit =
        (λ i. row_bit words (from + n) (length (all.flags i)) bit) in
        let empty : contains (set_at now n) bit ≡ false = ap (λ (s : RowSet). contains s bit) (all.left n (omega arith)) ∙ blank_empty n bit in (
          (λ h. ⊎_elim (λ had. absurd (both_ways (contains (set_at now n) bit) empty had)) (λ e. sym place ∙ e.1) (row.0 h)),
          (λ h. row.1 (inr (omega arith, place ∙ h))),
        )))
        (λ other. subst (λ (s : RowSet). (contains s bit ≡ true) ↔ (row_bit words (from + point) (length old.flags) bit ≡ 1))
        (sym (IsPutIn-other words (from + n) n now (words_for now.hi) new p point other)) (all.bits point bit (omega arith) within));
    left = λ point h. IsPutIn-other words (from + n) n now (words_for now.hi) new p point (λ e. omega arith) ∙ all.left point (omega arith);
  }
