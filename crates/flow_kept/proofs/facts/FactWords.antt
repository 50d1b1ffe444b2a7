-- What the words of a may form tell of an analysis's table.
use Rattle.std.proofs.Common.{◌≡◌, ◌↔◌, ℕ, ◌+◌, ◌*◌, ◌<◌, ◌≤◌, Bool, true, false, not, ◌&&◌, nat_le, nat_lt, if◌then◌else◌, refl, sym, ap, ap₂, subst, ◌∙◌}
use Rattle.std.proofs.Common.{true≢false}
use Rattle.std.proofs.lemmas.Bool.{lt-ltb, ltb-true, le-leb, leb-true, and_parts, and_from}
use Rattle.bit_rows.specs.Words.{has_bit}
use Rattle.flow_graph.specs.Analyses.{IsInTable, is_must}
use Rattle.flow_graph.specs.Problems.{may_shape, may_transfer, MayForm}
use Rattle.gen_kill.specs.Selections.{all_bits}
use Rattle.flow_graph.specs.Paths.{SomePathHas}
use Rattle.flow_graph.proofs.graphs.MayForms.{may_tables_are_may_forms, must_tables_are_may_forms}
use Rattle.gk_solve.specs.Solved.{AreMeetWords, IsSliceOf, SliceTable, word_at}
use Rattle.flow_kept.specs.Facts.{IsFactWord}

-- a place of a may form's word, and whether it is told
abbrev pub table_place : Bool → Bool → Bool → Bool
table_place must set inside = if must then not set && inside else set

-- whether a bit is one of lo..hi
abbrev pub is_within : ℕ → ℕ → ℕ → Bool
is_within lo hi b = nat_le lo b && nat_lt b hi

pub same_place : (must must_too : Bool) (bits bits_too : ℕ) (lo lo_too hi hi_too : ℕ) (b k : ℕ) → must ≡ must_too → bits ≡ bits_too → lo ≡ lo_too
    → hi ≡ hi_too
    → table_place must (has_bit bits k) (is_within lo hi b) ≡ table_place must_too (has_bit bits_too k) (is_within lo_too hi_too b)
same_place must must_too bits bits_too lo lo_too hi hi_too b k musts words los his =
    ap (λ m. table_place m (has_bit bits k) (is_within lo hi b)) musts
    ∙ ap (λ n. table_place must_too (has_bit n k) (is_within lo hi b)) words
    ∙ ap₂ (λ l h. table_place must_too (has_bit bits_too k) (is_within l h b)) los his

-- what that test tells
within : (lo hi b : ℕ) → (is_within lo hi b ≡ true) ↔ ((lo ≤ b) × (b < hi))
within lo hi b = (
  (λ is. let parts = and_parts (nat_le lo b) (nat_lt b hi) is in (leb-true lo b parts.0, ltb-true b hi parts.1)),
  (λ has. and_from (nat_le lo b) (nat_lt b hi) (le-leb lo b has.0) (lt-ltb b hi has.1)),
)

-- what is told of a bit of a may analysis,
may_known : (Table Some : Type 0) (lo hi b : ℕ) (set : Bool) → (Some ↔ Table) → (set ≡ true) ↔ ((lo ≤ b) × (b < hi) × Some)
    → (set ≡ true) ↔ ((lo ≤ b) × (b < hi) × Table)
may_known Table Some lo hi b set law is = (
  (λ told. let has = is.0 told in (has.0, has.1, law.0 has.2)),
  (λ has. is.1 (has.0, has.1, law.1 has.2)),
)

-- and of one of a must analysis
must_known : (Table Some : Type 0) (lo hi b : ℕ) (set inside : Bool) → ((¬ Some) ↔ Table) → (set ≡ true) ↔ ((lo ≤ b) × (b < hi) × Some)
    → (inside ≡ true) ↔ ((lo ≤ b) × (b < hi)) → ((not set && inside) ≡ true) ↔ ((lo ≤ b) × (b < hi) × Table)
must_known Table Some lo hi b true inside law is range = (
  (λ told. absurd (true≢false (sym told))),
  (λ has. absurd (law.1 has.2 (is.0 refl).2)),
)
must_known Table Some lo hi b false inside law is range = (
  (λ told. let there = range.0 told in (there.0, there.1, law.0 (λ some. true≢false (sym (is.1 (there.0, there.1, some)))))),
  (λ has. range.1 (has.0, has.1)),
)

pub fact_word : (form : MayForm) (slice : SliceTable) (point word told : ℕ) → IsSliceOf (all_bits form.program form.analysis) slice → AreMeetWords (all_bits form.program form.analysis) slice
    → point < slice.points → slice.from ≤ word → word < slice.until
    → ((k : ℕ) → k < 64 → has_bit told k
    ≡ table_place (is_must form.analysis) (has_bit (word_at slice point word) k) (is_within slice.lo slice.hi (64 * word + k)))
    → IsFactWord form.program form.analysis slice.lo slice.hi point word told
fact_word form slice point word told of meets there from until places k small = go (is_must form.analysis) refl
  where
    go : (must : Bool) → is_must form.analysis ≡ must
        → (has_bit told k ≡ true)
        ↔ ((slice.lo ≤ 64 * word + k) × (64 * word + k < slice.hi) × IsInTable form.program form.analysis point (64 * word + k))
    go true is =
        let law = must_tables_are_may_forms form.program form.analysis point (64 * word + k) is in
        let here = SomePathHas (may_shape form.program form.analysis) (may_transfer form.program form.analysis (64 * word + k)) point in
        let set = has_bit (word_at slice point word) k in
        let inside = is_within slice.lo slice.hi (64 * word + k) in
        subst (λ (b : Bool). (b ≡ true)
        ↔ ((slice.lo ≤ 64 * word + k) × (64 * word + k < slice.hi) × IsInTable form.program form.analysis point (64 * word + k)))
        (sym (places k small ∙ ap (λ (m : Bool). table_place m set inside) is))
        (must_known (IsInTable form.program form.analysis point (64 * word + k)) here slice.lo slice.hi (64 * word + k) set inside
        (law.1, law.0) (meets point word k there from until small) (within slice.lo slice.hi (64 * word + k)))
    go false is =
        let law = may_tables_are_may_forms form.program form.analysis point (64 * word + k) is in
        let here = SomePathHas (may_shape form.program form.analysis) (may_transfer form.program form.analysis (64 * word + k)) point in
        let set = has_bit (word_at slice point word) k in
        let inside = is_within slice.lo slice.hi (64 * word + k) in
        subst (λ (b : Bool). (b ≡ true)
        ↔ ((slice.lo ≤ 64 * word + k) × (64 * word + k < slice.hi) × IsInTable form.program form.analysis point (64 * word + k)))
        (sym (places k small ∙ ap (λ (m : Bool). table_place m set inside) is))
        (may_known (IsInTable form.program form.analysis point (64 * word + k)) here slice.lo slice.hi (64 * word + k) set
        (law.1, law.0) (meets point word k there from until small))
