-- Words and sets that are complemented, and what the solution of a may form says of a table.
use Rattle.std.proofs.Common.{◌≡◌, ◌↔◌, ℕ, ◌+◌, ◌*◌, ◌<◌, ◌≤◌, Bool, true, false, not, ◌&&◌, nat_lt, [], length, slice_index_or, inl, inr, refl}
use Rattle.std.proofs.Common.{sym, ap, ap₂, ◌∙◌, arith}
use Rattle.std.specs.Prelude.{bit_xor}
use Rattle.std.proofs.lemmas.Bool.{cases_lt, lt-ltb, le-ltb, false_from_ne_true}
use Rattle.std.proofs.lemmas.List.{get_or-map}
use Rattle.std.proofs.lemmas.List.FromFn.{get_or-map-range_with_len, length-map-range_with_len}
use Rattle.std.proofs.Math.Dec.{leb-zero}
use Rattle.std.proofs.Math.Nat.{sub-zero}
use Rattle.std.proofs.Math.Bool.{and-true, and-false}
use Rattle.bit_rows.specs.RowSet.{RowSet, IsWordOf, contains, empty_set, set_of}
use Rattle.bit_rows.specs.RowTable.{RowTable, set_at}
use Rattle.bit_rows.specs.Words.{has_bit}
use Rattle.bit_rows.proofs.sets.RowSets.{contains-set_of, contains-above, hi_of-set_of}
use Rattle.flow_graph.specs.Analyses.{IsInTable, is_must}
use Rattle.flow_graph.specs.Problems.{may_shape, may_transfer}
use Rattle.flow_graph.specs.Paths.{SomePathHas}
use Rattle.flow_graph.specs.declared.analysis.Analysis.{Analysis}
use Rattle.flow_graph.proofs.graphs.MayForms.{may_tables_are_may_forms, must_tables_are_may_forms}
use Rattle.tac_program.specs.Programs.{Program}
use Rattle.flow_team.specs.code.Complements.{members_of, complemented, complemented_set, complemented_table}
use Rattle.flow_team.proofs.complements.ComplementedPlaces.{has_bit-xor}

module _ (complements : Bool) (rows : RowTable) (point : ℕ) (there : point < length rows.flags) where
  set_at-complemented : set_at (complemented_table complements rows) point ≡ complemented_set complements rows point
  set_at-complemented = get_or-map-range_with_len (complemented_set complements rows) 0 (length rows.flags) point point (empty_set 0 rows.hi) there
      (omega arith)

  pub contains-complemented : (bit : ℕ) → bit < rows.hi
      → contains (set_at (complemented_table complements rows) point) bit ≡ complemented complements (contains (set_at rows point) bit)
  contains-complemented bit below =
      ap (λ (s : RowSet). contains s bit) set_at-complemented
      ∙ contains-set_of 0 rows.hi (λ b. complemented complements (contains (set_at rows point) b)) bit (omega arith) below

  -- the first member is that of bit 0
  from_first : (bit : ℕ) → contains (complemented_set complements rows point) bit ≡ slice_index_or (complemented_set complements rows point).members
      bit false
  unfolding contains set_of
  from_first bit = λ i. leb-zero bit i && slice_index_or (complemented_set complements rows point).members (sub-zero bit i) false

  -- what its table says of a bit is whether the point's set has it
  pub known_contains : (bit : ℕ) → slice_index_or (slice_index_or (members_of (complemented_table complements rows)) point []) bit false
      ≡ contains (set_at (complemented_table complements rows) point) bit
  known_contains bit =
      let size : length (complemented_table complements rows).sets ≡ length rows.flags =
      length-map-range_with_len (complemented_set complements rows) 0 (length rows.flags) in
      ap (λ ms. slice_index_or ms bit false)
      (get_or-map (λ (s : RowSet). s.members) (complemented_table complements rows).sets point (empty_set 0 rows.hi) [] (omega (arith, there, size)))
      ∙ ap (λ (s : RowSet). slice_index_or s.members bit false) set_at-complemented
      ∙ sym (from_first bit)
      ∙ ap (λ (s : RowSet). contains s bit) (sym set_at-complemented)

  -- nothing is past the last bit
  pub none_past : (bit : ℕ) → rows.hi ≤ bit → contains (set_at (complemented_table complements rows) point) bit ≡ false
  none_past bit past =
      ap (λ (s : RowSet). contains s bit) set_at-complemented
      ∙ contains-above (complemented_set complements rows point) bit
      (omega (arith, past, hi_of-set_of 0 rows.hi (λ c. complemented complements (contains (set_at rows point) c)) (omega arith)))

  -- a word of a set, complemented at the places of its bits
  pub word_complemented : (word value mask : ℕ) → ((bit : ℕ) → contains (set_at rows point) bit ≡ true → bit < rows.hi)
      → IsWordOf (set_at rows point) word value
      → ((k : ℕ) → k < 64 → has_bit mask k ≡ (complements && nat_lt (64 * word + k) rows.hi))
      → IsWordOf (set_at (complemented_table complements rows) point) word (bit_xor value mask)
  word_complemented word value mask within is mask_is k small =
      let b = 64 * word + k in
      let set = contains (set_at rows point) b in
      has_bit-xor value mask k ∙ ap₂ complemented (mask_is k small) (is k small)
      ∙ elim (cases_lt b rows.hi) [
        | inl below ↦ ap (λ t. complemented (complements && t) set) (lt-ltb b rows.hi below) ∙ ap (λ t. complemented t set) (and-true complements)
            ∙ sym (contains-complemented b below)
        | inr past ↦
            ap (λ t. complemented (complements && t) set) (le-ltb b rows.hi past) ∙ ap (λ t. complemented t set) (and-false complements)
            ∙ false_from_ne_true set (λ has. omega (arith, past, within b has))
            ∙ sym (ap (λ (s : RowSet). contains s b) set_at-complemented
            ∙ contains-above (complemented_set complements rows point) b
            (omega (arith, past, hi_of-set_of 0 rows.hi (λ c. complemented complements (contains (set_at rows point) c)) (omega arith))))
      ]

-- a bit that is taken out of a set or put in is so told by what it was
flipped : (P : Type 0) (set : Bool) → (set ≡ true) ↔ P → (not set ≡ true) ↔ (¬ P)
flipped P true solved = ((λ complemented. absurd (cc complemented)), (λ none. absurd (none (solved.0 refl))))
flipped P false solved = ((λ complemented p. absurd (cc (solved.1 p))), (λ none. refl))

module _ (program : Program) (analysis : Analysis) (point bit : ℕ) (set : Bool)
    (solved : (set ≡ true) ↔ SomePathHas (may_shape program analysis) (may_transfer program analysis bit) point) where
  -- of a may analysis the sets are the table's, of a must analysis their complements
  pub complemented_bit : (must : Bool) → is_must analysis ≡ must → (complemented must set ≡ true) ↔ IsInTable program analysis point bit
  complemented_bit true is =
      let law = must_tables_are_may_forms program analysis point bit is in
      let complements = flipped (SomePathHas (may_shape program analysis) (may_transfer program analysis bit) point) set solved in
      ((λ has. law.1 (complements.0 has)), (λ has. complements.1 (law.0 has)))
  complemented_bit false is = let law = may_tables_are_may_forms program analysis point bit is in
      ((λ has. law.1 (solved.0 has)), (λ has. solved.1 (law.0 has)))
