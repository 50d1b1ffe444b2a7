-- What the words of the points from one on say of an analysis's table.
use Rattle.std.proofs.Common.{◌≡◌, ◌↔◌, ◌∙◌, ℕ, ◌+◌, ◌-◌, ◌<◌, Bool, true, false, List, [], ◌++◌, get_or, replicate, length, slice_index_or}
use Rattle.std.proofs.Common.{refl, sym, ap, subst, arith}
use Rattle.std.proofs.Math.ListN.{get_or-append}
use Rattle.std.proofs.lemmas.List.{get_or-append-add, get_or-replicate, length-append, length-replicate}
use Rattle.bit_rows.specs.RowSet.{contains}
use Rattle.bit_rows.specs.RowTable.{RowTable, set_at}
use Rattle.flow_graph.specs.Analyses.{HasPathAt, IsInTable, is_must}
use Rattle.flow_graph.specs.Paths.{SomePathHas}
use Rattle.flow_graph.specs.Problems.{MayForm, may_shape, may_transfer}
use Rattle.flow_graph.specs.Universes.{bits}
use Rattle.flow_graph.proofs.graphs.MayForms.{flags_are_may_forms}
use Rattle.flow_team.specs.Excerpts.{IsTableAt}
use Rattle.flow_team.specs.Sets.{IsInMaySet}
use Rattle.flow_team.specs.code.Complements.{members_of, table_facts, complemented_table}
use Rattle.flow_team.specs.code.Excerpts.{HasFlagsFrom}
use Rattle.flow_team.proofs.complements.ComplementedTables.{complemented_bit, contains-complemented, known_contains}

-- what stands behind so many
pub behind : {A : Type 0} (n : ℕ) (a : A) (xs : List A) (i : ℕ) (d : A) → get_or (replicate n a ++ xs) (n + i) d ≡ get_or xs i d
behind n a xs i d = ap (λ m. get_or (replicate n a ++ xs) (m + i) d) (sym (length-replicate n a)) ∙ get_or-append-add (replicate n a) xs i d

-- and these
pub in_front : {A : Type 0} (n : ℕ) (a : A) (xs : List A) (i : ℕ) (d : A) → i < n → get_or (replicate n a ++ xs) i d ≡ a
in_front n a xs i d there =
    get_or-append (replicate n a) xs d i (omega (arith, there, length-replicate n a)) ∙ get_or-replicate n i a d there

-- The sets of the may form, complemented where the analysis is over every path, are its table at these points.
module _ (form : MayForm) (first : ℕ) (rows : RowTable) (hi : rows.hi ≡ bits form.program form.analysis) (flags : HasFlagsFrom form first rows.flags)
    (solved : (point bit : ℕ) → (contains (set_at rows point) bit ≡ true) ↔ ((point < length rows.flags) × IsInMaySet form (first + point) bit)) where
  abbrev sets : List (List Bool)
  sets = members_of (complemented_table (is_must form.analysis) rows)

  has_path : (p : ℕ) → p < length rows.flags
      → (slice_index_or (replicate first false ++ rows.flags) (first + p) false ≡ true) ↔ HasPathAt form.program form.analysis (first + p)
  has_path p there =
      let law = flags_are_may_forms form.program form.analysis (first + p) in
      let flag = flags.flag p there in
      subst (λ (b : Bool). (b ≡ true) ↔ HasPathAt form.program form.analysis (first + p)) (sym (behind first false rows.flags p false))
      ((λ is. law.1 (flag.0 is)), (λ path. flag.1 (law.0 path)))

  some_path : (p bit : ℕ) → p < length rows.flags → bit < bits form.program form.analysis
      → (contains (set_at rows p) bit ≡ true)
      ↔ SomePathHas (may_shape form.program form.analysis) (may_transfer form.program form.analysis bit) (first + p)
  some_path p bit there below = (
    (λ has. ((solved p bit).0 has).1.2),
    (λ path. (solved p bit).1 (there, (omega (arith, there, flags.within), below, path))),
  )

  has_bit_at : (p bit : ℕ) → p < length rows.flags → bit < bits form.program form.analysis
      → (slice_index_or (slice_index_or (replicate first [] ++ sets) (first + p) []) bit false ≡ true)
      ↔ IsInTable form.program form.analysis (first + p) bit
  has_bit_at p bit there below =
      subst (λ (b : Bool). (b ≡ true) ↔ IsInTable form.program form.analysis (first + p) bit)
      (sym (ap (λ ms. slice_index_or ms bit false) (behind first [] sets p [])
      ∙ known_contains (is_must form.analysis) rows p there bit
      ∙ contains-complemented (is_must form.analysis) rows p there bit (omega (arith, below, hi))))
      (complemented_bit form.program form.analysis (first + p) bit (contains (set_at rows p) bit) (some_path p bit there below)
      (is_must form.analysis) refl)

  pub complemented_is_excerpt : IsTableAt form.program first (first + length rows.flags)
      (table_facts first form.analysis (complemented_table (is_must form.analysis) rows))
  complemented_is_excerpt = record {
    points = length-append (replicate first false) rows.flags ∙ ap (λ n. n + length rows.flags) (length-replicate first false);
    bits = hi;
    facts = record {
      paths = λ point low high.
          let at : first + (point - first) ≡ point = omega (arith, low) in
          subst (λ (x : ℕ). (slice_index_or (replicate first false ++ rows.flags) x false ≡ true) ↔ HasPathAt form.program form.analysis x) at
          (has_path (point - first) (omega (arith, low, high)));
      sets = λ point bit low high below.
          let at : first + (point - first) ≡ point = omega (arith, low) in
          subst (λ (x : ℕ). (slice_index_or (slice_index_or (replicate first [] ++ sets) x []) bit false ≡ true)
          ↔ IsInTable form.program form.analysis x bit) at
          (has_bit_at (point - first) bit (omega (arith, low, high)) below);
    };
    no_path = λ point there. in_front first false rows.flags point false there;
    no_bit = λ point bit there. ap (λ ms. slice_index_or ms bit false) (in_front first [] sets point [] there);
  }
