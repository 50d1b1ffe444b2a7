-- The procedures of arrays, one after the other, and what holds of their program.
use Rattle.std.proofs.Common.{◌≡◌, ◌∙◌, ℕ, zero, suc, ◌+◌, ◌-◌, ◌<◌, ◌≤◌, false, List, [], ◌∷◌, Option, Some, None, All, length, get_or}
use Rattle.std.proofs.Common.{inl, inr, map, take, drop, slice_get, codes, refl, sym, ap, subst, arith, position, is_some}
use Rattle.std.specs.Prelude.{Contains, bytes_eq, slice_range, sum_by, IsNone}
use Rattle.std.specs.Option.{ForSome}
use Rattle.std.proofs.Math.Seq.{drop-nil}
use Rattle.std.proofs.lemmas.Bool.{cases_lt}
use Rattle.std.proofs.lemmas.List.Folds.{list_any_at}
use Rattle.std.proofs.lemmas.List.Sums.{sum_by-append}
use Rattle.std.proofs.lemmas.List.{get_or-drop, get_or-take, length-drop, length-map, length-take, length-take-le, take_more}
use Rattle.std.proofs.lemmas.List.Elements.{All-contains, Contains-get_or}
use Rattle.std.proofs.lemmas.List.Quantifiers.{position-Some}
use Rattle.std.proofs.lemmas.Slice.Eq.{bytes_eq-Decides}
use Rattle.tac_program.specs.Limits.{longest_text, most_procedures}
use Rattle.tac_program.proofs.known_names.NameTexts.{numbered}
use Rattle.tac_program.specs.Names.{is_one_of}
use Rattle.tac_program.specs.Programs.{Procedure}
use Rattle.tac_program.specs.Sound.{AllDiffer, IsLawfulName, IsSound, IsSoundProcedure, NumberedByPlace}
use Rattle.tac_program.specs.declared.limits.Limits.{Limits}
use Rattle.tac_program.specs.declared.limits.Limits.TheVariants.{Large, Standard}
use Rattle.flow_builder.specs.Built.{labels_from, names_from, procedure_of, procedures_from, statement_of}
use Rattle.flow_builder.specs.Checks.{AreFew}
use Rattle.flow_builder.specs.declared.arrays.Arrays.{Arrays}
use Rattle.flow_builder.specs.declared.arrays.BuiltProcedure.{BuiltProcedure}
use Rattle.flow_builder.specs.declared.arrays.BuiltStatement.{BuiltStatement}
use Rattle.flow_builder.proofs.Lists.{drop_more, length-labels}

-- what is left behind so many, and then so many more
drop_further : {A : Type 0} (xs : List A) (a b : ℕ) → drop b (drop a xs) ≡ drop (a + b) xs
drop_further xs zero b = (let e : b ≡ 0 + b = omega arith in ap (λ n. drop n xs) e)
drop_further [] (suc a) b = drop-nil b ∙ sym (drop-nil (suc a + b))
drop_further (x ∷ xs) (suc a) b =
    drop_further xs a b ∙ (let e : suc (a + b) ≡ suc a + b = omega arith in ap (λ n. drop n (x ∷ xs)) e)

module _ (names : List (List ℕ)) (callees : List ℕ) where
  -- a procedure, and those behind it
  pub procedures_step : (n : ℕ) (built : List BuiltProcedure) (statements : List BuiltStatement) (places : List ℕ) (st lb st' lb' : ℕ) (d : BuiltProcedure)
      → n < length built → st' ≡ st + (get_or built n d).statements → lb' ≡ lb + (get_or built n d).labels
      → procedures_from names callees n (drop n built) (drop st statements) (drop lb places)
      ≡ procedure_of names callees n (slice_range statements st st') (slice_range places lb lb')
      ∷ procedures_from names callees (n + 1) (drop (n + 1) built) (drop st' statements) (drop lb' places)
  procedures_step n built statements places st lb st' lb' d below is_st is_lb =
      let b : BuiltProcedure = get_or built n d in
      let so_many : b.statements ≡ st' - st = omega (arith, is_st) in
      let so_many_labels : b.labels ≡ lb' - lb = omega (arith, is_lb) in
      let next : suc n ≡ n + 1 = omega arith in
      ap (λ ps. procedures_from names callees n ps (drop st statements) (drop lb places)) (drop_more built n d below)
      ∙ ap (λ k. procedure_of names callees n (take k (drop st statements)) (take b.labels (drop lb places))
      ∷ procedures_from names callees (suc n) (drop (n + 1) built) (drop b.statements (drop st statements)) (drop b.labels (drop lb places))) so_many
      ∙ ap (λ k. procedure_of names callees n (slice_range statements st st') (take k (drop lb places))
      ∷ procedures_from names callees (suc n) (drop (n + 1) built) (drop b.statements (drop st statements)) (drop b.labels (drop lb places))) so_many_labels
      ∙ ap (λ m. procedure_of names callees n (slice_range statements st st') (slice_range places lb lb')
      ∷ procedures_from names callees m (drop (n + 1) built) (drop b.statements (drop st statements)) (drop b.labels (drop lb places))) next
      ∙ ap (λ ss. procedure_of names callees n (slice_range statements st st') (slice_range places lb lb')
      ∷ procedures_from names callees (n + 1) (drop (n + 1) built) ss (drop b.labels (drop lb places)))
      (drop_further statements st b.statements ∙ ap (λ k. drop k statements) (sym is_st))
      ∙ ap (λ ls. procedure_of names callees n (slice_range statements st st') (slice_range places lb lb')
      ∷ procedures_from names callees (n + 1) (drop (n + 1) built) (drop st' statements) ls)
      (drop_further places lb b.labels ∙ ap (λ k. drop k places) (sym is_lb))

  pub length-procedures : (n : ℕ) (built : List BuiltProcedure) (statements : List BuiltStatement) (places : List ℕ)
      → length (procedures_from names callees n built statements places) ≡ length built
  length-procedures n [] statements places = refl
  length-procedures n (p ∷ built) statements places =
      ap suc (length-procedures (suc n) built (drop p.statements statements) (drop p.labels places))

  numbered_procedures : (n : ℕ) (built : List BuiltProcedure) (statements : List BuiltStatement) (places : List ℕ) (i : ℕ)
      → ForSome (slice_get (procedures_from names callees n built statements places) i) (λ (q : Procedure). q.name ≡ n + i)
  numbered_procedures n [] statements places i q is = absurd (cc is)
  numbered_procedures n (p ∷ built) statements places zero q is =
      let first : Procedure = procedure_of names callees n (take p.statements statements) (take p.labels places) in
      let same : first ≡ q = cc is in
      sym (ap (λ (x : Procedure). x.name) same) ∙ (let e : n ≡ n + 0 = omega arith in e)
  numbered_procedures n (p ∷ built) statements places (suc i) q is =
      numbered_procedures (suc n) built (drop p.statements statements) (drop p.labels places) i q is
      ∙ (let e : suc n + i ≡ n + suc i = omega arith in e)

  statements_few : (n : ℕ) (built : List BuiltProcedure) (statements : List BuiltStatement) (places : List ℕ)
      → sum_by (λ (q : Procedure). length q.statements) (procedures_from names callees n built statements places) ≤ length statements
  statements_few n [] statements places = omega arith
  statements_few n (p ∷ built) statements places =
      let rest = statements_few (suc n) built (drop p.statements statements) (drop p.labels places) in
      let own : length (map (statement_of callees) (take p.statements statements)) ≡ length (take p.statements statements) =
      length-map (take p.statements statements) (statement_of callees) in
      let first : Procedure = procedure_of names callees n (take p.statements statements) (take p.labels places) in
      let sum = sum_by-append (λ (q : Procedure). length q.statements) (first ∷ [])
      (procedures_from names callees (suc n) built (drop p.statements statements) (drop p.labels places)) in
      omega (arith, sum, rest, own, length-take p.statements statements, length-drop p.statements statements)

  labels_few : (n : ℕ) (built : List BuiltProcedure) (statements : List BuiltStatement) (places : List ℕ)
      → sum_by (λ (q : Procedure). length q.labels) (procedures_from names callees n built statements places) ≤ length places
  labels_few n [] statements places = omega arith
  labels_few n (p ∷ built) statements places =
      let rest = labels_few (suc n) built (drop p.statements statements) (drop p.labels places) in
      let own : length (labels_from 0 (take p.labels places)) ≡ length (take p.labels places) = length-labels 0 (take p.labels places) in
      let first : Procedure = procedure_of names callees n (take p.statements statements) (take p.labels places) in
      let sum = sum_by-append (λ (q : Procedure). length q.labels) (first ∷ [])
      (procedures_from names callees (suc n) built (drop p.statements statements) (drop p.labels places)) in
      omega (arith, sum, rest, own, length-take p.labels places, length-drop p.labels places)

  -- the program is sound
  pub sound_program : (procedures : List Procedure) (built : List BuiltProcedure) (statements : List BuiltStatement) (places : List ℕ)
      (procedure_names variable_names : List (List ℕ))
      → procedures ≡ procedures_from names callees 0 built statements places → length procedure_names ≡ length built
      → length built ≤ most_procedures Large → length statements ≤ longest_text Large → length places ≤ longest_text Large
      → length variable_names ≤ longest_text Large
      → Contains procedure_names (codes "main") → All IsLawfulName procedure_names → AllDiffer procedure_names
      → All IsLawfulName variable_names → AllDiffer variable_names
      → All (IsSoundProcedure (length variable_names) (length built)) procedures
      → IsSound (record { procedures = procedures; procedure_names = procedure_names; variable_names = variable_names })
  sound_program procedures built statements places procedure_names variable_names is named few few_statements few_labels few_variables main lawful differ
      variables_lawful variables_differ sound =
      let count : length procedures ≡ length built = ap length is ∙ length-procedures 0 built statements places in
      let sums : sum_by (λ (q : Procedure). length q.statements) procedures ≤ length statements =
      subst (λ (ps : List Procedure). sum_by (λ (q : Procedure). length q.statements) ps ≤ length statements) (sym is)
      (statements_few 0 built statements places) in
      let label_sums : sum_by (λ (q : Procedure). length q.labels) procedures ≤ length places =
      subst (λ (ps : List Procedure). sum_by (λ (q : Procedure). length q.labels) ps ≤ length places) (sym is) (labels_few 0 built statements places) in
      record {
        numbered = subst (λ (ps : List Procedure). NumberedByPlace (λ (q : Procedure). q.name) ps) (sym is)
            (λ i q at. numbered_procedures 0 built statements places i q at ∙ (let e : 0 + i ≡ i = omega arith in e));
        named = named ∙ sym count;
        few = omega (arith, count, few);
        main = main;
        procedures_lawful = lawful;
        procedures_differ = differ;
        variables_lawful = variables_lawful;
        variables_differ = variables_differ;
        statements_few = omega (arith, sums, few_statements);
        labels_few = omega (arith, label_sums, few_labels);
        variables_few = few_variables;
        procedures = subst (λ n. All (IsSoundProcedure (length variable_names) n) procedures) (sym count) sound;
      }

-- a name that is found is there, and one that is not is not
pub found_contained : (names : List (List ℕ)) (name : List ℕ) (o : Option ℕ) → o ≡ position (bytes_eq name) names → ¬ (IsNone o) → Contains names name
found_contained names name None is some = absurd (some refl)
found_contained names name (Some i) is some =
    let (below, same, _) = position-Some (bytes_eq name) names i name (sym is) in
    subst (Contains names) (sym ((bytes_eq-Decides name (get_or names i name)).0 same)) (Contains-get_or names i name below)

pub none_contained : (names : List (List ℕ)) (name : List ℕ) (o : Option ℕ) → o ≡ position (bytes_eq name) names → IsNone o → ¬ (Contains names name)
none_contained names name None is none there =
    let absent : is_one_of name names ≡ false = sym (numbered name names) ∙ ap is_some (sym is) in
    All-contains (λ y. y ≡ name → ⊥) names name
    (λ k d below same. cc (sym absent ∙ list_any_at (bytes_eq name) names k d below ((bytes_eq-Decides name (get_or names k d)).1 (sym same)))) there refl
none_contained names name (Some i) is none there = absurd (cc none)

-- names have their ends' number
pub length-names : (start : ℕ) (ends bytes : List ℕ) → length (names_from start ends bytes) ≡ length ends
length-names start [] bytes = refl
length-names start (end ∷ ends) bytes = ap suc (length-names end ends bytes)

-- within limits is within the large ones
pub few_large : (limits : Limits) (arrays : Arrays) → AreFew limits arrays → AreFew Large arrays
few_large Large arrays few = few
few_large Standard arrays few = record {
  procedures = omega (arith, few.procedures);
  statements = omega (arith, few.statements);
  labels = omega (arith, few.labels);
  variables = omega (arith, few.variables);
  label_names = omega (arith, few.label_names);
}

-- sums and facts of one part more
pub sum_more : {A : Type 0} (f : A → ℕ) (xs : List A) (n : ℕ) (d : A) → n < length xs → sum_by f (take n xs) + f (get_or xs n d) ≡ sum_by f (take (n + 1) xs)
sum_more f xs n d below =
    let one : sum_by f (get_or xs n d ∷ []) ≡ f (get_or xs n d) = omega arith in
    sym (ap (sum_by f) (take_more xs n d below) ∙ sum_by-append f (take n xs) (get_or xs n d ∷ []) ∙ ap (λ k. sum_by f (take n xs) + k) one)

pub known_more : {A : Type 0} (P : A → Type 0) (xs : List A) (a k : ℕ) → a + k ≤ length xs → All P (take a xs) → All P (slice_range xs a (a + k))
    → All P (take (a + k) xs)
known_more P xs a k within before here i d low =
    let inside : i < a + k = omega (arith, low, length-take-le (a + k) xs within) in
    subst P (sym (get_or-take (a + k) xs i d inside)) (elim (cases_lt i a) [
      | inl first ↦
          subst P (get_or-take a xs i d first) (before i d (omega (arith, first, length-take-le a xs (omega (arith, within)))))
      | inr behind ↦
          let m : ℕ = (a + k) - a in
          let j : ℕ = i - a in
          let at : a + j ≡ i = omega (arith, behind) in
          let low_j : j < m = omega (arith, inside, behind) in
          let there : get_or (take m (drop a xs)) j d ≡ get_or xs i d =
          get_or-take m (drop a xs) j d low_j ∙ get_or-drop a xs j d ∙ ap (λ n. get_or xs n d) at in
          subst P there (here j d (omega (arith, low_j, length-take m (drop a xs), length-drop a xs, within)))
    ])
