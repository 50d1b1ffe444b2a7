-- Lists of faults as far as they are told.
use Rattle.std.proofs.Common.{◌≡◌, ℕ, zero, suc, ◌+◌, ◌<◌, ◌≤◌, List, [], ◌∷◌, ◌++◌, length, map, flat_map, take, drop, refl, sym, ap, ◌∙◌}
use Rattle.std.proofs.Common.{append_assoc}
use Rattle.std.proofs.Common.{slice_index_or, append-nil, arith, min, ◌⊎◌, inl, inr, take_all}
use Rattle.std.proofs.lemmas.Bool.{cases_lt}
use Rattle.std.proofs.lemmas.List.{take-append-le}
use Rattle.tac_lines.specs.declared.fault.Fault.{Fault}
use Rattle.tac_reader.proofs.sections.SectionSteps.{rest_at}

-- Only what is told of the front counts.
take_taken : (n : ℕ) (a c : List Fault) → take n (a ++ c) ≡ take n (take n a ++ c)
take_taken zero a c = refl
take_taken (suc n) [] c = refl
take_taken (suc n) (x ∷ xs) c = ap (λ r. x ∷ r) (take_taken n xs c)

pub told_append : (n : ℕ) (a b c : List Fault) → take n a ≡ take n b → take n (a ++ c) ≡ take n (b ++ c)
told_append n a b c e = take_taken n a c ∙ ap (λ r. take n (r ++ c)) e ∙ sym (take_taken n b c)

-- One part more, and then the rest.
pub told_then : (n : ℕ) (old now part rest all whole : List Fault) → take n now ≡ take n (old ++ part) → all ≡ part ++ rest
    → take n (old ++ all) ≡ whole → take n (now ++ rest) ≡ whole
told_then n old now part rest all whole told step before =
    told_append n now (old ++ part) rest told
    ∙ ap (take n) (append_assoc old part rest ∙ ap (λ r. old ++ r) (sym step))
    ∙ before

-- As many as are told are there.
pub told_enough : (n : ℕ) (found rest whole : List Fault) → n ≤ length found → take n (found ++ rest) ≡ whole → take n found ≡ whole
told_enough n found rest whole many before = sym (take-append-le n found rest many) ∙ before

-- There is nothing more.
pub told_all : (n : ℕ) (found rest whole : List Fault) → rest ≡ [] → take n (found ++ rest) ≡ whole → take n found ≡ whole
told_all n found rest whole none before = ap (take n) (sym (ap (λ r. found ++ r) none ∙ append-nil found)) ∙ before

module _ {L V : Type 0} (faults : V → List Fault) (view : L → V) where
  -- The faults of one element more.
  pub told_more : (n : ℕ) (xs : List L) (i : ℕ) (d : L) (old now whole : List Fault) → i < length xs
      → take n now ≡ take n (old ++ faults (view (slice_index_or xs i d))) → take n (old ++ flat_map faults (map view (drop i xs))) ≡ whole
      → take n (now ++ flat_map faults (map view (drop (i + 1) xs))) ≡ whole
  told_more n xs i d old now whole below told before =
      told_then n old now (faults (view (slice_index_or xs i d))) (flat_map faults (map view (drop (i + 1) xs)))
      (flat_map faults (map view (drop i xs))) whole told (ap (λ r. flat_map faults (map view r)) (rest_at xs i d below)) before

-- Seven parts, one after another.
pub told_seven : (n : ℕ) (f0 f1 f2 f3 f4 f5 f6 f7 a b c d e g h : List Fault) → f0 ≡ [] → take n f1 ≡ take n (f0 ++ a)
    → take n f2 ≡ take n (f1 ++ b) → take n f3 ≡ take n (f2 ++ c) → take n f4 ≡ take n (f3 ++ d) → take n f5 ≡ take n (f4 ++ e)
    → take n f6 ≡ take n (f5 ++ g) → take n f7 ≡ take n (f6 ++ h) → take n f7 ≡ take n (a ++ b ++ c ++ d ++ e ++ g ++ h)
told_seven n f0 f1 f2 f3 f4 f5 f6 f7 a b c d e g h none e1 e2 e3 e4 e5 e6 e7 =
    let p1 : take n f1 ≡ take n a = e1 ∙ ap (λ r. take n (r ++ a)) none in
    let p2 : take n f2 ≡ take n (a ++ b) = e2 ∙ told_append n f1 a b p1 in
    let p3 : take n f3 ≡ take n (a ++ b ++ c) = e3 ∙ told_append n f2 (a ++ b) c p2 in
    let p4 : take n f4 ≡ take n (a ++ b ++ c ++ d) = e4 ∙ told_append n f3 (a ++ b ++ c) d p3 in
    let p5 : take n f5 ≡ take n (a ++ b ++ c ++ d ++ e) = e5 ∙ told_append n f4 (a ++ b ++ c ++ d) e p4 in
    let p6 : take n f6 ≡ take n (a ++ b ++ c ++ d ++ e ++ g) = e6 ∙ told_append n f5 (a ++ b ++ c ++ d ++ e) g p5 in
    e7 ∙ told_append n f6 (a ++ b ++ c ++ d ++ e ++ g) h p6

-- As many as there are, and no more than n.
pub take_min : {A : Type 0} (n k : ℕ) (xs : List A) → k ≡ min (length xs) n → take k xs ≡ take n xs
take_min n k xs e = by_order (cases_lt (length xs) n) where
  by_order : (length xs < n) ⊎ (n ≤ length xs) → take k xs ≡ take n xs
  by_order (inl h) = take_all k xs (omega (arith, e, h)) ∙ sym (take_all n xs (omega (arith, h)))
  by_order (inr h) = ap (λ m. take m xs) (let m : k ≡ n = omega (arith, e, h) in m)
