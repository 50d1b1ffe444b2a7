-- Lists that are made part by part.
use Rattle.std.proofs.Common.{◌≡◌, refl, ℕ, zero, suc, ◌+◌, ◌<◌, ◌≤◌, ◌==◌, Bool, true, false, cond, if◌then◌else◌, List, [], ◌∷◌}
use Rattle.std.proofs.Common.{◌++◌}
use Rattle.std.proofs.Common.{filter, flat_map, sym, ap, ◌∙◌, subst, arith, eq-eqb, ◌⊎◌, inl, inr}
use Rattle.std.specs.List.{range_with_len}
use Rattle.std.proofs.lemmas.Bool.{ne_eqb, eqb-true}
use Rattle.std.proofs.lemmas.Grind.{flat_map-append}
use Rattle.std.proofs.lemmas.List.Elements.{filter-append}
use Rattle.part_texts.proofs.Rising.{Below, Rises}

pub filter_flat : {A : Type 0} (p : A → Bool) (h : ℕ → List A) (ks : List ℕ) → filter p (flat_map h ks) ≡ flat_map (λ k. filter p (h k)) ks
filter_flat p h [] = refl
filter_flat p h (k ∷ ks) = filter-append p (h k) (flat_map h ks) ∙ ap (λ ys. filter p (h k) ++ ys) (filter_flat p h ks)

pub flat_flat : {A B : Type 0} (t : A → List B) (h : ℕ → List A) (ks : List ℕ) → flat_map t (flat_map h ks) ≡ flat_map (λ k. flat_map t (h k)) ks
flat_flat t h [] = refl
flat_flat t h (k ∷ ks) = flat_map-append t (h k) (flat_map h ks) ∙ ap (λ ys. flat_map t (h k) ++ ys) (flat_flat t h ks)

-- how often a number stands in a list
abbrev pub stands : ℕ → List ℕ → ℕ
stands m [] = 0
stands m (k ∷ ks) = (if k == m then 1 else 0) + stands m ks

abbrev pub times : {A : Type 0} → ℕ → List A → List A
times zero xs = []
times (suc n) xs = xs ++ times n xs

-- Of the numbers of a list only one makes anything.
pub once : {A : Type 0} (h : ℕ → List A) (m high : ℕ) → ((k : ℕ) → k < high → ¬ (k ≡ m) → h k ≡ []) → (ks : List ℕ) → Below (λ k. k) high ks
    → flat_map h ks ≡ times (stands m ks) (h m)
once h m high none [] below = refl
once h m high none (k ∷ ks) below = by (k == m) refl (once h m high none ks below.1)
  where
    by : (b : Bool) → (k == m) ≡ b → flat_map h ks ≡ times (stands m ks) (h m)
        → h k ++ flat_map h ks ≡ times ((if k == m then 1 else 0) + stands m ks) (h m)
    by true here rest =
        let e : (if k == m then 1 else 0) + stands m ks ≡ suc (stands m ks) = ap (λ b. (if b then 1 else 0) + stands m ks) here ∙ omega arith in
        let same : k ≡ m = eqb-true k m here in
        (λ i. h (same i) ++ rest i) ∙ ap (λ n. times n (h m)) (sym e)
    by false other rest =
        let e : (if k == m then 1 else 0) + stands m ks ≡ stands m ks = ap (λ b. (if b then 1 else 0) + stands m ks) other ∙ omega arith in
        ap (λ ys. ys ++ flat_map h ks) (none k below.0 (λ same. absurd (false_true (sym other ∙ eq-eqb k m same)))) ∙ rest
        ∙ ap (λ n. times n (h m)) (sym e)
      where
        false_true : ¬ (false ≡ true)
        false_true same = cc same

-- In a range a number stands at most once.
none_before : (m a n : ℕ) → m < a → stands m (range_with_len a n) ≡ 0
none_before m a zero less = refl
none_before m a (suc n) less =
    ap (λ b. (if b then 1 else 0) + stands m (range_with_len (a + 1) n)) (ne_eqb a m (λ same. absurd (omega (arith, same, less))))
    ∙ (let rest : stands m (range_with_len (a + 1) n) ≡ 0 = none_before m (a + 1) n (omega (arith, less)) in omega (arith, rest))

pub at_most_once : (m a n : ℕ) → (stands m (range_with_len a n) ≡ 0) ⊎ (stands m (range_with_len a n) ≡ 1)
at_most_once m a zero = inl refl
at_most_once m a (suc n) = by (a == m) refl (at_most_once m (a + 1) n)
  where
    by : (b : Bool) → (a == m) ≡ b → (stands m (range_with_len (a + 1) n) ≡ 0) ⊎ (stands m (range_with_len (a + 1) n) ≡ 1)
        → ((if a == m then 1 else 0) + stands m (range_with_len (a + 1) n) ≡ 0) ⊎
        ((if a == m then 1 else 0) + stands m (range_with_len (a + 1) n) ≡ 1)
    by true here rest =
        let same : a ≡ m = eqb-true a m here in
        let later : stands m (range_with_len (a + 1) n) ≡ 0 = none_before m (a + 1) n (omega (arith, same)) in
        inr (ap (λ b. (if b then 1 else 0) + stands m (range_with_len (a + 1) n)) here ∙ ap (λ k. 1 + k) later)
    by false other (inl rest) = inl (ap (λ b. (if b then 1 else 0) + stands m (range_with_len (a + 1) n)) other ∙ ap (λ k. 0 + k) rest)
    by false other (inr rest) = inr (ap (λ b. (if b then 1 else 0) + stands m (range_with_len (a + 1) n)) other ∙ ap (λ k. 0 + k) rest)

-- Lists that rise between two numbers.
abbrev pub Span : {A : Type 0} → (A → ℕ) → ℕ → ℕ → List A → Type 0
Span f low high [] = low ≤ high
Span f low high (x ∷ xs) = (low ≤ f x) × Span f (f x) high xs

pub span_weak : {A : Type 0} (f : A → ℕ) (lower low high higher : ℕ) (xs : List A) → lower ≤ low → high ≤ higher → Span f low high xs
    → Span f lower higher xs
span_weak f lower low high higher [] le up span = omega (arith, le, up, span)
span_weak f lower low high higher (x ∷ xs) le up span =
    (let h : low ≤ f x = span.0 in omega (arith, le, h), span_weak f (f x) (f x) high higher xs (omega arith) up span.1)

pub span_append : {A : Type 0} (f : A → ℕ) (low mid high : ℕ) (xs ys : List A) → Span f low mid xs → Span f mid high ys → Span f low high (xs ++ ys)
span_append f low mid high [] ys first second =
    (let h : low ≤ mid = first in span_weak f low mid high high ys h (omega arith) second)
span_append f low mid high (x ∷ xs) ys first second = (first.0, span_append f (f x) mid high xs ys first.1 second)

pub span_rises : {A : Type 0} (f : A → ℕ) (low high : ℕ) (xs : List A) → Span f low high xs → Rises f low xs
span_rises f low high [] span = tt
span_rises f low high (x ∷ xs) span = (span.0, span_rises f (f x) high xs span.1)

span_high : {A : Type 0} (f : A → ℕ) (low high : ℕ) (xs : List A) → Span f low high xs → low ≤ high
span_high f low high [] span = span
span_high f low high (x ∷ xs) span = let h : low ≤ f x = span.0 in let k : f x ≤ high = span_high f (f x) high xs span.1 in omega (arith, h, k)

pub span_below : {A : Type 0} (f : A → ℕ) (low high : ℕ) (xs : List A) → Span f low high xs → Below f (high + 1) xs
span_below f low high [] span = tt
span_below f low high (x ∷ xs) span =
    (let k : f x ≤ high = span_high f (f x) high xs span.1 in omega (arith, k), span_below f (f x) high xs span.1)

-- what holds of each
abbrev pub Each : {A : Type 0} → (A → Type 0) → List A → Type 0
Each P [] = Unit {0}
Each P (x ∷ xs) = P x × Each P xs

pub each_append : {A : Type 0} (P : A → Type 0) (xs ys : List A) → Each P xs → Each P ys → Each P (xs ++ ys)
each_append P [] ys first second = second
each_append P (x ∷ xs) ys first second = (first.0, each_append P xs ys first.1 second)

pub each_filter : {A : Type 0} (P : A → Type 0) (test : A → Bool) (xs : List A) → Each P xs → Each P (filter test xs)
each_filter P test [] each = tt
each_filter P test (x ∷ xs) each = by (test x) (each_filter P test xs each.1)
  where
    by : (b : Bool) → Each P (filter test xs) → Each P (cond b (x ∷ filter test xs) (filter test xs))
    by true rest = (each.0, rest)
    by false rest = rest

pub each_passes : {A : Type 0} (test : A → Bool) (xs : List A) → Each (λ x. test x ≡ true) (filter test xs)
each_passes test [] = tt
each_passes test (x ∷ xs) = by (test x) refl (each_passes test xs)
  where
    by : (b : Bool) → test x ≡ b → Each (λ y. test y ≡ true) (filter test xs)
        → Each (λ y. test y ≡ true) (cond b (x ∷ filter test xs) (filter test xs))
    by true passes rest = (passes, rest)
    by false fails rest = rest

pub each_more : {A : Type 0} (P Q : A → Type 0) → ((x : A) → P x → Q x) → (xs : List A) → Each P xs → Each Q xs
each_more P Q more [] each = tt
each_more P Q more (x ∷ xs) each = (more x each.0, each_more P Q more xs each.1)

pub span_const : {A : Type 0} (f : A → ℕ) (c : ℕ) (xs : List A) → Each (λ x. f x ≡ c) xs → Span f c c xs
span_const f c [] each = omega arith
span_const f c (x ∷ xs) each =
    (let h : f x ≡ c = each.0 in omega (arith, h), subst (λ n. Span f n c xs) (sym each.0) (span_const f c xs each.1))
