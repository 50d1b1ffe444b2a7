-- Names among others: their numbers, and that none stands twice.
use Rattle.std.proofs.Common.{◌≡◌, ◌≢◌, ℕ, suc, ◌+◌, ◌<◌, Bool, true, false, not, cond, ◌||◌, List, [], ◌∷◌, ◌++◌, map, fold, length, refl, sym}
use Rattle.std.proofs.Common.{ap, ◌∙◌, subst, arith, Some, None, unwrap_or, bytes_eq, get_or, true≢false, one-add, if◌then◌else◌, Contains}
use Rattle.std.proofs.lemmas.Bool.{lt-ltb, or_parts}
use Rattle.std.proofs.lemmas.Slice.Eq.{bytes_eq-Decides}
use Rattle.std.proofs.lemmas.Option.{unwrap_or-slice_get}
use Rattle.std.specs.List.{AllByRecursion as Each, position_or_len}
use Rattle.std.proofs.Math.Bool.{or-false, or-true, or_assoc}
use Rattle.std.proofs.lemmas.List.{get_or_default}
use Rattle.tac_lines.specs.Tokens.{Token, spelling_of}
use Rattle.tac_program.specs.Names.{is_one_of, noted, name_at}
use Rattle.tac_program.specs.Programs.{number_of}
use Rattle.tac_reader.specs.Parses.{names_in}
use Rattle.tac_reader.specs.Faults.{repeated}
use Rattle.tac_lines.specs.LineFaults.{at}
use Rattle.tac_lines.specs.declared.fault.Fault.{Fault}
use Rattle.tac_lines.specs.declared.refusal.RefusalKind.{RefusalKind}
use Rattle.tac_program.proofs.lists.Elements.{each-append, each-weaker, no_left, no_right, Differ}

abbrev pub Known : List (List ℕ) → List ℕ → Type 0
Known names s = is_one_of s names ≡ true

abbrev Unknown : List (List ℕ) → List ℕ → Type 0
Unknown names s = is_one_of s names ≡ false

abbrev place : List (List ℕ) → List ℕ → ℕ
place names s = position_or_len (bytes_eq s) names

place_below : (names : List (List ℕ)) (s : List ℕ) → Known names s → place names s < length names
place_below [] s h = absurd (true≢false (sym h))
place_below (x ∷ xs) s h = by_test (bytes_eq s x) h (place_below xs s) where
  by_test : (b : Bool) → (b || is_one_of s xs) ≡ true → (Known xs s → place xs s < length xs) → cond (not b) (1 + place xs s) 0 < suc (length xs)
  by_test true e later = omega arith
  by_test false e later = let below : place xs s < length xs = later e in omega arith

number_is : (names : List (List ℕ)) (s : List ℕ) → Known names s → number_of names s ≡ place names s
number_is names s h = ap (λ b. unwrap_or (cond b (Some (place names s)) None) 0) (lt-ltb (place names s) (length names) (place_below names s h))

-- The number of a known name is one of a place.
pub number_below : (names : List (List ℕ)) (s : List ℕ) → Known names s → number_of names s < length names
number_below names s h = subst (λ n. n < length names) (sym (number_is names s h)) (place_below names s h)

stands : (names : List (List ℕ)) (s : List ℕ) → Known names s → get_or names (place names s) s ≡ s
stands [] s h = absurd (true≢false (sym h))
stands (x ∷ xs) s h = by_test (bytes_eq s x) refl h (stands xs s) where
  by_test : (b : Bool) → bytes_eq s x ≡ b → (b || is_one_of s xs) ≡ true → (Known xs s → get_or xs (place xs s) s ≡ s)
      → get_or (x ∷ xs) (cond (not b) (1 + place xs s) 0) s ≡ s
  by_test true e k later = sym ((bytes_eq-Decides s x).0 e)
  by_test false e k later = rw one-add (later k)

pub known_contained : (names : List (List ℕ)) (s : List ℕ) → Known names s → Contains names s
known_contained names s h = (place names s, place_below names s h, stands names s h)

-- The name of the number of a known name is the name.
pub name_of_number : (names : List (List ℕ)) (s : List ℕ) → Known names s → name_at names (number_of names s) ≡ s
name_of_number names s h =
    unwrap_or-slice_get names (number_of names s) []
    ∙ ap (λ n. get_or names n []) (number_is names s h)
    ∙ get_or_default names (place names s) [] s (place_below names s h)
    ∙ stands names s h

-- Known names of one number are one name.
pub same_number : (names : List (List ℕ)) (a b : List ℕ) → Known names a → Known names b → number_of names a ≡ number_of names b → a ≡ b
same_number names a b h k e =
    sym (stands names a h)
    ∙ get_or_default names (place names a) a b (place_below names a h)
    ∙ ap (λ n. get_or names n b) (sym (number_is names a h) ∙ e ∙ number_is names b k)
    ∙ stands names b k

-- Numbers of different known names.
numbers_apart : (names : List (List ℕ)) (a : List ℕ) (xs : List (List ℕ)) → Known names a → Each (Known names) xs → Each (λ b. a ≢ b) xs
    → Each (λ n. number_of names a ≢ n) (map (number_of names) xs)
numbers_apart names a [] h k d = tt
numbers_apart names a (x ∷ xs) h k d = (λ e. d.0 (same_number names a x h k.0 e), numbers_apart names a xs h k.1 d.1)

pub numbers_differ : (names xs : List (List ℕ)) → Each (Known names) xs → Differ xs → Differ (map (number_of names) xs)
numbers_differ names [] k d = tt
numbers_differ names (x ∷ xs) k d = (numbers_apart names x xs k.0 k.1 d.0, numbers_differ names xs k.1 d.1)

-- One name more.
known-push : (names : List (List ℕ)) (x s : List ℕ) → is_one_of s (names ++ x ∷ []) ≡ (is_one_of s names || bytes_eq s x)
known-push [] x s = or-false (bytes_eq s x)
known-push (y ∷ ys) x s = ap (λ b. bytes_eq s y || b) (known-push ys x s) ∙ sym (or_assoc (bytes_eq s y) (is_one_of s ys) (bytes_eq s x))

unlike : (s x : List ℕ) → bytes_eq s x ≡ false → s ≢ x
unlike s x h e = true≢false (sym ((bytes_eq-Decides s x).1 e) ∙ h)

pub unknown_differs : (names : List (List ℕ)) (s : List ℕ) → Unknown names s → Each (λ x. x ≢ s) names
unknown_differs [] s h = tt
unknown_differs (x ∷ xs) s h =
    let parts = or_parts (bytes_eq s x) (is_one_of s xs) h in
    (λ e. unlike s x parts.0 (sym e), unknown_differs xs s parts.1)

differ-push : (names : List (List ℕ)) (s : List ℕ) → Differ names → Each (λ x. x ≢ s) names → Differ (names ++ s ∷ [])
differ-push [] s d h = (tt, tt)
differ-push (x ∷ xs) s d h = (each-append (λ y. x ≢ y) xs (s ∷ []) d.0 (h.0, tt), differ-push xs s d.1 h.1)

-- Where no name is repeated, all differ.
pub record NoneRepeated (before names : List (List ℕ)) : Type 0 where
  pub fresh : Each (Unknown before) names
  pub differ : Differ names

none_at : (b : Bool) (kind : RefusalKind) (start : ℕ) → (if b then at kind start else []) ≡ [] → b ≡ false
none_at true kind start e = absurd (cc e)
none_at false kind start e = refl

pub none_repeated : (kind : RefusalKind) (before : List (List ℕ)) (ts : List Token) → repeated kind before ts ≡ [] → NoneRepeated before (names_in ts)
none_repeated kind before [] e = record { fresh = tt; differ = tt }
none_repeated kind before (t ∷ ts) e =
    let s = spelling_of t in
    let here : List Fault = (if is_one_of s before then at kind t.start else []) in
    let behind : List Fault = repeated kind (before ++ s ∷ []) ts in
    let rest = none_repeated kind (before ++ s ∷ []) ts (no_right here behind e) in
    let apart = λ (x : List ℕ) (h : Unknown (before ++ s ∷ []) x). or_parts (is_one_of x before) (bytes_eq x s) (sym (known-push before s x) ∙ h) in
    record {
      fresh = (
        none_at (is_one_of s before) kind t.start (no_left here behind e),
        each-weaker (Unknown (before ++ s ∷ [])) (Unknown before) (λ x h. (apart x h).0) (names_in ts) rest.fresh,
      );
      differ = (
        each-weaker (Unknown (before ++ s ∷ [])) (λ x. s ≢ x) (λ x h same. unlike x s (apart x h).1 (sym same)) (names_in ts) rest.fresh,
        rest.differ,
      );
    }

-- Each name once: none is lost, none stands twice, and what holds of all still does.
itself : (s : List ℕ) → bytes_eq s s ≡ true
itself s = (bytes_eq-Decides s s).1 refl

kept_one : (known : List (List ℕ)) (x s : List ℕ) → Known known s → Known (noted known x) s
kept_one known x s h = by_test (is_one_of x known) where
  by_test : (b : Bool) → Known (if b then known else known ++ x ∷ []) s
  by_test true = h
  by_test false = known-push known x s ∙ ap (λ b. b || bytes_eq s x) h

noted_known : (known : List (List ℕ)) (x : List ℕ) → Known (noted known x) x
noted_known known x = by_test (is_one_of x known) refl where
  by_test : (b : Bool) → is_one_of x known ≡ b → Known (if b then known else known ++ x ∷ []) x
  by_test true e = e
  by_test false e = known-push known x x ∙ ap (λ b. is_one_of x known || b) (itself x) ∙ or-true (is_one_of x known)

kept : (known names : List (List ℕ)) (s : List ℕ) → Known known s → Known (fold noted known names) s
kept known [] s h = h
kept known (x ∷ xs) s h = kept (noted known x) xs s (kept_one known x s h)

all_kept : (known names : List (List ℕ)) → Each (Known (fold noted known names)) names
all_kept known [] = tt
all_kept known (x ∷ xs) = (kept (noted known x) xs x (noted_known known x), all_kept (noted known x) xs)

pub each_once_known : (names : List (List ℕ)) → Each (Known (fold noted [] names)) names
each_once_known names = all_kept [] names

noted_differ : (known : List (List ℕ)) (x : List ℕ) → Differ known → Differ (noted known x)
noted_differ known x d = by_test (is_one_of x known) refl where
  by_test : (b : Bool) → is_one_of x known ≡ b → Differ (if b then known else known ++ x ∷ [])
  by_test true e = d
  by_test false e = differ-push known x d (unknown_differs known x e)

fold_differ : (known names : List (List ℕ)) → Differ known → Differ (fold noted known names)
fold_differ known [] d = d
fold_differ known (x ∷ xs) d = fold_differ (noted known x) xs (noted_differ known x d)

pub each_once_differ : (names : List (List ℕ)) → Differ (fold noted [] names)
each_once_differ names = fold_differ [] names tt

module _ (P : List ℕ → Type 0) where
  noted_each : (known : List (List ℕ)) (x : List ℕ) → Each P known → P x → Each P (noted known x)
  noted_each known x h k = by_test (is_one_of x known) where
    by_test : (b : Bool) → Each P (if b then known else known ++ x ∷ [])
    by_test true = h
    by_test false = each-append P known (x ∷ []) h (k, tt)

  fold_each : (known names : List (List ℕ)) → Each P known → Each P names → Each P (fold noted known names)
  fold_each known [] h k = h
  fold_each known (x ∷ xs) h k = fold_each (noted known x) xs (noted_each known x h k.0) k.1

  pub each_once_each : (names : List (List ℕ)) → Each P names → Each P (fold noted [] names)
  each_once_each names k = fold_each [] names tt k
