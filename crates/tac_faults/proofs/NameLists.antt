-- Names among others, each once, and the faults of names one token after another.
use Rattle.std.proofs.Common.{◌≡◌, ℕ, ◌+◌, ◌<◌, Bool, true, false, not, ◌||◌, List, [], ◌∷◌, ◌++◌, length, fold, take, drop, refl, sym, ap, ◌∙◌}
use Rattle.std.proofs.Common.{if◌then◌else◌, bytes_eq, slice_index_or, Option, position, is_some, ◌-◌, ◌≤◌, ◌⊎◌, inl, inr, arith, min}
use Rattle.std.proofs.Math.Bool.{or-false, or_assoc}
use Rattle.std.proofs.lemmas.Grind.{fold-append}
use Rattle.std.proofs.lemmas.Bool.{cases_lt}
use Rattle.std.proofs.lemmas.List.{drop-map, drop_all, length-map, map-append, take_more, take_rest}
use Rattle.std.proofs.lemmas.Slice.Eq.{bytes_eq-Decides}
use Rattle.tac_faults.proofs.Lists.{told_more, told_then}
use Rattle.tac_lines.specs.LineFaults.{at}
use Rattle.tac_lines.specs.Tokens.{Token, spelling_of}
use Rattle.tac_lines.specs.code.Views.{token_view, tokens_view}
use Rattle.tac_lines.specs.declared.fault.Fault.{Fault}
use Rattle.tac_lines.specs.declared.refusal.RefusalKind.{RefusalKind}
use Rattle.tac_lines.specs.declared.token.Token.{Token as Lexed}
use Rattle.tac_program.specs.Names.{is_one_of, noted}
use Rattle.tac_program.proofs.known_names.NameTexts.{numbered}
use Rattle.tac_reader.specs.Faults.{repeated, unknown}
use Rattle.tac_reader.proofs.lines.FirstFaults.{one_unknown}
use Rattle.tac_reader.specs.Parses.{each_once, names_in}
use Rattle.tac_reader.proofs.sections.SectionSteps.{rest_at}

known-push : (names : List (List ℕ)) (x s : List ℕ) → is_one_of s (names ++ x ∷ []) ≡ (is_one_of s names || bytes_eq s x)
known-push [] x s = or-false (bytes_eq s x)
known-push (y ∷ ys) x s = ap (λ b. bytes_eq s y || b) (known-push ys x s) ∙ sym (or_assoc (bytes_eq s y) (is_one_of s ys) (bytes_eq s x))

known-noted : (names : List (List ℕ)) (x s : List ℕ) → is_one_of s (noted names x) ≡ (is_one_of s names || bytes_eq s x)
known-noted names x s = by_test (is_one_of x names) refl (bytes_eq s x) refl where
  absorbed : (b c : Bool) → (c ≡ true → b ≡ true) → b ≡ (b || c)
  absorbed true c h = refl
  absorbed false true h = h refl
  absorbed false false h = refl

  by_test : (t : Bool) → is_one_of x names ≡ t → (u : Bool) → bytes_eq s x ≡ u
      → is_one_of s (if t then names else names ++ x ∷ []) ≡ (is_one_of s names || bytes_eq s x)
  by_test true e u f =
      absorbed (is_one_of s names) (bytes_eq s x) (λ same. ap (λ r. is_one_of r names) ((bytes_eq-Decides s x).0 same) ∙ e)
  by_test false e u f = known-push names x s

known-fold : (names xs : List (List ℕ)) (s : List ℕ) → is_one_of s (fold noted names xs) ≡ (is_one_of s names || is_one_of s xs)
known-fold names [] s = sym (or-false (is_one_of s names))
known-fold names (x ∷ xs) s =
    known-fold (noted names x) xs s
    ∙ ap (λ b. b || is_one_of s xs) (known-noted names x s)
    ∙ or_assoc (is_one_of s names) (bytes_eq s x) (is_one_of s xs)

-- A name is one of those that stand once where it is one of all.
pub each_once-known : (names : List (List ℕ)) (s : List ℕ) → is_one_of s (each_once names) ≡ is_one_of s names
each_once-known names s = known-fold [] names s

not_not : (b : Bool) → not (not b) ≡ b
not_not true = refl
not_not false = refl

if_not : (b : Bool) (x : List Fault) → (if not b then x else []) ≡ (if b then [] else x)
if_not true x = refl
if_not false x = refl

-- A name that is asked for in a table.
pub missing : (names known : List (List ℕ)) (name : List ℕ) (found : Option ℕ) (is_none : Bool) (x : List Fault) → names ≡ each_once known
    → found ≡ position (bytes_eq name) names → is_some found ≡ not is_none → (if is_none then x else []) ≡ (if is_one_of name known then [] else x)
missing names known name found is_none x e f g =
    let asked : is_some found ≡ is_one_of name known =
    ap is_some f ∙ numbered name names ∙ ap (is_one_of name) e ∙ each_once-known known name in
    ap (λ b. if b then x else []) (sym (not_not is_none) ∙ ap not (sym g ∙ asked)) ∙ if_not (is_one_of name known) x

module _ (kind : RefusalKind) (text : List ℕ) (tokens : List Lexed) where
  abbrev pub before : ℕ → List (List ℕ)
  before i = names_in (tokens_view text (take i tokens))

  before_more : (i : ℕ) (d : Lexed) → i < length tokens → before (i + 1) ≡ before i ++ spelling_of (token_view text (slice_index_or tokens i d)) ∷ []
  before_more i d below =
      ap (λ ts. names_in (tokens_view text ts)) (take_more tokens i d below)
      ∙ ap names_in (map-append (token_view text) (take i tokens) (slice_index_or tokens i d ∷ []))
      ∙ map-append spelling_of (tokens_view text (take i tokens)) (token_view text (slice_index_or tokens i d) ∷ [])

  -- The table of the names so far has one more.
  pub table_more : (i : ℕ) (d : Lexed) (name : List ℕ) (old now : List (List ℕ)) → i < length tokens
      → name ≡ spelling_of (token_view text (slice_index_or tokens i d)) → now ≡ noted old name → old ≡ each_once (before i)
      → now ≡ each_once (before (i + 1))
  table_more i d name old now below e grown same =
      grown
      ∙ (λ j. noted (same j) (e j))
      ∙ sym (ap each_once (before_more i d below)
      ∙ fold-append noted [] (before i) (spelling_of (token_view text (slice_index_or tokens i d)) ∷ []))

  -- A token whose name stands before it, or not.
  pub repeated_more : (n i : ℕ) (d : Lexed) (name : List ℕ) (table : List (List ℕ)) (is_new : Bool) (old now whole : List Fault)
      → i < length tokens → name ≡ spelling_of (token_view text (slice_index_or tokens i d)) → table ≡ each_once (before i)
      → is_new ≡ not (is_one_of name table)
      → take n now ≡ take n (old ++ (if not is_new then at kind (slice_index_or tokens i d).start else []))
      → take n (old ++ repeated kind (before i) (tokens_view text (drop i tokens))) ≡ whole
      → take n (now ++ repeated kind (before (i + 1)) (tokens_view text (drop (i + 1) tokens))) ≡ whole
  repeated_more n i d name table is_new old now whole below e same new told =
      let x = slice_index_or tokens i d in
      let t = token_view text x in
      let others = tokens_view text (drop (i + 1) tokens) in
      let known : not is_new ≡ is_one_of (spelling_of t) (before i) =
      ap not new ∙ not_not (is_one_of name table) ∙ (λ j. is_one_of (e j) (same j)) ∙ each_once-known (before i) (spelling_of t) in
      told_then n old now (if not is_new then at kind x.start else []) (repeated kind (before (i + 1)) others)
      (repeated kind (before i) (tokens_view text (drop i tokens))) whole told
      (ap (λ ts. repeated kind (before i) (tokens_view text ts)) (rest_at tokens i d below)
      ∙ (λ j. (if sym known j then at kind x.start else []) ++ repeated kind (sym (before_more i d below) j) others))

  -- A token whose name is known, or not.
  pub unknown_more : (n i : ℕ) (d : Lexed) (name : List ℕ) (names : List (List ℕ)) (known : List Token) (found : Option ℕ) (is_none : Bool)
      (old now whole : List Fault) → i < length tokens → name ≡ spelling_of (token_view text (slice_index_or tokens i d))
      → names ≡ each_once (names_in known) → found ≡ position (bytes_eq name) names → is_some found ≡ not is_none
      → take n now ≡ take n (old ++ (if is_none then at kind (slice_index_or tokens i d).start else []))
      → take n (old ++ unknown kind known (tokens_view text (drop i tokens))) ≡ whole
      → take n (now ++ unknown kind known (tokens_view text (drop (i + 1) tokens))) ≡ whole
  unknown_more n i d name names known found is_none old now whole below e same number none told =
      let x = slice_index_or tokens i d in
      told_more (one_unknown kind known) (token_view text) n tokens i d old now whole below
      (told
      ∙ ap (λ r. take n (old ++ r))
      (missing names (names_in known) name found is_none (at kind x.start) same number none
      ∙ ap (λ s. if is_one_of s (names_in known) then [] else at kind x.start) e))

-- The last procedures of all, which are more than p.
pub last_titles : (text : List ℕ) (titles : List Lexed) (p most : ℕ) → most ≡ min (length titles) p
    → tokens_view text (take (length titles - most) (drop most titles)) ≡ drop p (tokens_view text titles)
last_titles text titles p most e = by_order (cases_lt (length titles) p) where
  by_order : (length titles < p) ⊎ (p ≤ length titles)
      → tokens_view text (take (length titles - most) (drop most titles)) ≡ drop p (tokens_view text titles)
  by_order (inl h) =
      ap (tokens_view text) (take_rest titles most ∙ drop_all most titles (omega (arith, e, h)))
      ∙ sym (drop_all p (tokens_view text titles) (omega (arith, h, length-map titles (token_view text))))
  by_order (inr h) =
      ap (tokens_view text) (take_rest titles most ∙ ap (λ k. drop k titles) (let k : most ≡ p = omega (arith, e, h) in k))
      ∙ sym (drop-map (token_view text) p titles)
