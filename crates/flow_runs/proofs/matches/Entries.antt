-- What a parse holds for an option that is the only one of its name, takes one value and has a default.
use Rattle.std.proofs.Common.{◌≡◌, ◌∙◌, ◌<◌, ◌&&◌, ℕ, zero, suc, Bool, true, false, refl, sym, ap, subst, arith, List, [], ◌∷◌, length, map, Some}
use Rattle.std.proofs.Common.{option_map, inl, inr, true≢false, not}
use Rattle.std.specs.Prelude.{find, slice_get, nat_lt, option_and_then, is_some}
use Rattle.std.specs.List.{All, Any, list_any, slice_index_or}
use Rattle.std.specs.Borrow.{Bor}
use Rattle.std.specs.Str.{bytes_eq}
use Rattle.std.proofs.lemmas.Slice.Eq.{bytes_eq-Decides}
use Rattle.clap.specs.Facts.{AllowsNone, Entry, EntryPasses, HasId, HasIn, HasReading, IsCountArg, MayBeEmpty, PassesArg, ValuesPass, WantsDefault}
use Rattle.clap.specs.Facts.{args_of, groups_of, parser_of_value, unwrap_or_range}
use Rattle.clap.specs.Matches.{first_value, matched_of, one_text}
use Rattle.clap.specs.Values.{Accepts, read_as, reading_of}
use Rattle.clap.specs.Walk.{Rule, Text, action_of, is_empty, is_simple_arg, rule_of}
use Rattle.clap.specs.declared.builder.action.ArgAction.TheVariants.{Count, Set}
use Rattle.clap.specs.declared.builder.arg.Arg.{Arg}
use Rattle.clap.specs.declared.builder.command.Command.{Command}
use Rattle.clap.specs.declared.builder.value_parser.Reading.{Reading}
use Rattle.clap.specs.declared.builder.value_parser.ValueParser.{ValueParser}
use Rattle.clap.specs.declared.parser.matches.Found.{Found}
use Rattle.clap.specs.declared.parser.matches.MatchedArg.{MatchedArg}
use Rattle.clap.proofs.CallerLemmas.{entry_by_id}
use Rattle.clap.proofs.SimpleLemmas.{is_nil}
use Rattle.clap.proofs.WalkLemmas.{both}

-- The rule takes one value, which this parser accepts.
pub record IsOption (r : Rule) (q : ValueParser) : Type 0 where
  pub parser : parser_of_value r.parser ≡ q
  pub any_case : r.ignore_case ≡ false
  pub least : (unwrap_or_range r.range).start_inclusive ≡ 1
  pub action : action_of r ≡ Set
  pub simple : r.is_simple ≡ true

-- Each rule of this name is such an option.
abbrev pub OnlyOption : List Rule → Text → ValueParser → Type 0
OnlyOption [] name q = Unit {0}
OnlyOption (r ∷ rs) name q = (bytes_eq r.id name ≡ true → IsOption r q) × OnlyOption rs name q

-- A rule of this name has a default.
abbrev pub has_default : List Rule → Text → Bool
has_default rs name = list_any (λ r. bytes_eq r.id name && (nat_lt 0 (length r.defaults) && r.is_simple)) rs

option_at : (xs : List Arg) (name : Text) (q : ValueParser) (k : ℕ) (x : Arg) → k < length xs → slice_index_or xs k x ≡ x
    → OnlyOption (map rule_of xs) name q → bytes_eq x.id.now name ≡ true → IsOption (rule_of x) q
option_at [] name q k x lt at only e = absurd (omega arith)
option_at (y ∷ ys) name q zero x lt at only e = subst (λ (a : Arg). bytes_eq a.id.now name ≡ true → IsOption (rule_of a) q) at only.0 e
option_at (y ∷ ys) name q (suc k) x lt at only e = option_at ys name q k x (omega arith) at only.1 e

-- An argument of this name, with what is known of it, is such an option.
option_of : (xs : List Arg) (name : Text) (q : ValueParser) (P : Arg → Type 0) → OnlyOption (map rule_of xs) name q
    → Any (λ a. (bytes_eq a.id.now name ≡ true) × P a) xs → (a : Arg) × IsOption (rule_of a) q × P a
option_of xs name q P only any = (any.1, option_at xs name q any.0 any.1 any.2 any.3 only any.4.0, any.4.1)

no_delimiter : (a : Arg) → is_simple_arg a ≡ true → is_some a.val_delim ≡ true → ⊥
no_delimiter a simple some =
    let overrides = both (is_empty a.overrides.items) _ simple in
    let ifs = both (is_empty a.default_vals_ifs.items) _ overrides.1 in
    let groups = both (is_empty a.groups.items) _ ifs.1 in
    let delimiter = both (not (is_some a.val_delim)) _ groups.1 in
    true≢false (sym delimiter.0 ∙ ap not some)

module _ (c : Command) (name : Text) (q : ValueParser) (only : OnlyOption (map rule_of (args_of c)) name q) (no_groups : groups_of c ≡ [])
    (named : name ≡ [] → ⊥) where
  accepted : (t : Text) → PassesArg c name t → Accepts false q t
  accepted t passes =
      let o = option_of (args_of c) name q (λ a. Accepts a.ignore_case (parser_of_value a.value_parser) t) only passes in
      subst (λ b. Accepts b q t) o.1.any_case (subst (λ p. Accepts (o.0).ignore_case p t) o.1.parser o.2)

  read_so : (r : Reading) → HasReading c name r → r ≡ reading_of q
  read_so r has =
      let o = option_of (args_of c) name q (λ a. reading_of (parser_of_value a.value_parser) ≡ r) only has in
      sym o.2 ∙ ap reading_of o.1.parser

  no_count : IsCountArg c name → ⊥
  no_count has =
      let o = option_of (args_of c) name q (λ a. action_of (rule_of a) ≡ Count) only has in
      let bad : Set ≡ Count = sym o.1.action ∙ o.2 in
      cc

  no_none : AllowsNone c name → ⊥
  no_none has =
      let o = option_of (args_of c) name q MayBeEmpty only has in
      elim o.2 [
        | inl least ↦ absurd (omega (arith, sym o.1.least ∙ least))
        | inr some ↦ no_delimiter o.0 o.1.simple some
      ]

  entry_value : (e : Entry) → e.0.now ≡ name → EntryPasses c e
      → (v : Bor Text) × (slice_get e.1.vals.items 0 ≡ Some v) × Accepts false q v.now × (e.1.reading ≡ reading_of q)
  entry_value e key pass =
      let no_group : e.1.is_group ≡ true → ⊥ = λ g. elim (pass.3 g) [
        | inl empty ↦ named (sym key ∙ empty)
        | inr some ↦ let bad : 0 < 0 = rw no_groups at some in absurd (omega arith)
      ] in
      let values : All (λ v. PassesArg c name v.now) e.1.vals.items = elim pass.0 [
        | inl g ↦ absurd (no_group g)
        | inr values ↦ subst (λ (w : Text). All (λ v. PassesArg c w v.now) e.1.vals.items) key values
      ] in
      let filled : 0 < length e.1.vals.items = elim pass.1 [
        | inl g ↦ absurd (no_group g.0)
        | inr more ↦ elim more [
          | inl filled ↦ filled
          | inr rest ↦ elim rest [
            | inl count ↦ absurd (no_count (subst (λ (w : Text). IsCountArg c w) key count.1))
            | inr none ↦ absurd (no_none (subst (λ (w : Text). AllowsNone c w) key none))
          ]
        ]
      ] in
      let reading : e.1.reading ≡ reading_of q = elim pass.4 [
        | inl g ↦ absurd (no_group g)
        | inr has ↦ read_so e.1.reading (subst (λ (w : Text). HasReading c w e.1.reading) key has)
      ] in
      go e.1.vals.items values filled reading
    where
      go : (vs : List (Bor Text)) → All (λ v. PassesArg c name v.now) vs → 0 < length vs → e.1.reading ≡ reading_of q
          → (v : Bor Text) × (slice_get vs 0 ≡ Some v) × Accepts false q v.now × (e.1.reading ≡ reading_of q)
      go [] values filled reading = absurd (omega arith)
      go (v ∷ vs) values filled reading = (v, refl, accepted v.now (values 0 v (omega arith)), reading)

  -- The option has a value, which its parser accepts.
  pub option_held : (f : Found) (x : MatchedArg) → ValuesPass c f → matched_of f name ≡ Some x
      → (t : Text) × (first_value f name ≡ Some t) × (one_text f name ≡ Some (read_as (reading_of q) t)) × Accepts false q t
  option_held f x values found =
      let e = entry_by_id (EntryPasses c) f.entries.items name x values found in
      let v = entry_value e.0 ((bytes_eq-Decides e.0.0.now name).0 e.2) e.3 in
      let first : slice_get x.vals.items 0 ≡ Some v.0 = ap (λ (m : MatchedArg). slice_get m.vals.items 0) (sym e.1) ∙ v.1 in
      let reading : x.reading ≡ reading_of q = ap (λ (m : MatchedArg). m.reading) (sym e.1) ∙ v.3 in (
        v.0.now,
        ap (option_and_then (λ (m : MatchedArg). option_map (λ s. s.now) (slice_get m.vals.items 0))) found
            ∙ ap (option_map (λ (s : Bor Text). s.now)) first,
        ap (option_and_then (λ (m : MatchedArg). option_map (λ s. read_as m.reading s.now) (slice_get m.vals.items 0))) found
            ∙ ap (option_map (λ (s : Bor Text). read_as x.reading s.now)) first ∙ ap (λ (r : Reading). Some (read_as r v.0.now)) reading,
        v.2,
      )

-- What is in the list is found.
found_in : (xs : List Entry) (name : Text) → HasIn xs name
    → (x : MatchedArg) × (option_map (λ e. e.1) (find (λ e. bytes_eq e.0.now name) xs) ≡ Some x)
found_in [] name has = absurd (omega (arith, has.1))
found_in (e ∷ es) name has = go (bytes_eq e.0.now name) refl has.0 has.1 has.2 (found_in es name)
  where
    go : (t : Bool) → bytes_eq e.0.now name ≡ t → (i : ℕ) → i < length (e ∷ es)
        → ((d : Entry) → bytes_eq (slice_index_or (e ∷ es) i d).0.now name ≡ true)
        → (HasIn es name → (x : MatchedArg) × (option_map (λ e. e.1) (find (λ e. bytes_eq e.0.now name) es) ≡ Some x))
        → (x : MatchedArg) × (option_map (λ e. e.1) (find (λ e. bytes_eq e.0.now name) (e ∷ es)) ≡ Some x)
    go true is i lt at further = (e.1, rw is refl)
    go false is zero lt at further = absurd (true≢false (sym (at e) ∙ is))
    go false is (suc i) lt at further = rw is (further (i, omega arith, λ d. at d))

pub matched_in : (f : Found) (name : Text) → HasId f name → (x : MatchedArg) × (matched_of f name ≡ Some x)
matched_in f name has = found_in f.entries.items name has

defaults_length : (vs : List (Bor Text)) → nat_lt 0 (length (map (λ v. v.now) vs)) ≡ true → 0 < length vs
defaults_length [] e = absurd (true≢false (sym e))
defaults_length (v ∷ vs) e = omega arith

wants : (x : Arg) (name : Text) → (bytes_eq x.id.now name && (nat_lt 0 (length (rule_of x).defaults) && (rule_of x).is_simple)) ≡ true
    → WantsDefault x × (x.id.now ≡ name)
wants x name e =
    let id = both (bytes_eq x.id.now name) _ e in
    let more = both (nat_lt 0 (length (rule_of x).defaults)) _ id.1 in
    let overrides = both (is_empty x.overrides.items) _ more.1 in
    let ifs = both (is_empty x.default_vals_ifs.items) _ overrides.1 in
    ((is_nil _ ifs.0, defaults_length _ more.0), (bytes_eq-Decides x.id.now name).0 id.0)

-- A name whose rule has a default has an entry.
pub default_held : (f : Found) (name : Text) (xs : List Arg) → All (λ a. WantsDefault a → HasId f a.id.now) xs
    → has_default (map rule_of xs) name ≡ true → HasId f name
default_held f name [] held e = absurd (true≢false (sym e))
default_held f name (x ∷ xs) held e =
    go (bytes_eq x.id.now name && (nat_lt 0 (length (rule_of x).defaults) && (rule_of x).is_simple)) refl
    (default_held f name xs (λ k d lt. held (suc k) d (omega arith)))
  where
    go : (t : Bool) → (bytes_eq x.id.now name && (nat_lt 0 (length (rule_of x).defaults) && (rule_of x).is_simple)) ≡ t
        → (has_default (map rule_of xs) name ≡ true → HasId f name) → HasId f name
    go true is further =
        let w = wants x name is in
        subst (HasId f) w.1 (held 0 x (omega arith) w.0)
    go false is further = further (rw is at e)
