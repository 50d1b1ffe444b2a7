-- The matches of a command hold its numbers and its kind.
use Rattle.std.proofs.Common.{◌≡◌, ◌∙◌, Bool, true, false, refl, sym, List, [], ◌∷◌, map, codes, true≢false}
use Rattle.std.specs.Prelude.{pos, find, option_map, is_some}
use Rattle.std.specs.List.{list_any}
use Rattle.std.specs.Borrow.{Bor}
use Rattle.std.specs.Str.{bytes_eq}
use Rattle.clap.specs.Facts.{HasDefaults, ValuesPass, args_of}
use Rattle.clap.specs.Simple.{App, app_of}
use Rattle.clap.specs.Values.{possible_matches, same_text}
use Rattle.clap.specs.Words.{Text, rows_of, rule_of}
use Rattle.clap.specs.declared.builder.command.Command.{Command}
use Rattle.clap.specs.declared.builder.possible_value.PossibleValue.{PossibleValue}
use Rattle.clap.specs.declared.builder.value_parser.ValueParser.TheVariants as parser
use Rattle.clap.specs.declared.parser.matches.Found.{Found}
use Rattle.clap.proofs.SimpleLemmas.{plain_fields}
use Rattle.clap.proofs.WalkLemmas.{first_value-rows, one_text-rows}
use Rattle.flow_runs.specs.Words.{AreKindsOf, kind_named, words_of}
use Rattle.flow_runs.specs.code.Matches.{HoldsKind, HoldsNumber}
use Rattle.flow_runs.proofs.matches.Entries.{OnlyOption, default_held, has_default, matched_in, option_held}

-- ---- a word that clap accepts names a kind

abbrev none_named : Text → List (Bor Text) → Bool
none_named t names = list_any (λ name. same_text false name.now t) names

no_aliases : (names : List (Bor Text)) (t : Text) → map (λ name. name.now) names ≡ [] → none_named t names ≡ false
no_aliases [] t e = refl
no_aliases (x ∷ xs) t e = cc

pub named_kind : {T : Type 0} (values : List PossibleValue) (known : List (Text × T)) (t : Text) → AreKindsOf known values
    → list_any (possible_matches false t) values ≡ true → is_some (kind_named known t) ≡ true
named_kind [] known t same e = absurd (true≢false (sym e))
named_kind (v ∷ vs) [] t same e = cc
named_kind (v ∷ vs) (k ∷ ks) t same e = go (bytes_eq k.0 t) refl (named_kind vs ks t rest)
  where
    first : words_of v ≡ k.0 ∷ []
    first = cc

    rest : map words_of vs ≡ map (λ kind. kind.0 ∷ []) ks
    rest = cc

    go : (b : Bool) → bytes_eq k.0 t ≡ b
        → (list_any (possible_matches false t) vs ≡ true → is_some (option_map (λ kind. kind.1) (find (λ kind. bytes_eq kind.0 t) ks)) ≡ true)
        → is_some (option_map (λ kind. kind.1) (find (λ kind. bytes_eq kind.0 t) (k ∷ ks))) ≡ true
    go true is further = rw is refl
    go false is further =
        let name : v.name.now ≡ k.0 = cc in
        let aliases : map (λ name. name.now) v.aliases.now ≡ [] = cc in
        let not_this : possible_matches false t v ≡ false = rw (name, is) (no_aliases v.aliases.now t aliases) in
        rw is (further (rw not_this at e))

-- ---- what a parse by a command's rules holds

-- The rules of a command have an option of this name that is one of a kind, with a default, and nothing else of the name.
pub record HasKind (a : App) (kind : Text) (values : Bor (List PossibleValue)) : Type 0 where
  pub of_kind : OnlyOption a.top.rules kind (parser.Values values)
  pub kind_default : has_default a.top.rules kind ≡ true

-- They have the options of numbers and one of a kind.
pub record HasOptions (a : App) (kind : Text) (values : Bor (List PossibleValue)) : Type 0 where
  pub plain : a.top.is_plain ≡ true
  pub workers : OnlyOption a.top.rules (codes "workers") (parser.Signed (pos 1) (pos 64))
  pub cut : OnlyOption a.top.rules (codes "cut") (parser.Signed (pos 1) (pos 4096))
  pub workers_default : has_default a.top.rules (codes "workers") ≡ true
  pub cut_default : has_default a.top.rules (codes "cut") ≡ true
  pub one_kind : HasKind a kind values

pub kind_held : {T : Type 0} (kinds : List (Text × T)) (c : Command) (f : Found) (kind : Text) (values : Bor (List PossibleValue))
    → (kind ≡ [] → ⊥) → (app_of c).top.is_plain ≡ true → HasKind (app_of c) kind values → AreKindsOf kinds values.now
    → ValuesPass c f → HasDefaults c f → HoldsKind kinds (rows_of f) kind
kind_held kinds c f kind values named plain has are passes defaults =
    let groups = (plain_fields c plain).groups in
    let found = matched_in f kind (default_held f kind (args_of c) defaults has.kind_default) in
    let value = option_held c kind _ has.of_kind groups named f found.0 passes found.1 in
    (value.0, sym (first_value-rows f kind) ∙ value.1, named_kind values.now kinds value.0 are value.3)

pub options_held : {T : Type 0} (kinds : List (Text × T)) (c : Command) (f : Found) (kind : Text) (values : Bor (List PossibleValue))
    → (kind ≡ [] → ⊥) → HasOptions (app_of c) kind values → AreKindsOf kinds values.now → ValuesPass c f → HasDefaults c f
    → HoldsNumber (rows_of f) (codes "workers") 64 × HoldsNumber (rows_of f) (codes "cut") 4096 × HoldsKind kinds (rows_of f) kind
options_held kinds c f kind values named has are passes defaults =
    let groups = (plain_fields c has.plain).groups in
    let of = λ (name : Text) (default : has_default (map rule_of (args_of c)) name ≡ true).
    matched_in f name (default_held f name (args_of c) defaults default) in
    let workers = of (codes "workers") has.workers_default in
    let cut = of (codes "cut") has.cut_default in
    let workers_value = option_held c (codes "workers") _ has.workers groups (λ e. cc) f workers.0 passes workers.1 in
    let cut_value = option_held c (codes "cut") _ has.cut groups (λ e. cc) f cut.0 passes cut.1 in (
      (workers_value.0, sym (one_text-rows f (codes "workers")) ∙ workers_value.2, workers_value.3),
      (cut_value.0, sym (one_text-rows f (codes "cut")) ∙ cut_value.2, cut_value.3),
      kind_held kinds c f kind values named has.plain has.one_kind are passes defaults,
    )
