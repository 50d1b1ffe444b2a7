-- The options that programs share, as rules of a command line, and what their values are.
use Rattle.std.specs.Prelude.{◌≡◌, ◌==◌, ℕ, ◌<◌, ◌^◌, Bool, false, List, [], ◌∷◌, Option, Some, map, pos, find, option_map, bytes_eq, codes}
use Rattle.std.specs.Borrow.{Bor}
use Rattle.std.specs.List.{list_any, slice_split}
use Rattle.std.specs.Option.{option_map_or}
use Rattle.std.specs.Str.Parse.{IsNumeral, digits_value, without_leading_plus}
use Rattle.clap.specs.Words.{Row, Rule, Text, first_of, new_rule, one_of}
use Rattle.clap.specs.declared.builder.action.ArgAction.TheVariants.{Set, SetTrue}
use Rattle.clap.specs.declared.builder.possible_value.PossibleValue.{PossibleValue}
use Rattle.clap.specs.declared.builder.value_parser.ValueParser.TheVariants as parser
use Rattle.tac_program.specs.declared.limits.Limits.{Limits}
use Rattle.tac_program.specs.declared.limits.Limits.TheVariants.{Standard, Large}

-- `--NAME N`, a number from 1 to the most, with a default.
abbrev pub number_rule : Text → Text → ℕ → Rule
number_rule name start most = record (new_rule name) {
  long = Some name;
  value_names = 1;
  action = Some Set;
  defaults = start ∷ [];
  parser = Some (parser.Signed (pos 1) (pos most));
}

-- The text is a decimal number of 32 bits, and this is its value.
abbrev pub IsNumber : Text → ℕ → Type 0
IsNumber text n =
    IsNumeral 10 (without_leading_plus text) × (n < 2 ^ 32) × (digits_value 10 (without_leading_plus text) ≡ n)

-- What was found for this name is this number.
abbrev pub NamesNumber : List Row → Text → ℕ → Type 0
NamesNumber rows name n = (text : Text) × (one_of name rows ≡ Some text) × IsNumber text n

-- `--NAME KIND`, one of these values, with a default.
abbrev pub kind_rule : Text → Text → Bor (List PossibleValue) → Rule
kind_rule name start values = record (new_rule name) {
  long = Some name;
  value_names = 1;
  action = Some Set;
  defaults = start ∷ [];
  parser = Some (parser.Values values);
}

-- The words that name a value: its name and its aliases.
abbrev pub words_of : PossibleValue → List Text
words_of value = value.name.now ∷ map (λ alias. alias.now) value.aliases.now

-- The values are the kinds, each named by its word alone.
abbrev pub AreKindsOf : {T : Type 0} → List (Text × T) → List PossibleValue → Type 0
AreKindsOf kinds values = map words_of values ≡ map (λ kind. kind.0 ∷ []) kinds

-- The kind that a word names.
abbrev pub kind_named : {T : Type 0} → List (Text × T) → Text → Option T
kind_named kinds word = option_map (λ kind. kind.1) (find (λ kind. bytes_eq kind.0 word) kinds)

-- `--NAME TEXT`, any text, with no default.
abbrev pub text_rule : Text → Rule
text_rule name = record (new_rule name) { long = Some name; value_names = 1; action = Some Set }

-- `--NAME` alone
abbrev pub flag_rule : Text → Rule
flag_rule name = record (new_rule name) { long = Some name; action = Some SetTrue }

-- Whether an option without a value is there.
abbrev pub has_flag : Text → List Row → Bool
has_flag name rows = option_map_or (λ word. bytes_eq word (codes "true")) (first_of name rows) false

-- The limits with their words.
abbrev pub sizes : List (Text × Limits)
sizes = (codes "standard", Standard) ∷ (codes "large", Large) ∷ []

-- The limits that a word names.
abbrev pub limits_named : Text → Option Limits
limits_named = kind_named sizes

-- The words between the commas of a list.
abbrev pub words_in : Text → List Text
words_in list = slice_split (λ b. b == 44) list

abbrev pub has_word : Text → Text → Bool
has_word word list = list_any (λ w. bytes_eq w word) (words_in list)
