-- What `taclint` answers to the words, by what `clap` answered
use Rattle.std.proofs.Common.{◌≡◌, ◌⊎◌, subst, sym, inl, inr, true, List, Result, Ok, Err}
use Rattle.std.specs.Prelude.{[], ◌∷◌, IfOk, IfErr}
use Rattle.std.specs.Borrow.{Bor}
use Rattle.clap.specs.Kinds.{Kinds, or_else}
use Rattle.clap.specs.Words.{FailsBy, HasKind, Row, Text, fault_of, kind_of, matches_of, takes}
use Rattle.clap.specs.declared.builder.possible_value.PossibleValue.{PossibleValue}
use Rattle.clap.specs.declared.error.Error.{Error}
use Rattle.clap.specs.declared.error.kind.ErrorKind.TheVariants.{OutOfMemory}
use Rattle.flow_runs.specs.Words.{AreKindsOf, sizes}
use Rattle.lint_commands.specs.Commands.{AnswersWords, NamesOptions, option_kinds, taclint_command}
use Rattle.lint_commands.specs.Kinds.{colorings, forms}
use Rattle.lint_commands.specs.declared.options.Options.{Options}

-- an error of options that fit is want of memory
fit_refused : (kinds : Kinds) (r : Result Options Error) → FailsBy kinds r → IfErr r (λ e. kinds ≡ [] → kind_of e ≡ OutOfMemory)
fit_refused kinds (Ok options) fails = tt
fit_refused kinds (Err e) fails = λ fit. elim (none_but_memory (subst (λ (ks : Kinds). HasKind ks e) fit fails)) [ inl is ↦ is | inr none ↦ absurd none ]
  where
    none_but_memory : HasKind [] e → (kind_of e ≡ OutOfMemory) ⊎ ⊥
    none_but_memory h = h

unless_taken : (P : Type 0) (r : Result Options Error) (Q : Error → Type 0) → IfErr r Q → IfErr r (λ e. P → Q e)
unless_taken P (Ok options) Q told = tt
unless_taken P (Err e) Q told = λ _. told

-- where `clap` has taken the words, the options decide
pub answered : (words : List Text) (bounds shapes colors : Bor (List PossibleValue)) → AreKindsOf sizes bounds.now
    → AreKindsOf forms shapes.now → AreKindsOf colorings colors.now
    → (r : Result Options Error) (rows : List Row) → rows ≡ matches_of (taclint_command bounds shapes colors) words
    → IfOk r (NamesOptions rows) → FailsBy (option_kinds rows) r
    → fault_of (taclint_command bounds shapes colors) words ≡ [] → AnswersWords words r
answered words bounds shapes colors are_limits are_forms are_colorings r rows is named fails faultless = record {
  bounds = bounds;
  shapes = shapes;
  colors = colors;
  are_limits = are_limits;
  are_forms = are_forms;
  are_colorings = are_colorings;
  named = subst (λ (x : List Row). IfOk r (NamesOptions x)) is named;
  refused =
      unless_taken _ r _ (subst (λ (x : List Row). IfErr r (λ e. option_kinds x ≡ [] → kind_of e ≡ OutOfMemory)) is (fit_refused (option_kinds rows) r fails));
  faults = subst (λ (k : Kinds). FailsBy (or_else k (option_kinds (matches_of (taclint_command bounds shapes colors) words))) r) (sym faultless)
      (subst (λ (x : List Row). FailsBy (option_kinds x) r) is fails);
}

-- where it has refused them, it has
earlier : (k next : Kinds) (e : Error) → HasKind k e → HasKind (or_else k next) e
earlier [] next e (inl memory) = inl memory
earlier [] next e (inr none) = absurd none
earlier (k ∷ ks) next e has = has

pub refused : (words : List Text) (bounds shapes colors : Bor (List PossibleValue)) → AreKindsOf sizes bounds.now
    → AreKindsOf forms shapes.now → AreKindsOf colorings colors.now
    → (e : Error) → (takes (taclint_command bounds shapes colors) words ≡ true → kind_of e ≡ OutOfMemory)
    → HasKind (fault_of (taclint_command bounds shapes colors) words) e
    → AnswersWords words (Err e)
refused words bounds shapes colors are_limits are_forms are_colorings e passes has = record {
  bounds = bounds;
  shapes = shapes;
  colors = colors;
  are_limits = are_limits;
  are_forms = are_forms;
  are_colorings = are_colorings;
  named = tt;
  refused = λ taken _. passes taken;
  faults = earlier _ _ e has;
}
