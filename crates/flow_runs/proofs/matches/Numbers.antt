-- The number that the matches hold for a name is read, and is the one that is named.
use Rattle.std.proofs.Common.{◌≡◌, ◌<◌, ◌≤◌, ◌^◌, ℕ, sym, subst, ap, ◌∙◌, List, Option, Some}
use Rattle.std.specs.Prelude.{Result, Ok, unwrap_or}
use Rattle.std.specs.Str.Parse.{ParsesUnsigned, digits_value, without_leading_plus}
use Rattle.clap.specs.Lexer.{without_minus}
use Rattle.clap.specs.Matches.{ReadsOne}
use Rattle.clap.specs.Words.{Row, Text, one_of}
use Rattle.clap.proofs.CallerReads.{signed_reads}
use Rattle.flow_runs.specs.Words.{NamesNumber}
use Rattle.flow_runs.specs.code.Matches.{HoldsNumber}

module _ (E : Type 0) (G : List ℕ → Result ℕ E → Type 0) (only : (u : List ℕ) (x : Result ℕ E) → G u x → ParsesUnsigned 32 10 u x)
    (rows : List Row) (name : Text) (most : ℕ) (holds : HoldsNumber rows name most) (fits : most < 2 ^ 32)
    (r : Option ℕ) (reads : (t : Text) → one_of name rows ≡ Some t → ReadsOne G t r) where
  number : (n : ℕ) × (r ≡ Some n) × (1 ≤ n) × (n ≤ most)
  number = signed_reads E G 32 1 most holds.0 r (reads (without_minus holds.0) holds.1) only fits holds.2

  pub number_read : (n : ℕ) × (r ≡ Some n)
  number_read = (number.0, number.1)

  pub number_named : (v : ℕ) → r ≡ Some v → NamesNumber rows name v
  number_named v is =
      let parsed = only _ (Ok v) (subst (ReadsOne G (without_minus holds.0)) is (reads (without_minus holds.0) holds.1)) in
      (without_minus holds.0, holds.1, (parsed.0.0, rw parsed.1 parsed.0.1, sym parsed.1))

-- A number that is named is in the range that the matches keep to.
pub named_within : (rows : List Row) (name : Text) (most : ℕ) → HoldsNumber rows name most → most < 2 ^ 32
    → (v : ℕ) → NamesNumber rows name v → (1 ≤ v) × (v ≤ most)
named_within rows name most holds fits v named =
    let text : named.0 ≡ without_minus holds.0 = ap (λ (o : Option Text). unwrap_or o named.0) (sym named.1 ∙ holds.1) in
    let below : digits_value 10 (without_leading_plus named.0) < 2 ^ 32 = rw named.2.2 named.2.1 in
    let parsed : ParsesUnsigned {E = ℕ} 32 10 named.0 (Ok v) = ((named.2.0, below), sym named.2.2) in
    let got = signed_reads ℕ (ParsesUnsigned 32 10) 32 1 most holds.0 (Some v)
    (subst (λ (t : Text). ParsesUnsigned {E = ℕ} 32 10 t (Ok v)) text parsed) (λ u x g. g) fits holds.2 in
    let same : v ≡ got.0 = ap (λ (o : Option ℕ). unwrap_or o v) got.1 in
    rw same (got.2, got.3)
