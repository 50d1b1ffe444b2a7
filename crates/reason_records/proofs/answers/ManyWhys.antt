-- What is told of many bits, one after the other.
use Rattle.std.proofs.Common.{◌≡◌, ◌∙◌, ◌+◌, ◌<◌, ◌++◌, ◌∷◌, [], inl, inr, ℕ, suc, List, Option, Some, None, MatchOption, length, map, take}
use Rattle.std.proofs.Common.{Result, Ok, Err, OnOk, slice_get, slice_index_or, option_map, unwrap_or, refl, sym, ap, subst, arith}
use Rattle.std.proofs.Math.Seq.{take-suc}
use Rattle.std.proofs.lemmas.Bool.{cases_eq}
use Rattle.std.proofs.lemmas.Option.{slice_get-get_or}
use Rattle.std.proofs.lemmas.List.{append-nil, append_assoc, length-append}
use Rattle.flow_graph.specs.Paths.{SomePathHas, Transfer}
use Rattle.flow_graph.specs.Problems.{may_shape, may_transfer}
use Rattle.flow_graph.specs.Universes.{bits}
use Rattle.flow_why.specs.Witnesses.{IsWitness}
use Rattle.flow_why.specs.declared.hop.Hop.{Hop}
use Rattle.gen_kill.specs.Selections.{Selection, bit_in, column_transfer}
use Rattle.tac_program.specs.Programs.{Program}
use Rattle.reason_records.specs.Why.{IsThere, hop_part}
use Rattle.reason_records.specs.Whys.{AreWhysFrom, IsToldWhy, fact_of}
use Rattle.reason_records.specs.code.Whys.{AreToldTo, IsAskedIn, IsToldMore}
use Rattle.reason_records.specs.declared.why.NumberedHop.{NumberedHop}
use Rattle.reason_records.specs.declared.whys.NumberedWhy.{NumberedWhy}

-- what a search has found, by how it ended
pub if_none : {V : Type 0} (A : Type 0) (B : V → Type 0) (found : Option V) → MatchOption found A B → found ≡ None → A
if_none A B None is same = is
if_none A B (Some v) is same = absurd (cc same)

pub if_some : {V : Type 0} (A : Type 0) (B : V → Type 0) (found : Option V) (v : V) → MatchOption found A B → found ≡ Some v → B v
if_some A B None v is same = absurd (cc same)
if_some A B (Some w) v is same = let one : w ≡ v = cc same in subst B one is

pub on_ok : {T E P Q : Type 0} (result : Result T E) → (P → Q) → OnOk result P → OnOk result Q
on_ok (Ok value) then is = then is
on_ok (Err fault) then is = is

-- what is told of a bit
abbrev pub told_of : NumberedWhy → ℕ → ℕ → NumberedWhy
told_of asked has end = record { point = asked.point; bit = asked.bit; has = has; end = end }

module _ (form : Selection) (asked : NumberedWhy) (all : form.chosen ≡ None) (there : IsAskedIn form asked) where
  bit_is : bit_in form.chosen asked.bit ≡ asked.bit
  bit_is = ap (λ c. bit_in c asked.bit) all

  transfer_is : column_transfer form asked.bit ≡ may_transfer form.program form.analysis asked.bit
  transfer_is = ap (may_transfer form.program form.analysis) bit_is

  is_there : (number : ℕ) → IsThere form.program form.analysis (fact_of number asked)
  is_there number =
      (there.0, subst (λ n. asked.bit < n) (ap (λ c. unwrap_or (option_map length c) (bits form.program form.analysis)) all) there.1)

  module _ (whys_before whys : List NumberedWhy) (hops_before hops : List NumberedHop) where
    pub told_none : hops ≡ hops_before → whys ≡ whys_before ++ told_of asked 0 (length hops_before) ∷ []
        → (SomePathHas (may_shape form.program form.analysis) (column_transfer form asked.bit) asked.point → ⊥)
        → IsToldMore form asked whys_before whys hops_before hops
    told_none same put none = record {
      own = [];
      told = told_of asked 0 (length hops_before);
      hops_are = same ∙ sym (append-nil hops_before);
      whys_are = put;
      end = ap length (sym same);
      why = λ number is. record {
        point = refl;
        bit = refl;
        why = inr (
          refl,
          record {
            analysis = form.analysis;
            is_analysis = is;
            there = is_there number;
            none = subst (λ (t : Transfer). SomePathHas (may_shape form.program form.analysis) t asked.point → ⊥) transfer_is none;
          },
          refl,
        );
      };
    }

    pub told_some : (path : List Hop) → hops ≡ hops_before ++ map hop_part path → whys ≡ whys_before ++ told_of asked 1 (length hops) ∷ []
        → IsWitness (may_shape form.program form.analysis) (column_transfer form asked.bit) asked.point path
        → IsToldMore form asked whys_before whys hops_before hops
    told_some path more put witness = record {
      own = map hop_part path;
      told = told_of asked 1 (length hops);
      hops_are = more;
      whys_are = put;
      end = refl;
      why = λ number is. record {
        point = refl;
        bit = refl;
        why = inl (
          refl,
          record {
            hops = path;
            are = record {
              analysis = form.analysis;
              is_analysis = is;
              there = is_there number;
              witness = subst (λ (t : Transfer). IsWitness (may_shape form.program form.analysis) t asked.point path) transfer_is witness;
            };
            same = refl;
          },
        );
      };
    }

module _ (program : Program) (analysis : ℕ) (a t : NumberedWhy) (own : List NumberedHop) (is : IsToldWhy program analysis a t own) where
  -- one bit more is told behind the others
  one_behind : (start : ℕ) (asked told : List NumberedWhy) (hops : List NumberedHop) → AreWhysFrom program analysis start asked told hops
      → t.end ≡ start + length (hops ++ own) → AreWhysFrom program analysis start (asked ++ a ∷ []) (told ++ t ∷ []) (hops ++ own)
  one_behind start [] [] hops none end = (
    own,
    [],
    ap (λ (h : List NumberedHop). h ++ own) none ∙ sym (append-nil own),
    is,
    end ∙ ap (λ (h : List NumberedHop). start + length (h ++ own)) none,
    refl,
  )
  one_behind start [] (b ∷ told) hops none end = absurd none
  one_behind start (b ∷ asked) [] hops none end = absurd none
  one_behind start (b ∷ asked) (u ∷ told) hops (first, others, are, one, ends, rest) end = (
    first,
    others ++ own,
    ap (λ (h : List NumberedHop). h ++ own) are ∙ append_assoc first others own,
    one,
    ends,
    one_behind u.end asked told others rest (end ∙ behind),
  )
    where
      behind : start + length (hops ++ own) ≡ u.end + length (others ++ own)
      behind =
          let long : length (hops ++ own) ≡ length first + length (others ++ own) =
          ap (λ (h : List NumberedHop). length (h ++ own)) are ∙ (ap length (append_assoc first others own) ∙ length-append first (others ++ own)) in
          omega (arith, long, ends)

-- so many are told, and one more
pub one_more : (form : Selection) (number : ℕ) (asked : List NumberedWhy) (n : ℕ) (a : NumberedWhy) (whys whys_more : List NumberedWhy)
    (hops hops_more : List NumberedHop) → take (n + 1) asked ≡ take n asked ++ a ∷ [] → IsToldMore form a whys whys_more hops hops_more
    → AreToldTo form number asked n whys hops → AreToldTo form number asked (n + 1) whys_more hops_more
one_more form number asked n a whys whys_more hops hops_more longer more before is =
    subst (λ (list : List NumberedWhy). AreWhysFrom form.program number 0 list whys_more hops_more) (sym longer)
    (subst (λ (w : List NumberedWhy). AreWhysFrom form.program number 0 (take n asked ++ a ∷ []) w hops_more) (sym more.whys_are)
    (subst (AreWhysFrom form.program number 0 (take n asked ++ a ∷ []) (whys ++ more.told ∷ [])) (sym more.hops_are)
    (one_behind form.program number a more.told more.own (more.why number is) 0 (take n asked) whys hops (before is)
    end)))
  where
    end : more.told.end ≡ 0 + length (hops ++ more.own)
    end =
        let long : more.told.end ≡ length (hops ++ more.own) = more.end ∙ ap length more.hops_are in
        omega (arith, long)

-- as many are told as are asked
pub as_many : (program : Program) (analysis start : ℕ) (asked told : List NumberedWhy) (hops : List NumberedHop)
    → AreWhysFrom program analysis start asked told hops → length told ≡ length asked
as_many program analysis start [] [] hops is = refl
as_many program analysis start [] (t ∷ told) hops is = absurd is
as_many program analysis start (a ∷ asked) [] hops is = absurd is
as_many program analysis start (a ∷ asked) (t ∷ told) hops (own, others, are, one, ends, rest) =
    let same : length told ≡ length asked = as_many program analysis t.end asked told others rest in
    omega (arith, same)

-- one more of a list
abbrev pub no_why : NumberedWhy
no_why = record { point = 0; bit = 0; has = 0; end = 0 }

pub longer : (asked : List NumberedWhy) (n : ℕ) → n < length asked → take (n + 1) asked ≡ take n asked ++ slice_index_or asked n no_why ∷ []
longer asked n within =
    let next : n + 1 ≡ suc n = omega arith in
    ap (λ k. take k asked) next ∙ take-suc asked n no_why within

-- so many that are asked are there
abbrev pub AreAskedTo : Selection → List NumberedWhy → ℕ → Type 0
AreAskedTo form asked n = (i : ℕ) (why : NumberedWhy) → i < n → slice_get asked i ≡ Some why → IsAskedIn form why

pub one_asked : (form : Selection) (asked : List NumberedWhy) (n : ℕ) → n < length asked → IsAskedIn form (slice_index_or asked n no_why)
    → AreAskedTo form asked n → AreAskedTo form asked (n + 1)
one_asked form asked n within here before i why low at = elim (cases_eq i n) [
  | inl same ↦
      let found : Some (slice_index_or asked n no_why) ≡ Some why =
      sym (slice_get-get_or asked n no_why within) ∙ (ap (slice_get asked) (sym same) ∙ at) in
      let one : slice_index_or asked n no_why ≡ why = cc found in
      subst (IsAskedIn form) one here
  | inr other ↦ let below : i < n = omega (arith, low, other) in before i why below at
]
