-- Uses that are linked by numbers
use Rattle.std.proofs.Common.{◌≡◌, ◌≢◌, ◌∙◌, ℕ, zero, suc, ◌+◌, ◌<◌, ◌≤◌, Bool, true, false, List, [], ◌∷◌, ◌++◌, Some, length, nat_eq, set, slice_get}
use Rattle.std.proofs.Common.{slice_index, if◌then◌else◌, refl, sym, ap, subst, arith}
use Rattle.std.proofs.Common.{◌-◌, drop, flat_map, get_or}
use Rattle.std.proofs.Math.Seq.{drop-cons}
use Rattle.std.proofs.lemmas.Bool.{eqb-false, eqb-true}
use Rattle.flow_lints.specs.declared.lint.PlacedLint.{PlacedLint}
use Rattle.std.proofs.lemmas.List.{get_or-set_other, get_or-set_same, length-append}
use Rattle.std.proofs.lemmas.Option.{slice_get_within}
use Rattle.lint_texts.specs.code.Uses.{Follow}
use Rattle.lint_texts.specs.code.Uses.Follow.{ended, linked}
use Rattle.lint_texts.specs.declared.uses.Use.{Use}

get_before : (old more : List Use) (place : ℕ) (one : Use) → slice_get old place ≡ Some one → slice_get (old ++ more) place ≡ Some one
get_before [] more place one is = absurd (cc is)
get_before (first ∷ old) more zero one is = is
get_before (first ∷ old) more (suc place) one is = get_before old more place one is

get_last : (old : List Use) (one : Use) → slice_get (old ++ one ∷ []) (length old) ≡ Some one
get_last [] one = refl
get_last (first ∷ old) one = get_last old one

-- what is followed stays where uses are put behind
still : (uses more : List Use) (number : ℕ) (points : List ℕ) → Follow uses number points → Follow (uses ++ more) number points
still uses more _ _ ended = ended
still uses more _ _ (linked place one points there lower rest) =
    linked place one points (get_before uses more place one there) lower (still uses more one.next points rest)

-- a number that is followed is at most how many uses there are
followed_within : (uses : List Use) (number : ℕ) (points : List ℕ) → Follow uses number points → number ≤ length uses
followed_within uses _ _ ended = omega arith
followed_within uses _ _ (linked place one points there lower rest) = omega (arith, slice_get_within uses place one there)

-- A use is put before those of its variable.
module _ (uses : List Use) (heads grown : List ℕ) (variable point number : ℕ) (told : ℕ → List ℕ)
    (before : (v : ℕ) → Follow uses (slice_index heads v) (told v)) (same : (v : ℕ) → slice_index grown v ≡ slice_index heads v)
    (long : variable < length grown) (counted : number ≡ suc (length uses)) where
  abbrev Put : Use → ℕ → Bool → Type 0
  Put last v b =
      Follow (uses ++ last ∷ []) (slice_index (set grown variable number) v) ((if b then point ∷ [] else []) ++ told v)

  put_by : (last : Use) → last ≡ record { point = point; next = slice_index heads variable } → (v : ℕ) (b : Bool) → nat_eq variable v ≡ b → Put last v b
  put_by last is v true equal =
      let this : variable ≡ v = eqb-true variable v equal in
      let at : suc (length uses) ≡ slice_index (set grown variable number) v =
      sym counted ∙ sym (get_or-set_same grown variable number 0 long) ∙ ap (slice_index (set grown variable number)) this in
      let followed : Follow uses last.next (told v) =
      subst (λ n. Follow uses n (told v)) (ap (slice_index heads) (sym this) ∙ sym (ap (λ (u : Use). u.next) is)) (before v) in
      subst (λ n. Follow (uses ++ last ∷ []) n (point ∷ told v)) at
      (subst (λ p. Follow (uses ++ last ∷ []) (suc (length uses)) (p ∷ told v)) (ap (λ (u : Use). u.point) is)
      (linked (length uses) last (told v) (get_last uses last) (followed_within uses last.next (told v) followed)
      (still uses (last ∷ []) last.next (told v) followed)))
  put_by last is v false unequal =
      let other : v ≢ variable = λ e. eqb-false variable v unequal (sym e) in
      subst (λ n. Follow (uses ++ last ∷ []) n (told v)) (sym (get_or-set_other grown variable v number 0 other ∙ same v))
      (still uses (last ∷ []) (slice_index heads v) (told v) (before v))

  pub put_first : (last : Use) → last ≡ record { point = point; next = slice_index heads variable } → (v : ℕ) → Put last v (nat_eq variable v)
  put_first last is v = put_by last is v (nat_eq variable v) refl

-- the same of what the uses are then
pub put_told : (uses now : List Use) (heads grown : List ℕ) (variable point number : ℕ) (last : Use) (told : ℕ → List ℕ)
    → ((v : ℕ) → Follow uses (slice_index heads v) (told v)) → ((v : ℕ) → slice_index grown v ≡ slice_index heads v) → variable < length grown
    → now ≡ uses ++ last ∷ [] → number ≡ length now → last ≡ record { point = point; next = slice_index heads variable }
    → (v : ℕ) → Follow now (slice_index (set grown variable number) v) ((if nat_eq variable v then point ∷ [] else []) ++ told v)
put_told uses now heads grown variable point number last told before same long is counted last_is v =
    let more : length (uses ++ last ∷ []) ≡ length uses + 1 = length-append uses (last ∷ []) in
    let count : number ≡ suc (length uses) = omega (arith, counted ∙ ap length is, more) in
    subst (λ (u : List Use). Follow u (slice_index (set grown variable number) v) ((if nat_eq variable v then point ∷ [] else []) ++ told v)) (sym is)
    (put_first uses heads grown variable point number told before same long count last last_is v)

-- the points of one lint more, before those behind it
pub told_from : (f : PlacedLint → List ℕ) (lints : List PlacedLint) (at : ℕ) (d : PlacedLint) → 0 < at → at ≤ length lints
    → f (get_or lints (at - 1) d) ++ flat_map f (drop at lints) ≡ flat_map f (drop (at - 1) lints)
told_from f lints at d some within =
    let below : at - 1 < length lints = omega (arith, some, within) in
    let next : suc (at - 1) ≡ at = omega (arith, some) in
    sym (ap (flat_map f) (drop-cons lints (at - 1) d below) ∙ ap (λ n. f (get_or lints (at - 1) d) ++ flat_map f (drop n lints)) next)
