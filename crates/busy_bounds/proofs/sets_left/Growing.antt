-- Sets over a list to which numbers are put.
use Rattle.std.proofs.Common.{◌≡◌, ◌∙◌, ◌+◌, ◌<◌, ◌≤◌, ◌⊎◌, ◌++◌, ◌∷◌, [], ℕ, List, length, slice_index, inl, inr, refl, sym, ap, subst, arith}
use Rattle.std.proofs.Math.ListN.{get_or-append}
use Rattle.std.proofs.Math.Seq.{get_or-append_seam}
use Rattle.std.proofs.lemmas.Bool.{cases_lt}
use Rattle.std.proofs.lemmas.List.{length-append}
use Rattle.busy_bounds.specs.code.Sets.{Grows, IsAmong, IsIn, IsThere}
use Rattle.busy_bounds.specs.declared.bound.Bound.{Bound}
use Rattle.busy_bounds.specs.declared.bound.Bound.TheVariants.{Unknown, Among}

pub stays : (items : List ℕ) → Grows items items
stays items = record { count = omega arith; same = λ i low. refl }

pub grows_on : (a b c : List ℕ) → Grows a b → Grows b c → Grows a c
grows_on a b c one two = record {
  count = omega (arith, one.count, two.count);
  same = λ i low. two.same i (omega (arith, low, one.count)) ∙ one.same i low;
}

pub one_more : (items : List ℕ) (x : ℕ) → Grows items (items ++ x ∷ [])
one_more items x = record {
  count = omega (arith, length-append items (x ∷ []));
  same = λ i low. get_or-append items (x ∷ []) 0 i low;
}

pub last_is : (items : List ℕ) (x start : ℕ) → start ≤ length items → IsAmong (items ++ x ∷ []) start (length (items ++ x ∷ [])) x
last_is items x start low = record {
  place = length items;
  past = low;
  before = omega (arith, length-append items (x ∷ []));
  is = get_or-append_seam items x [] 0;
}

-- what stands at some places stands there still, and at more places
pub among_grown : (old new : List ℕ) (from until number : ℕ) → until ≤ length old → Grows old new → IsAmong old from until number
    → IsAmong new from until number
among_grown old new from until number there grows is = record {
  place = is.place;
  past = is.past;
  before = is.before;
  is = grows.same is.place (omega (arith, is.before, there)) ∙ is.is;
}

pub among_more : (old new : List ℕ) (start number : ℕ) → Grows old new → IsAmong old start (length old) number → IsAmong new start (length new) number
among_more old new start number grows is = record {
  place = is.place;
  past = is.past;
  before = omega (arith, is.before, grows.count);
  is = grows.same is.place is.before ∙ is.is;
}

pub among_wider : (items : List ℕ) (a b until number : ℕ) → a ≤ b → IsAmong items b until number → IsAmong items a until number
among_wider items a b until number low is = record { place = is.place; past = omega (arith, low, is.past); before = is.before; is = is.is }

pub in_grown : (old new : List ℕ) (bound : Bound) (number : ℕ) → IsThere old bound → Grows old new → IsIn old bound number → IsIn new bound number
in_grown old new Unknown number there grows is = is
in_grown old new (Among from until) number there grows is = among_grown old new from until number there grows is

pub there_grown : (old new : List ℕ) (bound : Bound) → IsThere old bound → Grows old new → IsThere new bound
there_grown old new Unknown there grows = there
there_grown old new (Among from until) there grows = omega (arith, there, grows.count)

-- The numbers of the places before one came behind a start, but for some.
pub record HasUpTo (but : ℕ → Type 0) (old new : List ℕ) (from until start : ℕ) : Type 0 where
  pub grows : Grows old new
  pub has : (number : ℕ) → IsAmong old from until number → IsAmong new start (length new) number ⊎ but number

pub none_yet : (but : ℕ → Type 0) (items : List ℕ) (from start : ℕ) → HasUpTo but items items from from start
none_yet but items from start = record { grows = stays items; has = λ number is. absurd (omega (arith, is.past, is.before)) }

pub up_to_more : (but : ℕ → Type 0) (old mid new : List ℕ) (from place start number : ℕ) → place < length old → HasUpTo but old mid from place start
    → Grows mid new → slice_index mid place ≡ number → IsAmong new start (length new) number ⊎ but number
    → HasUpTo but old new from (place + 1) start
up_to_more but old mid new from place start number low before grows is put = record {
  grows = grows_on old mid new before.grows grows;
  has = λ n among. elim (cases_lt among.place place) [
    | inl less ↦
        elim (before.has n (record { place = among.place; past = among.past; before = less; is = among.is })) [
          | inl has ↦ inl (among_more mid new start n grows has)
          | inr out ↦ inr out
        ]
    | inr past ↦
        let at : among.place ≡ place = omega (arith, past, among.before) in
        let same : number ≡ n = sym is ∙ before.grows.same place low ∙ ap (slice_index old) (sym at) ∙ among.is in
        subst (λ m. IsAmong new start (length new) m ⊎ but m) same put
  ];
}

-- a place more
pub among_split : (items : List ℕ) (from place number : ℕ) → IsAmong items from (place + 1) number
    → IsAmong items from place number ⊎ (slice_index items place ≡ number)
among_split items from place number among = elim (cases_lt among.place place) [
  | inl less ↦ inl (record { place = among.place; past = among.past; before = less; is = among.is })
  | inr past ↦
      let at : place ≡ among.place = omega (arith, past, among.before) in
      inr (ap (slice_index items) at ∙ among.is)
]
