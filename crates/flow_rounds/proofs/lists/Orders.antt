-- Orders, point by point
use Rattle.std.proofs.Common.{◌≡◌, ℕ, ◌+◌, ◌-◌, ◌<◌, ◌≤◌, Bool, true, false, not, ◌&&◌, List, [], ◌∷◌, ◌++◌, refl, sym, ◌∙◌, arith, nat_eq}
use Rattle.std.proofs.Common.{Contains, subst}
use Rattle.std.proofs.Common.{inl, inr, ◌↔◌, if◌then◌else◌, eq-eqb, eqb-true, eq-or-lt_of_le, nat_le, nat_lt, leb-true, ltb-true, le-leb}
use Rattle.std.proofs.Common.{lt-ltb, slice_index_or}
use Rattle.std.specs.List.{list_any}
use Rattle.std.proofs.lemmas.Bool.{and_parts}
use Rattle.std.proofs.lemmas.List.Elements.{Contains-append_left, Contains-append_right, Contains-append_cases}
use Rattle.flow_graph.proofs.lists.Membership.{Contains-first, Contains-later, Contains-nil, Contains-one}
use Rattle.flow_graph.proofs.searches.FiniteSearch.{any_contains, contains_any}
use Rattle.flow_rounds.specs.Steps.{AreApart}
use Rattle.flow_rounds.specs.code.Frames.{IsWithin, TellsColumn}
use Rattle.flow_rounds.specs.code.Orders.{ArePut, is_taken, with_point}
use Rattle.flow_rounds.specs.declared.point_range.PointRange.{PointRange}

apart_more : (order : List ℕ) (point : ℕ) → AreApart order → ¬ (Contains order point) → AreApart (order ++ point ∷ [])
apart_more [] point apart none = (Contains-nil point, tt)
apart_more (first ∷ order) point apart none = (
  (λ among. elim (Contains-append_cases order (point ∷ []) first among) [
    | inl earlier ↦ apart.0 earlier
    | inr last ↦ none (subst (Contains (first ∷ order)) (Contains-one point first last) (Contains-first first order))
  ]),
  apart_more order point apart.1 (λ among. none (Contains-later first order point among)),
)

pub none_put : (points : PointRange) (computed : List Bool) → ArePut points computed 0 []
none_put points computed = record {
  taken = λ point among. absurd (Contains-nil point among);
  once = tt;
  all = λ point below. absurd (omega (arith, below));
}

module _ (points : PointRange) (computed : List Bool) (order : List ℕ) where
  module _ (point : ℕ) where
    abbrev stands : Bool
    stands = list_any (λ other. nat_eq other point) order

    standing : stands ≡ true → Contains order point
    standing is =
        let (other, among, same) = any_contains (λ other. nat_eq other point) order is in
        subst (Contains order) (eqb-true other point same) among

    not_standing : not stands ≡ true → ¬ (Contains order point)
    not_standing none among = absurd (cc (none, contains_any (λ other. nat_eq other point) order point among (eq-eqb point point refl)))

    -- any point may come
    pub put_more : (until : ℕ) → ArePut points computed until order → ArePut points computed until (with_point points computed order point)
    put_more until put = by_test (is_taken points computed point && not stands) refl
      where
        by_test : (b : Bool) → (is_taken points computed point && not stands) ≡ b → ArePut points computed until
            (if b then order ++ point ∷ [] else order)
        by_test false is = put
        by_test true is =
            let (taken, none) = and_parts (is_taken points computed point) (not stands) is in
            record {
              taken = λ p among. elim (Contains-append_cases order (point ∷ []) p among) [
                | inl earlier ↦ put.taken p earlier
                | inr last ↦ subst (λ q. is_taken points computed q ≡ true) (sym (Contains-one point p last)) taken
              ];
              once = apart_more order point put.once (not_standing none);
              all = λ p below is. Contains-append_left order (point ∷ []) p (put.all p below is);
            }

    here : is_taken points computed point ≡ true → Contains (with_point points computed order point) point
    here taken = by_test stands refl
      where
        by_test : (b : Bool) → stands ≡ b → Contains (if is_taken points computed point && not stands then order ++ point ∷ [] else order) point
        by_test true is =
            subst (λ b. Contains (if b then order ++ point ∷ [] else order) point) (sym (λ i. taken i && not (is i))) (standing is)
        by_test false is =
            subst (λ b. Contains (if b then order ++ point ∷ [] else order) point) (sym (λ i. taken i && not (is i)))
            (Contains-append_right order (point ∷ []) point (Contains-first point []))

    -- the next point comes
    pub put_next : ArePut points computed point order → ArePut points computed (point + 1) (with_point points computed order point)
    put_next put =
        let more : ArePut points computed point (with_point points computed order point) = put_more point put in
        record {
          taken = more.taken;
          once = more.once;
          all = λ p below is. elim (eq-or-lt_of_le (let few : p ≤ point = omega (arith, below) in few)) [
            | inl same ↦ subst (Contains (with_point points computed order point)) (sym same)
                (here (subst (λ q. is_taken points computed q ≡ true) same is))
            | inr earlier ↦ more.all p earlier is
          ];
        }

  -- none is taken before the first
  pub put_before : ArePut points computed 0 order → ArePut points computed points.first order
  put_before put = record {
    taken = put.taken;
    once = put.once;
    all = λ p below is. absurd (let low : points.first ≤ p = leb-true points.first p
        (and_parts (nat_le points.first p) (nat_lt p points.end && slice_index_or computed (p - points.first) false) is).0 in omega
        (arith, low, below));
  }

  -- the order has each point that is computed
  pub put_all : (test : ℕ → Bool) → TellsColumn points test computed → ArePut points computed points.end order
      → (point : ℕ) → Contains order point ↔ (IsWithin points point × (test point ≡ true))
  put_all test tells put point = (
    to,
    λ (within, is). put.all point within.1 (λ i.
        le-leb points.first point within.0 i && (lt-ltb point points.end within.1 i && (tells.each point within.0 within.1 ∙ is) i)),
  )
    where
      to : Contains order point → IsWithin points point × (test point ≡ true)
      to among =
          let (low, rest) = and_parts (nat_le points.first point) (nat_lt point points.end && slice_index_or computed (point - points.first) false)
          (put.taken point among) in
          let (high, has) = and_parts (nat_lt point points.end) (slice_index_or computed (point - points.first) false) rest in
          let first : points.first ≤ point = leb-true points.first point low in
          let last : point < points.end = ltb-true point points.end high in
          ((first, last), sym (tells.each point first last) ∙ has)
