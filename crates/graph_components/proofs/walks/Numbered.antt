-- Components get their numbers one by one
use Rattle.std.proofs.Common.{◌≡◌, ◌≢◌, ℕ, zero, suc, ◌+◌, ◌<◌, ◌≤◌, ◌⊎◌, inl, inr, List, [], Bool, true, false, get_or, if◌then◌else◌, refl, sym, ap, ◌∙◌}
use Rattle.std.proofs.Common.{subst, arith, replicate}
use Rattle.std.proofs.lemmas.Bool.{cases_lt}
use Rattle.std.proofs.lemmas.List.{get_or-replicate, length-replicate}
use Rattle.graph_components.specs.Components.{AreComponents, LeadToEachOther}
use Rattle.graph_components.specs.code.Found.{AddsComponent, AreNumbered}
use Rattle.graph_components.specs.declared.arc.Arc.{Arc}
use Rattle.graph_components.proofs.walks.Walks.{each_other_back, each_other_on}

itself : (arcs : List Arc) (x : ℕ) → LeadToEachOther arcs x x
itself arcs x = record { there = ([], refl); back = ([], refl) }

-- two truth values that hold together are one
same_truth : (a b : Bool) → (a ≡ true → b ≡ true) → (b ≡ true → a ≡ true) → a ≡ b
same_truth true b there back = sym (there refl)
same_truth false true there back = back refl
same_truth false false there back = refl

module _ (arcs : List Arc) (nodes start : ℕ) (old new : List ℕ) (below : start < nodes) (numbered : AreNumbered arcs nodes start old)
    (adds : AddsComponent arcs nodes start old new) where
  sound_at : (node root : ℕ) → node < nodes → (b : Bool) → adds.has node ≡ b → (if b then suc start else get_or old node 0) ≡ suc root
      → LeadToEachOther arcs root node
  sound_at node root low true has is =
      let same : start ≡ root = omega (arith, is) in
      subst (λ r. LeadToEachOther arcs r node) same ((adds.tells node low).0 has)
  sound_at node root low false has is = numbered.sound node root low is

  found_at : (node : ℕ) → node < nodes → node < start + 1 → (b : Bool) → adds.has node ≡ b → (if b then suc start else get_or old node 0) ≢ 0
  found_at node low upto true has is = cc is
  found_at node low upto false has is = by_case (cases_lt node start)
    where
      by_case : (node < start) ⊎ (start ≤ node) → ⊥
      by_case (inl before) = numbered.found node before is
      by_case (inr behind) =
          let same : start ≡ node = omega (arith, upto, behind) in
          let there : adds.has node ≡ true = (adds.tells node low).1 (subst (LeadToEachOther arcs start) same (itself arcs start)) in
          cc (has, there)

  pub one_more : AreNumbered arcs nodes (start + 1) new
  one_more = record {
    count = adds.count;
    sound = λ node root low is. sound_at node root low (adds.has node) refl (sym (adds.is node low) ∙ is);
    same = λ one other low high both.
        let has : adds.has one ≡ adds.has other =
        same_truth (adds.has one) (adds.has other)
        (λ is. (adds.tells other high).1 (each_other_on arcs start one other ((adds.tells one low).0 is) both))
        (λ is. (adds.tells one low).1 (each_other_on arcs start other one ((adds.tells other high).0 is) (each_other_back arcs one other both))) in
        adds.is one low ∙ ap (λ b. if b then suc start else get_or old one 0) has
        ∙ ap (λ n. if adds.has other then suc start else n) (numbered.same one other low high both) ∙ sym (adds.is other high);
    found = λ node upto is.
        let low : node < nodes = omega (arith, upto, below) in
        found_at node low upto (adds.has node) refl (sym (adds.is node low) ∙ is);
  }

-- a node that has its number adds none
pub numbered_already : (arcs : List Arc) (nodes start : ℕ) (numbers : List ℕ) → AreNumbered arcs nodes start numbers → get_or numbers start 0 ≢ 0
    → AreNumbered arcs nodes (start + 1) numbers
numbered_already arcs nodes start numbers numbered some = record {
  count = numbered.count;
  sound = numbered.sound;
  same = numbered.same;
  found = λ node upto is. by_case node is (cases_lt node start) upto;
}
  where
    by_case : (node : ℕ) → get_or numbers node 0 ≡ 0 → (node < start) ⊎ (start ≤ node) → node < start + 1 → ⊥
    by_case node is (inl before) upto = numbered.found node before is
    by_case node is (inr behind) upto =
        let same : node ≡ start = omega (arith, upto, behind) in
        some (ap (λ n. get_or numbers n 0) (sym same) ∙ is)

-- none has a number at first
pub none_numbered : (arcs : List Arc) (nodes : ℕ) → AreNumbered arcs nodes 0 (replicate nodes 0)
none_numbered arcs nodes = record {
  count = length-replicate nodes 0;
  sound = λ node root low is.
      let zero_there : get_or (replicate nodes 0) node 0 ≡ 0 = get_or-replicate nodes node 0 0 low in
      let there : 0 ≡ suc root = sym zero_there ∙ is in
      absurd (omega (arith, there));
  same = λ one other low high both. get_or-replicate nodes one 0 0 low ∙ sym (get_or-replicate nodes other 0 0 high);
  found = λ node none is. absurd (omega (arith, none));
}

-- all have theirs at last
pub all_numbered : (arcs : List Arc) (nodes : ℕ) (numbers : List ℕ) → AreNumbered arcs nodes nodes numbers → AreComponents arcs nodes numbers
all_numbered arcs nodes numbers numbered = record {
  count = numbered.count;
  each = λ one other low high. (
    λ same. by_number one other low high (get_or numbers one 0) refl same,
    λ both. numbered.same one other low high both,
  );
}
  where
    by_number : (one other : ℕ) → one < nodes → other < nodes → (n : ℕ) → get_or numbers one 0 ≡ n → get_or numbers one 0 ≡ get_or numbers other 0
        → LeadToEachOther arcs one other
    by_number one other low high zero is same = absurd (numbered.found one low is)
    by_number one other low high (suc root) is same =
        each_other_on arcs one root other (each_other_back arcs root one (numbered.sound one root low is))
        (numbered.sound other root high (sym same ∙ is))
