-- From the groups of edges to what stands in the lists of a point or a procedure
use Rattle.std.proofs.Common.{◌≡◌, ℕ, ◌+◌, ◌-◌, ◌<◌, ◌≤◌, Bool, List, length, get_or, take, drop, map, refl, sym, ap, subst, ◌∙◌, arith, Contains}
use Rattle.std.specs.List.{slice_range}
use Rattle.std.proofs.lemmas.List.{length-map, length-take-le, length-drop, get_or-map, get_or-take, get_or-drop, get_or_default}
use Rattle.std.proofs.lemmas.List.Elements.{All-contains_itself}
use Rattle.tac_program.specs.Programs.{Program}
use Rattle.flow_graph.specs.declared.analysis.Analysis.{Analysis}
use Rattle.flow_graph.specs.declared.edge.Edge.{Edge}
use Rattle.flow_graph.specs.declared.edge.Edge.TheVariants.{Step, Call, Ret}
use Rattle.flow_graph.specs.Paths.{Shape, IsEdge}
use Rattle.worklist.specs.Groups.{AreGroups, IsPlaceOf}
use Rattle.flow_links.specs.LinkLists.{AreStepsFrom, AreCallsFrom, AreCallersOf, AreSitesIn, IsCallLink, IsCallerOf, IsSiteLink}
use Rattle.flow_graph.specs.Analyses.{is_backward}
use Rattle.flow_graph.specs.Problems.{MayForm}
use Rattle.flow_links.specs.Shapes.{LinkedProgram, IsNumbered, after_site}
use Rattle.flow_links.specs.Tables.EdgeLists.{AreListed, edge_at, key_of, step_target, call_source, call_link, site_link}
use Rattle.flow_links.specs.declared.link.CallLink.{CallLink}
use Rattle.flow_links.specs.declared.link.SiteLink.{SiteLink}
use Rattle.flow_links.specs.declared.list_kind.ListKind.TheVariants.{Steps, Calls, Callers, Sites}

-- values in the order of groups are listed by their keys
module _ {Value : Type 0} (edges : List Edge) (key : Edge → ℕ) (value : Edge → Value) (count : ℕ) (starts places : List ℕ) (items : List Value)
    (groups : AreGroups (map key edges) (count + 1) starts places)
    (are : items ≡ map (λ place. value (edge_at edges place)) (take (get_or starts count 0) places)) where
  last_within : get_or starts count 0 ≤ length places
  last_within =
      let up = groups.rising count (count + 1) (omega arith) (omega arith) in
      let end = groups.within count (omega arith) in
      let size = groups.size in
      omega (arith, up, end, size)

  item_count : length items ≡ get_or starts count 0
  item_count = ap length are ∙ (length-map (take (get_or starts count 0) places) (λ place. value (edge_at edges place))
      ∙ length-take-le (get_or starts count 0) places last_within)

  item_at : (j : ℕ) (d : Value) → j < get_or starts count 0 → get_or items j d ≡ value (edge_at edges (get_or places j 0))
  item_at j d low =
      let taken = length-take-le (get_or starts count 0) places last_within in
      ap (λ xs. get_or xs j d) are
      ∙ (get_or-map (λ place. value (edge_at edges place)) (take (get_or starts count 0) places) j 0 d (omega (arith, low, taken))
      ∙ ap (λ p. value (edge_at edges p)) (get_or-take (get_or starts count 0) places j 0 low))

  same_edge : (place : ℕ) (edge : Edge) → place < length edges → get_or edges place edge ≡ edge → edge_at edges place ≡ edge
  same_edge place edge within is = get_or_default edges place (Step 0 0) edge within ∙ is

  key_at : (place : ℕ) → place < length edges → get_or (map key edges) place 0 ≡ key (edge_at edges place)
  key_at place within = get_or-map key edges place (Step 0 0) 0 within

  pub values_are_listed : AreListed edges key value count starts items
  values_are_listed = record {
    start_count = let made = groups.start_count in omega (arith, made);
    rising = λ k low. groups.rising k (k + 1) (omega arith) (omega (arith, low));
    within = λ k low. let up = groups.rising (k + 1) count (omega (arith, low)) (omega arith) in omega (arith, up, item_count);
    listed = λ edge there low.
        let keys : length (map key edges) ≡ length edges = length-map edges key in
        let within = there.1 in
        let same : edge_at edges there.0 ≡ edge = same_edge there.0 edge within there.2 in
        let place = groups.listed there.0 (omega (arith, keys, within)) in
        let key_is : get_or (map key edges) there.0 0 ≡ key edge = key_at there.0 within ∙ ap key same in
        let at_key : IsPlaceOf starts (key edge) place.0 = subst (λ n. IsPlaceOf starts n place.0) key_is place.1 in
        let high = at_key.high in
        let up = groups.rising (key edge + 1) count (omega (arith, low)) (omega arith) in
        (place.0, at_key, λ d. item_at place.0 d (omega (arith, high, up)) ∙ ap value (ap (edge_at edges) place.2 ∙ same));
    only = λ k j low place.
        let keys : length (map key edges) ≡ length edges = length-map edges key in
        let group = groups.only k j (omega (arith, low)) place in
        let inside = group.0 in
        let within : get_or places j 0 < length edges = omega (arith, keys, inside) in
        let high = place.high in
        let up = groups.rising (k + 1) count (omega (arith, low)) (omega arith) in (
          edge_at edges (get_or places j 0),
          (get_or places j 0, within, get_or_default edges (get_or places j 0) (edge_at edges (get_or places j 0)) (Step 0 0) within),
          sym (key_at (get_or places j 0) within) ∙ group.1,
          λ d. item_at j d (omega (arith, high, up)),
        );
  }

-- what stands in the list of one number
module _ {Value : Type 0} {edges : List Edge} {key : Edge → ℕ} {value : Edge → Value} {count : ℕ} {starts : List ℕ} {items : List Value}
    (are : AreListed edges key value count starts items) (k : ℕ) (low : k < count) where
  part_length : length (slice_range items (get_or starts k 0) (get_or starts (k + 1) 0)) ≡ get_or starts (k + 1) 0 - get_or starts k 0
  part_length =
      let end = are.within k low in
      let rest = length-drop (get_or starts k 0) items in
      length-take-le (get_or starts (k + 1) 0 - get_or starts k 0) (drop (get_or starts k 0) items) (omega (arith, end, rest))

  part_at : (i : ℕ) (d : Value) → i < get_or starts (k + 1) 0 - get_or starts k 0
      → get_or (slice_range items (get_or starts k 0) (get_or starts (k + 1) 0)) i d ≡ get_or items (get_or starts k 0 + i) d
  part_at i d within = get_or-take (get_or starts (k + 1) 0 - get_or starts k 0) (drop (get_or starts k 0) items) i d within
      ∙ get_or-drop (get_or starts k 0) items i d

  pub edge_of : (v : Value) → Contains (slice_range items (get_or starts k 0) (get_or starts (k + 1) 0)) v
      → (edge : Edge) × Contains edges edge × (key edge ≡ k) × (value edge ≡ v)
  edge_of v there =
      let i : ℕ = there.0 in
      let inside = there.1 in
      let len = part_length in
      let within : i < get_or starts (k + 1) 0 - get_or starts k 0 = omega (arith, inside, len) in
      let found = are.only k (get_or starts k 0 + i) low record { low = omega arith; high = omega (arith, within) } in
      (found.0, found.1, found.2, sym (found.3 v) ∙ (sym (part_at i v within) ∙ there.2))

  pub value_of : (edge : Edge) → Contains edges edge → key edge ≡ k
      → Contains (slice_range items (get_or starts k 0) (get_or starts (k + 1) 0)) (value edge)
  value_of edge there is =
      let place = are.listed edge there (subst (λ n. n < count) (sym is) low) in
      let at_k : IsPlaceOf starts k place.0 = subst (λ n. IsPlaceOf starts n place.0) is place.1 in
      let from = at_k.low in
      let to = at_k.high in
      let len = part_length in
      let within : place.0 - get_or starts k 0 < get_or starts (k + 1) 0 - get_or starts k 0 = omega (arith, from, to) in
      let back : get_or starts k 0 + (place.0 - get_or starts k 0) ≡ place.0 = omega (arith, from) in (
        place.0 - get_or starts k 0,
        omega (arith, within, len),
        part_at (place.0 - get_or starts k 0) (value edge) within ∙ (ap (λ n. get_or items n (value edge)) back ∙ place.2 (value edge)),
      )

-- a number that was read from a list
pub read_at : (xs : List ℕ) (k at r : ℕ) → k ≡ at → at < length xs → r ≡ get_or xs k r → r ≡ get_or xs at 0
read_at xs k at r same within is = is ∙ (ap (λ n. get_or xs n r) same ∙ get_or_default xs at r 0 within)

-- the values of the first places
pub same_values : {Value : Type 0} (value : ℕ → Value) (items : List Value) (end first : ℕ) (xs places : List ℕ) → items ≡ map value (take end xs)
    → end ≡ first → xs ≡ places → items ≡ map value (take first places)
same_values value items end first xs places are same_end same_places = are ∙ λ i. map value (take (same_end i) (same_places i))

-- the lists' meanings, of a part that has for each key exactly its edges' values
pub record IsPart {Value : Type 0} (edges : List Edge) (key : Edge → ℕ) (value : Edge → Value) (k : ℕ) (list : List Value) : Type 0 where
  pub only : (v : Value) → Contains list v → (edge : Edge) × Contains edges edge × (key edge ≡ k) × (value edge ≡ v)
  pub listed : (edge : Edge) → Contains edges edge → key edge ≡ k → Contains list (value edge)

pub part_of : {Value : Type 0} {edges : List Edge} {key : Edge → ℕ} {value : Edge → Value} {count : ℕ} {starts : List ℕ} {items : List Value}
    → AreListed edges key value count starts items → (k : ℕ) → k < count
    → IsPart edges key value k (slice_range items (get_or starts k 0) (get_or starts (k + 1) 0))
part_of are k low = record { only = edge_of are k low; listed = value_of are k low }

-- the part of a list that is read
pub part_read : {Value : Type 0} {edges : List Edge} {key : Edge → ℕ} {value : Edge → Value} {count : ℕ} {starts : List ℕ} {items : List Value}
    → AreListed edges key value count starts items
    → (k from to : ℕ) (xs : List Value) → k < count → from ≡ get_or starts k from → to ≡ get_or starts (k + 1) to → xs ≡ items
    → IsPart edges key value k (slice_range xs from to)
part_read {edges = edges} {key = key} {value = value} {starts = starts} are k from to xs low from_is to_is same =
    let long = are.start_count in
    let first : from ≡ get_or starts k 0 = read_at starts k k from refl (omega (arith, long, low)) from_is in
    let next : to ≡ get_or starts (k + 1) 0 = read_at starts (k + 1) (k + 1) to refl (omega (arith, long, low)) to_is in
    subst (λ list. IsPart edges key value k list) (λ i. slice_range (sym same i) (sym first i) (sym next i)) (part_of are k low)

-- the view of a form's links
abbrev seen_in : MayForm → Bool → LinkedProgram
seen_in form backward = record { program = form.program; backward = backward }

-- the form of a program and an analysis
abbrev pub form_of : Program → Analysis → MayForm
form_of program analysis = record { program = program; analysis = analysis }

-- what holds of the program and the direction of a form holds of its links
pub seen : (form : MayForm) (backward : Bool) (now : LinkedProgram) → backward ≡ is_backward form.analysis
    → record { program = form.program; backward = backward } ≡ now
    → (P : LinkedProgram → Type 0) → P record { program = form.program; backward = is_backward form.analysis } → P now
seen form backward now same is P holds = subst P (ap (λ (b : Bool). seen_in form b) (sym same) ∙ is) holds

pub unseen : (form : MayForm) (backward : Bool) (now : LinkedProgram) → backward ≡ is_backward form.analysis
    → record { program = form.program; backward = backward } ≡ now
    → (P : LinkedProgram → Type 0) → P now → P record { program = form.program; backward = is_backward form.analysis }
unseen form backward now same is P holds = subst P (sym (ap (λ (b : Bool). seen_in form b) (sym same) ∙ is)) holds

module _ {shape : Shape} {backward : Bool} {points : ℕ} (numbered : IsNumbered shape backward points) where
  is_step : (x y : ℕ) → x < points → (edge : Edge) → IsEdge shape edge → key_of Steps shape points edge ≡ x → step_target edge ≡ y
      → IsEdge shape (Step x y)
  is_step x y low (Step u v) there key_is value_is = subst (λ n. IsEdge shape (Step n y)) key_is (subst (λ n. IsEdge shape (Step u n)) value_is there)
  is_step x y low (Call site u v) there key_is value_is = absurd (omega (arith, low, key_is))
  is_step x y low (Ret site u v) there key_is value_is = absurd (omega (arith, low, key_is))

  pub steps_are : (x : ℕ) → x < points → (list : List ℕ) → IsPart shape.edges (key_of Steps shape points) step_target x list
      → AreStepsFrom shape points x list
  steps_are x low list part = record {
    in_range = λ k d within. (numbered.edge_in_range (Step x (get_or list k d)) (edge (get_or list k d) (All-contains_itself list k d within))).1;
    listed = λ y. (edge y, λ there. part.listed (Step x y) there refl);
  }
    where
      edge : (y : ℕ) → Contains list y → IsEdge shape (Step x y)
      edge y there = let found = part.only y there in is_step x y low found.0 found.1 found.2 found.3

  is_call_link : (x : ℕ) (link : CallLink) → x < points → (edge : Edge) → IsEdge shape edge → key_of Calls shape points edge ≡ x
      → call_link shape backward edge ≡ link → IsCallLink shape backward x link
  is_call_link x link low (Step u v) there key_is value_is = absurd (omega (arith, low, key_is))
  is_call_link x link low (Call site u v) there key_is value_is = (
    site,
    v,
    subst (λ n. IsEdge shape (Call site n v)) key_is there,
    sym (ap (λ (l : CallLink). l.exit) value_is),
    sym (ap (λ (l : CallLink). l.after) value_is),
  )
  is_call_link x link low (Ret site u v) there key_is value_is = absurd (omega (arith, low, key_is))

  -- the exit of a call's callee, and the point after the call, are points
  pub exit_low : (site x y : ℕ) → IsEdge shape (Call site x y) → shape.exit (shape.procedure_of y) < points
  exit_low site x y there = numbered.exit_in_range (shape.procedure_of y) (numbered.formed.call_to_entry site x y there).0

  pub after_low : (site x y : ℕ) → IsEdge shape (Call site x y) → after_site backward site < points
  after_low site x y there = (numbered.edge_in_range _ ((numbered.one_return site x y (after_site backward site) there).1 refl)).1

  pub calls_are : (x : ℕ) → x < points → (list : List CallLink) → IsPart shape.edges (key_of Calls shape points) (call_link shape backward) x list
      → AreCallsFrom shape backward points x list
  calls_are x low list part = record {
    in_range = λ k d within.
        let found = link (get_or list k d) (All-contains_itself list k d within) in (
          subst (λ n. n < points) (sym found.3) (exit_low found.0 x found.1 found.2),
          subst (λ n. n < points) (sym found.4) (after_low found.0 x found.1 found.2),
        );
    listed = λ l. (link l, back l);
  }
    where
      link : (l : CallLink) → Contains list l → IsCallLink shape backward x l
      link l there = let found = part.only l there in is_call_link x l low found.0 found.1 found.2 found.3

      back : (l : CallLink) → IsCallLink shape backward x l → Contains list l
      back l is =
          let same : call_link shape backward (Call is.0 x is.1) ≡ l = λ i. record { exit = sym is.3 i; after = sym is.4 i } in
          subst (λ v. Contains list v) same (part.listed (Call is.0 x is.1) is.2 refl)

  is_caller : (exit x : ℕ) → exit < points → (edge : Edge) → IsEdge shape edge → key_of Callers shape points edge ≡ exit → call_source edge ≡ x
      → IsCallerOf shape exit x
  is_caller exit x low (Step u v) there key_is value_is = absurd (omega (arith, low, key_is))
  is_caller exit x low (Call site u v) there key_is value_is = (site, v, subst (λ n. IsEdge shape (Call site n v)) value_is there, key_is)
  is_caller exit x low (Ret site u v) there key_is value_is = absurd (omega (arith, low, key_is))

  pub callers_are : (exit : ℕ) → exit < points → (list : List ℕ) → IsPart shape.edges (key_of Callers shape points) call_source exit list
      → AreCallersOf shape points exit list
  callers_are exit low list part = record {
    in_range = λ k d within.
        let found = caller (get_or list k d) (All-contains_itself list k d within) in
        (numbered.edge_in_range (Call found.0 (get_or list k d) found.1) found.2).0;
    listed = λ x. (caller x, λ is. part.listed (Call is.0 x is.1) is.2 is.3);
  }
    where
      caller : (x : ℕ) → Contains list x → IsCallerOf shape exit x
      caller x there = let found = part.only x there in is_caller exit x low found.0 found.1 found.2 found.3

  is_site_link : (procedure : ℕ) (link : SiteLink) → procedure < shape.procedures → (edge : Edge) → IsEdge shape edge
      → key_of Sites shape points edge ≡ procedure → site_link shape edge ≡ link → IsSiteLink shape procedure link
  is_site_link procedure link low (Step u v) there key_is value_is = absurd (omega (arith, low, key_is))
  is_site_link procedure link low (Call site u v) there key_is value_is =
      let point : u ≡ link.point = ap (λ (l : SiteLink). l.point) value_is in (
        site,
        v,
        subst (λ n. IsEdge shape (Call site n v)) point there,
        subst (λ n. shape.procedure_of n ≡ procedure) point key_is,
        sym (ap (λ (l : SiteLink). l.callee) value_is),
      )
  is_site_link procedure link low (Ret site u v) there key_is value_is = absurd (omega (arith, low, key_is))

  pub sites_are : (procedure : ℕ) → procedure < shape.procedures → (list : List SiteLink)
      → IsPart shape.edges (key_of Sites shape points) (site_link shape) procedure list → AreSitesIn shape points procedure list
  sites_are procedure low list part = record {
    in_range = λ k d within.
        let found = link (get_or list k d) (All-contains_itself list k d within) in (
          (numbered.edge_in_range (Call found.0 (get_or list k d).point found.1) found.2).0,
          subst (λ n. n < shape.procedures) (sym found.4) (numbered.formed.call_to_entry found.0 (get_or list k d).point found.1 found.2).0,
        );
    listed = λ l. (link l, back l);
  }
    where
      link : (l : SiteLink) → Contains list l → IsSiteLink shape procedure l
      link l there = let found = part.only l there in is_site_link procedure l low found.0 found.1 found.2 found.3

      back : (l : SiteLink) → IsSiteLink shape procedure l → Contains list l
      back l is =
          let same : site_link shape (Call is.0 l.point is.1) ≡ l = λ i. record { point = l.point; callee = sym is.4 i } in
          subst (λ v. Contains list v) same (part.listed (Call is.0 l.point is.1) is.2 is.3)
