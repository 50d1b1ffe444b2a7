-- Hops that lead from point to point unfold to paths that do
use Rattle.std.proofs.Common.{◌≡◌, ℕ, Bool, true, false, List, [], ◌∷◌, ◌++◌, Option, Some, IsSome, arith, refl, sym, ◌∙◌, ap, subst}
use Rattle.flow_graph.specs.declared.edge.Edge.{Edge}
use Rattle.flow_graph.specs.declared.edge.Edge.TheVariants.{Step, Call, Ret}
use Rattle.flow_graph.specs.Paths.{Shape, Transfer, IsPath, open_sites_after, root, value_across, value_after}
use Rattle.flow_graph.proofs.paths.PathLemmas.{IsPath-append, open_sites_after-append, value_after-append, nat_eq_same, some_sites}
use Rattle.flow_graph.specs.MatchedPaths.{is_preserved_along}
use Rattle.flow_graph.proofs.paths.Splitting.{sites_kept}
use Rattle.summary_equations.proofs.paths.Sound.{value_after-preserved}
use Rattle.summary_equations.specs.Equations.{CallsAt, ReturnsTo}
use Rattle.flow_why.specs.Witnesses.{HasEffect, IsThroughWitness, IsWitness, StandsFor}
use Rattle.flow_why.specs.code.Moves.{Crosses, Lead, Moves, moves_by_step, moves_into_call, moves_past_call, Stay, effect_between}
use Rattle.flow_why.specs.declared.hop.Hop.{Hop}

-- more before an edge is more behind it, and so along a path
value_across-more : (transfer : Transfer) (edge : Edge) (v w : Bool) → (v ≡ true → w ≡ true) → value_across transfer edge v ≡ true
    → value_across transfer edge w ≡ true
value_across-more transfer (Step x y) v w more has = go (transfer.gen x y) (transfer.kill x y) v w more has
  where
    go : (gens kills v w : Bool) → (v ≡ true → w ≡ true) → value_across (record { gen = λ x y. gens; kill = λ x y. kills; boundary = false })
        (Step 0 0) v ≡ true
        → value_across (record { gen = λ x y. gens; kill = λ x y. kills; boundary = false }) (Step 0 0) w ≡ true
    go true kills v w more has = refl
    go false kills true w more has = rw (more refl) has
    go false kills false w more has = absurd (cc has)
value_across-more transfer (Call site x y) v w more has = more has
value_across-more transfer (Ret site x y) v w more has = more has

pub value_after-more : (transfer : Transfer) (path : List Edge) (v w : Bool) → (v ≡ true → w ≡ true) → value_after transfer path v ≡ true
    → value_after transfer path w ≡ true
value_after-more transfer [] v w more has = more has
value_after-more transfer (edge ∷ path) v w more has = value_after-more transfer path _ _ (value_across-more transfer edge v w more) has

-- what a path between has where it has the effect that is wanted
through_value : (transfer : Transfer) (path : List Edge) (v w before : Bool) → HasEffect transfer (effect_between v w) path → (v ≡ true
    → before ≡ true)
    → w ≡ true → value_after transfer path before ≡ true
through_value transfer path v false before effect fits wanted = absurd (cc wanted)
through_value transfer path false true before effect fits wanted = value_after-more transfer path false before (λ e. absurd (cc e)) effect
through_value transfer path true true before effect fits wanted =
    subst (λ b. value_after transfer path b ≡ true) (sym (fits refl)) (value_after-preserved transfer path effect)

-- a step has it too
crosses_value : (transfer : Transfer) (x y : ℕ) (v w before : Bool) → Crosses transfer x y v w → (v ≡ true → before ≡ true) → w ≡ true
    → value_across transfer (Step x y) before ≡ true
crosses_value transfer x y v false before crosses fits wanted = absurd (cc wanted)
crosses_value transfer x y false true before crosses fits wanted = rw crosses
crosses_value transfer x y true true before crosses fits wanted = go (transfer.gen x y) (transfer.kill x y) before crosses (fits refl)
  where
    go : (gens kills before : Bool) → kills ≡ false → before ≡ true
        → value_across (record { gen = λ x y. gens; kill = λ x y. kills; boundary = false }) (Step 0 0) before ≡ true
    go true kills before unkilled is = refl
    go false true before unkilled is = absurd (cc unkilled)
    go false false before unkilled is = rw is

-- where the bit was had, it is had, and the step does not kill it
crosses_rise : (transfer : Transfer) (x y : ℕ) (v w : Bool) → Crosses transfer x y v w → v ≡ true → w ≡ true
crosses_rise transfer x y false w crosses had = absurd (cc had)
crosses_rise transfer x y true true crosses had = refl
crosses_rise transfer x y true false crosses had = absurd crosses

crosses_keep : (transfer : Transfer) (x y : ℕ) (v w : Bool) → Crosses transfer x y v w → v ≡ true
    → is_preserved_along transfer.kill (Step x y ∷ []) ≡ true
crosses_keep transfer x y false w crosses had = absurd (cc had)
crosses_keep transfer x y true true crosses had = rw crosses
crosses_keep transfer x y true false crosses had = absurd crosses

keep_on : (kill : ℕ → ℕ → Bool) (front back : List Edge) → is_preserved_along kill front ≡ true → is_preserved_along kill back ≡ true
    → is_preserved_along kill (front ++ back) ≡ true
keep_on kill [] back first second = second
keep_on kill (Step x y ∷ front) back first second = grind (arith, keep_on kill front back)
keep_on kill (Call site x y ∷ front) back first second = keep_on kill front back first second
keep_on kill (Ret site x y ∷ front) back first second = keep_on kill front back first second

-- an effect by which the bit is kept
effect_keeps : (transfer : Transfer) (path : List Edge) (v w : Bool) → HasEffect transfer (effect_between v w) path → v ≡ true → w ≡ true
    → is_preserved_along transfer.kill path ≡ true
effect_keeps transfer path v false effect had has = absurd (cc has)
effect_keeps transfer path false true effect had has = absurd (cc had)
effect_keeps transfer path true true effect had has = effect

stay_same : (inner : Bool) (sites : List ℕ) → Stay inner sites (Some sites)
stay_same true sites = refl
stay_same false sites = refl

-- what is known of a path for which a hop stands
record Carries (shape : Shape) (transfer : Transfer) (inner : Bool) (x : ℕ) (v : Bool) (y : ℕ) (w : Bool) (path : List Edge) : Type 0 where
  joins : IsPath shape x path y
  sites : (sites : List ℕ) → Stay inner sites (open_sites_after path (Some sites))
  value : (before : Bool) → (v ≡ true → before ≡ true) → w ≡ true → value_after transfer path before ≡ true
  inside : inner ≡ true → shape.procedure_of x ≡ shape.procedure_of y
  rises : v ≡ true → w ≡ true
  keeps : v ≡ true → is_preserved_along transfer.kill path ≡ true

open_call : (inner : Bool) → inner ≡ false → (site x y : ℕ) (sites : List ℕ) → Stay inner sites (open_sites_after (Call site x y ∷ []) (Some sites))
open_call true outer site x y sites = absurd (cc outer)
open_call false outer site x y sites = refl

module _ (shape : Shape) (transfer : Transfer) where
  -- the path of a call that is passed
  passed_path : (site x procedure z : ℕ) → CallsAt shape site x procedure → ReturnsTo shape site procedure z → (path : List Edge)
      → IsPath shape (shape.entry procedure) path (shape.exit procedure)
      → IsPath shape x (Call site x (shape.entry procedure) ∷ (path ++ Ret site (shape.exit procedure) z ∷ [])) z
  passed_path site x procedure z call return path joins = (
    call.1,
    refl,
    IsPath-append shape path (Ret site (shape.exit procedure) z ∷ []) (shape.entry procedure) (shape.exit procedure) z joins (return, refl, refl),
  )

  -- it leaves the open sites as they were
  passed_sites : (site x u v z : ℕ) (path : List Edge) → open_sites_after path (Some []) ≡ Some [] → (sites : List ℕ)
      → open_sites_after (Call site x u ∷ (path ++ Ret site v z ∷ [])) (Some sites) ≡ Some sites
  passed_sites site x u v z path matched sites =
      open_sites_after-append path (Ret site v z ∷ []) (Some (site ∷ sites))
      ∙ rw (sites_kept path matched (site ∷ sites)) (rw (nat_eq_same site))

  passed_value : (site x u v z : ℕ) (path : List Edge) (before : Bool)
      → value_after transfer (Call site x u ∷ (path ++ Ret site v z ∷ [])) before ≡ value_after transfer path before
  passed_value site x u v z path before = value_after-append transfer path (Ret site v z ∷ []) before

  stay_as : (inner : Bool) (sites : List ℕ) (after : Option (List ℕ)) → after ≡ Some sites → Stay inner sites after
  stay_as inner sites after same = subst (Stay inner sites) (sym same) (stay_same inner sites)

  -- a hop leads as each path for which it stands
  carries : (inner : Bool) (x : ℕ) (v : Bool) (one : Hop) (y : ℕ) (w : Bool) → Moves shape transfer inner x v one y w → (path : List Edge)
      → StandsFor shape transfer one path → Carries shape transfer inner x v y w path
  carries inner _ _ _ _ _ (moves_by_step x y v w edge inside crosses) path stands =
      subst (Carries shape transfer inner x v y w) (sym stands) (record {
        joins = (edge, refl, refl);
        sites = stay_same inner;
        value = λ before. crosses_value transfer x y v w before crosses;
        inside = λ within. inside;
        rises = crosses_rise transfer x y v w crosses;
        keeps = crosses_keep transfer x y v w crosses;
      })
  carries inner _ _ _ _ _ (moves_into_call site x y v outer edge) path stands =
      subst (Carries shape transfer inner x v y v) (sym stands) (record {
        joins = (edge, refl, refl);
        sites = open_call inner outer site x y;
        value = λ before fits wanted. fits wanted;
        inside = λ within. absurd (cc (outer, within));
        rises = λ had. had;
        keeps = λ had. refl;
      })
  carries inner _ _ _ _ _ (moves_past_call site x procedure z v w effect call return inside rises is through) path stands =
      subst (Carries shape transfer inner x v z w) (sym stands.1) (record {
        joins = passed_path site x procedure z call return stands.0 stands.2.0.0;
        sites = λ sites. stay_as inner sites _ (passed_sites site x (shape.entry procedure) (shape.exit procedure) z stands.0 stands.2.0.1 sites);
        value = λ before fits wanted. passed_value site x (shape.entry procedure) (shape.exit procedure) z stands.0 before
            ∙ through_value transfer stands.0 v w before (subst (λ e. HasEffect transfer e stands.0) is stands.2.1) fits wanted;
        inside = λ within. inside;
        rises = rises;
        keeps = λ had. keep_on transfer.kill stands.0 (Ret site (shape.exit procedure) z ∷ [])
            (effect_keeps transfer stands.0 v w (subst (λ e. HasEffect transfer e stands.0) is stands.2.1) had (rises had)) refl;
      })

  -- and it stands for one
  stands : (inner : Bool) (x : ℕ) (v : Bool) (one : Hop) (y : ℕ) (w : Bool) → Moves shape transfer inner x v one y w
      → (path : List Edge) × StandsFor shape transfer one path
  stands inner _ _ _ _ _ (moves_by_step x y v w edge inside crosses) = (Step x y ∷ [], refl)
  stands inner _ _ _ _ _ (moves_into_call site x y v outer edge) = (Call site x y ∷ [], refl)
  stands inner _ _ _ _ _ (moves_past_call site x procedure z v w effect call return inside rises is through) =
      (Call site x (shape.entry procedure) ∷ (through.0 ++ Ret site (shape.exit procedure) z ∷ []), (through.0, refl, through.1))

  -- no hops lead from a point to itself
  pub lead_none : (inner : Bool) (x : ℕ) (v : Bool) → Lead shape transfer inner x v [] x v
  lead_none inner x v = record {
    unfolds = ([], refl);
    joins = λ path none. subst (λ p. IsPath shape x p x) (sym none) refl;
    sites = λ path none sites. subst (λ p. Stay inner sites (open_sites_after p (Some sites))) (sym none) (stay_same inner sites);
    value = λ path none before fits wanted. subst (λ p. value_after transfer p before ≡ true) (sym none) (fits wanted);
    inside = λ within. refl;
    rises = λ had. had;
    keeps = λ path none had. subst (λ p. is_preserved_along transfer.kill p ≡ true) (sym none) refl;
  }

  stay_on : (inner : Bool) (front back : List Edge) (sites : List ℕ) → ((s : List ℕ) → Stay inner s (open_sites_after front (Some s)))
      → ((s : List ℕ) → Stay inner s (open_sites_after back (Some s))) → Stay inner sites (open_sites_after (front ++ back) (Some sites))
  stay_on true front back sites first second =
      open_sites_after-append front back (Some sites) ∙ (ap (open_sites_after back) (first sites) ∙ second sites)
  stay_on false front back sites first second =
      let (after, is) = some_sites (open_sites_after front (Some sites)) (first sites) in
      subst IsSome (sym (open_sites_after-append front back (Some sites) ∙ ap (open_sites_after back) is)) (second after)

  -- a hop before others that lead
  pub lead_more : (inner : Bool) (x : ℕ) (v : Bool) (one : Hop) (y : ℕ) (w : Bool) (hops : List Hop) (z : ℕ) (u : Bool)
      → Moves shape transfer inner x v one y w
      → Lead shape transfer inner y w hops z u → Lead shape transfer inner x v (one ∷ hops) z u
  lead_more inner x v one y w hops z u move rest =
      let (front, first) = stands inner x v one y w move in record {
        unfolds = (front ++ rest.unfolds.0, (front, rest.unfolds.0, refl, first, rest.unfolds.1));
        joins = λ path is. subst (λ p. IsPath shape x p z) (sym is.2)
            (IsPath-append shape is.0 is.1 x y z (carries inner x v one y w move is.0 is.3).joins (rest.joins is.1 is.4));
        sites = λ path is sites. subst (λ p. Stay inner sites (open_sites_after p (Some sites))) (sym is.2)
            (stay_on inner is.0 is.1 sites (carries inner x v one y w move is.0 is.3).sites (rest.sites is.1 is.4));
        value = λ path is before fits wanted. subst (λ p. value_after transfer p before ≡ true) (sym is.2)
            (value_after-append transfer is.0 is.1 before
            ∙ rest.value is.1 is.4 (value_after transfer is.0 before) (λ e. (carries inner x v one y w move is.0 is.3).value before fits e) wanted);
        inside = λ within. (carries inner x v one y w move front first).inside within ∙ rest.inside within;
        rises = λ had. rest.rises ((carries inner x v one y w move front first).rises had);
        keeps = λ path is had. subst (λ p. is_preserved_along transfer.kill p ≡ true) (sym is.2)
            (keep_on transfer.kill is.0 is.1 ((carries inner x v one y w move is.0 is.3).keeps had)
            (rest.keeps is.1 is.4 ((carries inner x v one y w move front first).rises had)));
      }

  -- hops from the beginning are a witness
  pub witness_of : (v : Bool) (point : ℕ) (hops : List Hop) → (v ≡ true → transfer.boundary ≡ true)
      → Lead shape transfer false (root shape) v hops point true → IsWitness shape transfer point hops
  witness_of v point hops boundary lead = record {
    unfolds = lead.unfolds;
    valid = λ path is. (lead.joins path is, lead.sites path is []);
    has = λ path is. lead.value path is transfer.boundary boundary refl;
  }

  -- hops inside a procedure from its entry to its exit are one of their effect
  pub through_of : (v w : Bool) (procedure : ℕ) (hops : List Hop) → Lead shape transfer true (shape.entry procedure) v hops (shape.exit procedure) w
      → IsThroughWitness shape transfer procedure (effect_between v w) hops
  through_of v w procedure hops lead = record {
    unfolds = lead.unfolds;
    through = λ path is. ((lead.joins path is, lead.sites path is []), effect v w path (λ before. lead.value path is before) (lead.keeps path is));
  }
    where
      effect : (v w : Bool) (path : List Edge) → ((before : Bool) → (v ≡ true → before ≡ true) → w ≡ true → value_after transfer path before ≡ true)
          → (v ≡ true → is_preserved_along transfer.kill path ≡ true) → HasEffect transfer (effect_between v w) path
      effect v false path value keeps = tt
      effect false true path value keeps = value false (λ e. absurd (cc e)) refl
      effect true true path value keeps = keeps refl
