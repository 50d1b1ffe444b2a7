-- The test of two links says whether they are the same
use Rattle.std.proofs.Common.{◌≡◌, ℕ, ◌&&◌, Decides, true, nat_eq, eqb-true, refl, ap, subst, ◌∙◌}
use Rattle.std.proofs.lemmas.Bool.{and_parts}
use Rattle.std.proofs.lemmas.Bool.Decides.{Decides-eqb}
use Rattle.flow_links.specs.declared.link.CallLink.{CallLink}
use Rattle.flow_links.specs.declared.link.SiteLink.{SiteLink}

both_same : (m n : ℕ) → (nat_eq m m && nat_eq n n) ≡ true
both_same m n = ap (λ t. t && nat_eq n n) ((Decides-eqb m m).1 refl) ∙ (Decides-eqb n n).1 refl

same_call : (link call : CallLink) → (nat_eq link.exit call.exit && nat_eq link.after call.after) ≡ true → link ≡ call
same_call link call test =
    let (exit, after) = and_parts (nat_eq link.exit call.exit) (nat_eq link.after call.after) test in
    ap (λ x. let l : CallLink = record { exit = x; after = link.after } in l) (eqb-true link.exit call.exit exit)
    ∙ ap (λ x. let l : CallLink = record { exit = call.exit; after = x } in l) (eqb-true link.after call.after after)

pub same_call_test : (link call : CallLink) → Decides (nat_eq link.exit call.exit && nat_eq link.after call.after) (link ≡ call)
same_call_test link call = (
  same_call link call,
  λ same. subst (λ (l : CallLink). (nat_eq link.exit l.exit && nat_eq link.after l.after) ≡ true) same (both_same link.exit link.after),
)

same_site : (link call : SiteLink) → (nat_eq link.point call.point && nat_eq link.callee call.callee) ≡ true → link ≡ call
same_site link call test =
    let (point, callee) = and_parts (nat_eq link.point call.point) (nat_eq link.callee call.callee) test in
    ap (λ x. let l : SiteLink = record { point = x; callee = link.callee } in l) (eqb-true link.point call.point point)
    ∙ ap (λ x. let l : SiteLink = record { point = call.point; callee = x } in l) (eqb-true link.callee call.callee callee)

pub same_site_test : (link call : SiteLink) → Decides (nat_eq link.point call.point && nat_eq link.callee call.callee) (link ≡ call)
same_site_test link call = (
  same_site link call,
  λ same. subst (λ (l : SiteLink). (nat_eq link.point l.point && nat_eq link.callee l.callee) ≡ true) same (both_same link.point link.callee),
)
