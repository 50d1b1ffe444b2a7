use Rattle.std.proofs.Common.{◌<◌, ◌≤◌, ◌∙◌, length, arith, refl, subst, sym}
use Rattle.std.proofs.Math.ListN.{length-set}
use Rattle.flow_why.specs.code.Found.{point_at}
use Rattle.flow_why.proofs.found.Blanking.{all_blanked, one_blanked}
use Rattle.flow_why.proofs.marks.blank_again.Goals as goal

pub loop-mark-init : goal.loop-mark-init
loop-mark-init c = (
  refl,
  record {
    left = λ x i within at.
        let here = c.requires.marked x i within at in
        (here.0, omega arith, here.1);
  },
)

pub loop-mark-preserved : goal.loop-mark-preserved
loop-mark-preserved c =
    let found = c.args.found.now in
    let places = c.loop-mark.places.items in
    let n = c.loop-mark.mark-index in
    let count = c.loop-mark.invariant.0 in
    let low : point_at found n < length places = subst (λ m. point_at found n < m) (sym count) (c.requires.within n c.loop-mark-test.true) in
    (length-set places (point_at found n) 0 ∙ count, one_blanked found n places c.loop-mark.invariant.1 low)

pub returns-clause-blank : goal.returns-clause-blank
returns-clause-blank c x low =
    let found = c.args.found.now in
    let count = c.loop-mark.invariant.0 in
    let end : length found ≤ c.loop-mark.mark-index = omega (arith, c.loop-mark-test.false) in
    all_blanked found c.loop-mark.mark-index c.loop-mark.places.items c.loop-mark.invariant.1 end x (subst (λ m. x < m) (sym count) low)
