use Rattle.std.proofs.Common.{◌≡◌, ◌<◌, ◌≤◌, ◌-◌, ◌∙◌, ℕ, ap, sym, subst, arith}
use Rattle.flow_graph.specs.Points.{end_place, place_of, point_count, point_of}
use Rattle.flow_graph.specs.declared.place.Place.{Place}
use Rattle.flow_links.specs.Shapes.{LinkedProgram}
use Rattle.flow_reasons.specs.Reached.{beside}
use Rattle.flow_reasons.proofs.searches.Reaching.{before_it, found_it, passed_it}
use Rattle.flow_reasons.proofs.reached.last_reached.Goals as goal

pub point-at-requires : goal.point-at-requires
point-at-requires c =
    let program = c.args.graph.now in
    let n : ℕ = c.place-place.result.place - 1 - c.loop-back.back in
    let low : n < (place_of program c.args.point).place = omega (arith, ap (λ (p : Place). p.place) c.place-place.ensures) in
    let is = before_it program c.args.point n c.requires.within low in
    let same = ap (λ (p : Place). p.procedure) c.place-place.ensures in
    record {
      procedure = omega (arith, is.procedure, same);
      place = subst (λ (p : ℕ). n ≤ end_place program p) (sym same) is.place;
    }

pub has_path-requires : goal.has_path-requires
has_path-requires c =
    let program = c.args.graph.now in
    let n : ℕ = c.place-place.result.place - 1 - c.loop-back.back in
    let low : n < (place_of program c.args.point).place = omega (arith, ap (λ (p : Place). p.place) c.place-place.ensures) in
    let is = before_it program c.args.point n c.requires.within low in
    let at_is : c.point-at.result ≡ beside program c.args.point n =
    c.point-at.ensures ∙ ap (λ (p : Place). point_of program p.procedure n) c.place-place.ensures in
    subst (λ (l : LinkedProgram). c.point-at.result < point_count l.program) (sym c.requires.ways) (omega (arith, is.there, at_is))

pub loop-back-init : goal.loop-back-init
loop-back-init c = λ place low high. absurd (omega (arith, low, high, ap (λ (p : Place). p.place) c.place-place.ensures))

pub loop-back-preserved : goal.loop-back-preserved
loop-back-preserved c =
    let program = c.args.graph.now in
    let n : ℕ = c.place-place.result.place - 1 - c.loop-back.back in
    let at_is : c.point-at.result ≡ beside program c.args.point n =
    c.point-at.ensures ∙ ap (λ (p : Place). point_of program p.procedure n) c.place-place.ensures in
    passed_it program c.args.ways.now.linked c.args.point n c.point-at.result c.has_path.result c.requires.ways at_is c.has_path.ensures
    (c.place-place.result.place - c.loop-back.back) c.loop-back.invariant (omega arith) c.if-has_path.false _ (omega arith)

pub returns-then-has_path : goal.returns-then-has_path
returns-then-has_path c =
    let program = c.args.graph.now in
    let n : ℕ = c.place-place.result.place - 1 - c.loop-back.back in
    let low : n < (place_of program c.args.point).place = omega (arith, ap (λ (p : Place). p.place) c.place-place.ensures) in
    let at_is : c.point-at.result ≡ beside program c.args.point n =
    c.point-at.ensures ∙ ap (λ (p : Place). point_of program p.procedure n) c.place-place.ensures in
    found_it program c.args.ways.now.linked c.args.point n c.point-at.result c.has_path.result c.requires.ways at_is c.has_path.ensures
    (c.place-place.result.place - c.loop-back.back) c.loop-back.invariant (omega arith) c.if-has_path.true low

pub returns : goal.returns
returns c = λ place low high. c.loop-back.invariant place (omega (arith, c.loop-back-test.false)) high
