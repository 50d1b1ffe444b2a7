use Rattle.std.proofs.Common.{◌∙◌, ◌++◌, ◌∷◌, [], List, ap, length, map, subst, sym}
use Rattle.flow_graph.specs.Paths.{SomePathHas}
use Rattle.flow_graph.specs.Problems.{may_shape}
use Rattle.flow_why.specs.Witnesses.{IsWitness}
use Rattle.flow_why.specs.declared.hop.Hop.{Hop}
use Rattle.gen_kill.specs.Selections.{column_transfer}
use Rattle.reason_records.proofs.answers.ManyWhys.{if_none, if_some, on_ok, told_none, told_of, told_some}
use Rattle.reason_records.specs.Why.{hop_part}
use Rattle.reason_records.specs.declared.why.NumberedHop.{NumberedHop}
use Rattle.reason_records.proofs.whys.tell.Goals as goal

pub returns-in-None : goal.returns-in-None
returns-in-None c =
    let form = c.args.why.now.form in
    let none = if_none _ _ c.in_ok-witness.field-0 c.in_ok-witness.ensures.witness c.in-None.is in
    on_ok c.put_why.result
    (λ put. told_none form c.args.asked c.requires.all c.requires.there c.args.told.now.whys.items c.put_why.new.told.whys.items
    c.args.told.now.hops.items c.put_why.new.told.hops.items c.put_why.ensures.hops put
    (subst (λ column. SomePathHas (may_shape form.program form.analysis) (column_transfer form column) c.args.asked.point → ⊥)
    (sym c.requires.bit) none))
    c.put_why.ensures.whys

pub returns-in_ok-put_hops-in-Some : goal.returns-in_ok-put_hops-in-Some
returns-in_ok-put_hops-in-Some c =
    let form = c.args.why.now.form in
    let path = c.in-Some.found.items in
    let witness = if_some _ _ c.in_ok-witness.field-0 c.in-Some.found c.in_ok-witness.ensures.witness c.in-Some.is in
    let hops = c.put_why-in-Some.ensures.hops in
    on_ok c.put_why-in-Some.result
    (λ put. told_some form c.args.asked c.requires.all c.requires.there c.args.told.now.whys.items c.put_why-in-Some.new.told.whys.items
    c.args.told.now.hops.items c.put_why-in-Some.new.told.hops.items path
    (hops ∙ (c.in_ok-put_hops-in-Some.ensures ∙ ap (λ (p : List Hop). c.args.told.now.hops.items ++ map hop_part p) c.as_slice.ensures.value))
    (put ∙ ap (λ (h : List NumberedHop). c.args.told.now.whys.items ++ told_of c.args.asked 1 (length h) ∷ []) (sym hops))
    (subst (λ column. IsWitness (may_shape form.program form.analysis) (column_transfer form column) c.args.asked.point path)
    (sym c.requires.bit) witness))
    c.put_why-in-Some.ensures.whys
