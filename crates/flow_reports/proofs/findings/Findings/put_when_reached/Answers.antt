use Rattle.std.proofs.Common.{ℕ, ◌++◌, List, map}
use Rattle.std.proofs.lemmas.Result.{on_ok_weaker}
use Rattle.tac_program.specs.Programs.{Program}
use Rattle.flow_reports.specs.Reports.{Knowledge, busy_at, computed_at, dead_at, unset_at}
use Rattle.flow_reports.specs.code.Findings.{knowledge_of}
use Rattle.flow_reports.specs.declared.listed.PlacedRemark.{PlacedRemark}
use Rattle.flow_reports.specs.declared.remark.Remark.{Remark}
use Rattle.flow_reports.specs.declared.remark.Remark.TheVariants.{Unset, Computed, VeryBusy, Dead}
use Rattle.flow_reports.proofs.knowledge.Listed.{then_placed}
use Rattle.flow_reports.proofs.findings.Findings.put_when_reached.Goals as goal

pub returns : goal.returns
returns c =
    let program : Program = c.args.self.now.graph.now in
    let known : Knowledge = knowledge_of c.args.self.now in
    let point : ℕ = c.args.point in
    let old : List PlacedRemark = c.args.remarks.now.items in
    let unset : List Remark = map (λ v. Unset v) (unset_at program known point) in
    let computed : List Remark = map (λ e. Computed e) (computed_at program known point) in
    let busy : List Remark = map (λ e. VeryBusy e) (busy_at program known point) in
    let dead : List Remark = map (λ v. Dead v) (dead_at program known point) in
    on_ok_weaker c.put_dead.result
    (λ put.
    then_placed point old c.put_busy.new.remarks.items c.put_dead.new.remarks.items (unset ++ computed ++ busy) dead
    (then_placed point old c.put_computed.new.remarks.items c.put_busy.new.remarks.items (unset ++ computed) busy
    (then_placed point old c.put_unset.new.remarks.items c.put_computed.new.remarks.items unset computed
    c.in_ok-put_unset.ensures c.in_ok-put_computed.ensures) c.in_ok-put_busy.ensures) put)
    c.put_dead.ensures
