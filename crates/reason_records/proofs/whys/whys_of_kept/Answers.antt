use Rattle.std.proofs.Common.{◌≡◌, List, length, subst, sym}
use Rattle.reason_records.specs.declared.whys.NumberedWhy.{NumberedWhy}
use Rattle.reason_records.proofs.answers.ManyWhys.{as_many}
use Rattle.reason_records.proofs.whys.whys_of_kept.Goals as goal

pub copy_from_slice-requires : goal.copy_from_slice-requires
copy_from_slice-requires c =
    let told = c.in_ok-told.told in
    let many : length told.whys.items ≡ length c.args.asked.now = as_many c.args.kept.now.program c.args.analysis 0 c.args.asked.now
    told.whys.items told.hops.items c.in_ok-told.ensures.told in
    subst (λ (w : List NumberedWhy). length c.args.asked.now ≡ length w) (sym c.as_slice-2.ensures.value) (sym many)
