use Rattle.std.proofs.Common.{◌≡◌, rules}
use Rattle.reason_records.specs.Around.{IsPointFault, TellsDoubt}
use Rattle.tacflow_c.proofs.answers.Asked.{asked}
use Rattle.tacflow_c.proofs.data_calls.tacflow_c_doubt_origin.Goals as goal

pub returns : goal.returns
returns c =
    asked c.asked_status.result c.args.handle.now.held.value c.put.new.self.held.value c.kept.result.now
    (λ program. TellsDoubt program c.args.point c.doubt_origin_of_kept-answer.new.origin)
    (λ _. c.doubt_origin_of_kept-answer.new.origin ≡ c.args.origin.now) (IsPointFault c.args.point) c.doubt_origin_of_kept-answer.result
    (search rules) (search rules) c.asked_status.ensures
    c.doubt_origin_of_kept-answer.ensures.told c.doubt_origin_of_kept-answer.ensures.kept c.doubt_origin_of_kept-answer.ensures.fault
