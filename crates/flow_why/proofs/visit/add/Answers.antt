use Rattle.std.proofs.lemmas.Result.{on_ok_weaker}
use Rattle.flow_why.specs.code.Frames.{question_of}
use Rattle.flow_why.proofs.visits.Growing.{put_in_has, put_spreads}
use Rattle.flow_why.proofs.visit.add.Goals as goal

pub returns : goal.returns
returns c = record {
  spreads = on_ok_weaker c.put.result
      (λ put. put_spreads
      (question_of c.args._frame.now) c.args.claim c.args.search.now c.args.mark c.put.new.self put c.requires.marks c.requires.may)
      c.put.ensures;
  has = on_ok_weaker c.put.result (λ put. put_in_has c.args.claim c.args.search.now c.args.mark c.put.new.self put) c.put.ensures;
}
