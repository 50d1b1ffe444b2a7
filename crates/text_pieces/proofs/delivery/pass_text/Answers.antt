use Rattle.std.proofs.Common.{rules, refl}
use Rattle.text_pieces.specs.Devices.{AppendsBeginning}
use Rattle.text_pieces.proofs.sinks.Taking.{begun}
use Rattle.text_pieces.proofs.delivery.pass_text.Goals as goal

pub returns-clause-beginning : goal.returns-clause-beginning
returns-clause-beginning g c =
    let out : AppendsBeginning (g.K.Sink.contents c.args.sink.now) (g.K.Sink.contents c.end.new.self.sink.now) (g.T.Text.bytes c.args.text.now) =
    begun _ _ _ _ _ c.new-out.ensures refl refl c.write.ensures c.end.ensures.writes in
    search (rules, out)
