use Rattle.gen_kill.proofs.bits.SetWords.{set_bit}
use Rattle.gen_kill.proofs.bit_table.BitTable.set.Goals as goal

pub returns-clause-bits : goal.returns-clause-bits
returns-clause-bits c = set_bit c.args.self.now.words.items c.args.self.now.width c.args.row c.args.bit c.index_mut.result.now c.requires.row
    c.requires.bit c.index_mut.ensures.value
