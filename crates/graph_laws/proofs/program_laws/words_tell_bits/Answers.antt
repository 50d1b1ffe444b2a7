use Rattle.flow_graph.proofs.bits.WordTests.{words_tell_bits, words_are_their_bits}
use Rattle.graph_laws.proofs.program_laws.words_tell_bits.Goals as goal

pub returns-clause-bits : goal.returns-clause-bits
returns-clause-bits c = words_tell_bits

pub returns-clause-word : goal.returns-clause-word
returns-clause-word c = words_are_their_bits
