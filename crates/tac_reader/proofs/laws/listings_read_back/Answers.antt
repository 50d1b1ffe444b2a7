use Rattle.tac_reader.proofs.layouts.RoundTrip.{listings_read_back}
use Rattle.tac_reader.proofs.laws.listings_read_back.Goals as goal

pub returns : goal.returns
returns c = listings_read_back
