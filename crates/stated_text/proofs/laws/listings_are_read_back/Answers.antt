use Rattle.stated_text.proofs.ReadBack.{listings_are_read_back}
use Rattle.stated_text.proofs.laws.listings_are_read_back.Goals as goal

pub returns : goal.returns
returns c = listings_are_read_back
