use Rattle.model_text.proofs.ZoneTexts.{zones_read}
use Rattle.model_text.proofs.laws.zones_read_as_written.Goals as goal

pub returns : goal.returns
returns c = zones_read
