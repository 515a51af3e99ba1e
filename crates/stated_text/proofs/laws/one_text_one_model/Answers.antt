use Rattle.stated_text.proofs.OneModel.{one_model}
use Rattle.stated_text.proofs.laws.one_text_one_model.Goals as goal

pub returns : goal.returns
returns c = one_model
