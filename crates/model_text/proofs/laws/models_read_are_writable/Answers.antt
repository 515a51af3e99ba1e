use Rattle.model_text.proofs.ModelForms.{read_writable}
use Rattle.model_text.proofs.laws.models_read_are_writable.Goals as goal

pub returns : goal.returns
returns c = read_writable
