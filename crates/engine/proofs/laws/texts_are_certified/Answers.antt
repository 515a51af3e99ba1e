use Rattle.engine.proofs.TextWritten.{one_span_text, one_text}
use Rattle.engine.proofs.laws.texts_are_certified.Goals as goal

pub returns-clause-one : goal.returns-clause-one
returns-clause-one c = one_text c.run_is_certified.ensures c.run_is_read_again.ensures

pub returns-clause-two : goal.returns-clause-two
returns-clause-two c = one_span_text c.run_is_certified.ensures c.run_is_read_again.ensures
