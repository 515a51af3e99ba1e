use Rattle.engine.proofs.Common.{rules, FlowModel}
use Rattle.engine.proofs.Readings.{bad_reading, good_reading, reading_of}
use Rattle.engine.proofs.reading.read_named.Goals as goal

pub returns-then-not-is_good_name-clause-reads : goal.returns-then-not-is_good_name-clause-reads
returns-then-not-is_good_name-clause-reads g c = λ files agree. bad_reading (λ (m : FlowModel). m) c.args.name.now _ c.bad_name.result (search rules) c.bad_name.ensures

pub returns-clause-reads : goal.returns-clause-reads
returns-clause-reads g c = λ files agree. good_reading (λ m. m) c.args.name.now _ c.read_named_model.result (search rules)
    (reading_of (λ m. m) _ c.read_named_model.result (c.read_named_model.ensures.model files agree))
