use Rattle.engine.proofs.Common.{rules, FlowModel, ConvertibleLayers}
use Rattle.engine.proofs.Readings.{bad_reading, good_reading, reading_of}
use Rattle.engine.proofs.reading.read_named_convertible.Goals as goal

pub returns-then-not-is_good_name-clause-reads : goal.returns-then-not-is_good_name-clause-reads
returns-then-not-is_good_name-clause-reads g c = λ files agree.
    bad_reading (λ (x : FlowModel × ConvertibleLayers). x) c.args.name.now _ c.bad_name.result (search rules) c.bad_name.ensures

pub returns-clause-reads : goal.returns-clause-reads
returns-clause-reads g c = λ files agree. good_reading (λ x. x) c.args.name.now _ c.read_named_convertible_model.result (search rules)
    (reading_of (λ x. x) _ c.read_named_convertible_model.result (c.read_named_convertible_model.ensures.model files agree))
