use Rattle.engine.proofs.Common.{rules, ℕ, file_at, Global, Vec}
use Rattle.engine.proofs.Readings.{bad_reading, good_reading}
use Rattle.engine.proofs.reading.read_file.Goals as goal

pub returns-then-not-is_good_name-clause-reads : goal.returns-then-not-is_good_name-clause-reads
returns-then-not-is_good_name-clause-reads g c = λ files agree. bad_reading (λ (v : Vec ℕ Global). v.items) c.args.name.now _ c.bad_name.result (search rules) c.bad_name.ensures

pub returns-clause-reads : goal.returns-clause-reads
returns-clause-reads g c = λ files agree. good_reading (λ (v : Vec ℕ Global). v.items) c.args.name.now (file_at files c.args.name.now) c.read_input.result
    (search rules) (c.read_input.ensures.reads files agree)
