use Rattle.std.proofs.Common.{refl}
use Rattle.engine.proofs.laws.workers_change_no_case.Goals as goal

pub returns : goal.returns
returns c = record { runs = λ asked to files workers watch. refl; plans = λ asked to files workers. refl; batches = λ asked files workers. refl }
