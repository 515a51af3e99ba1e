use Rattle.lpf_package.proofs.Common.{rules, some_give, lpf_of}
use Rattle.lpf_package.proofs.LpfForms.{flow_is}
use Rattle.lpf_package.proofs.model.read_lpf.Goals as goal

pub returns-in-Ok-clause-form : goal.returns-in-Ok-clause-form
unfolding lpf_of
returns-in-Ok-clause-form g c = some_give (λ files. flow_is files c.args.file.now c.args.bytes.now c.args.model) c.some_agree.ensures (search rules)
