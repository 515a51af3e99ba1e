use Rattle.bas_package.proofs.Common.{rules, some_give, bas_of}
use Rattle.bas_package.proofs.BasForms.{bas_is}
use Rattle.bas_package.proofs.basics.read_bas.Goals as goal

pub returns-in-Ok-clause-form : goal.returns-in-Ok-clause-form
unfolding bas_of
returns-in-Ok-clause-form g c = some_give (λ files. bas_is files c.args.file.now c.args.bytes.now c.args.model) c.some_agree.ensures (search rules)
