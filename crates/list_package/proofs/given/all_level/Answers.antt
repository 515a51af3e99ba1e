use Rattle.number_limits.proofs.SignLemmas.{is_all}
use Rattle.list_package.specs.{is_level}
use Rattle.list_package.proofs.given.all_level.Goals as goal

pub returns : goal.returns
returns c = is_all is_level c.args.list.now c.each_level.result c.each_level.ensures
