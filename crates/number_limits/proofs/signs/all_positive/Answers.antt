use Rattle.number_limits.specs.{is_positive}
use Rattle.number_limits.proofs.SignLemmas.{is_all}
use Rattle.number_limits.proofs.signs.all_positive.Goals as goal

pub returns : goal.returns
returns c = is_all is_positive c.args.values.now c.each_positive.result c.each_positive.ensures
