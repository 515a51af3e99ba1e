use Rattle.period_arrays.proofs.Common.{begun_held, LinesMay}
use Rattle.period_arrays.proofs.Forward.{option_leaves}
use Rattle.period_arrays.proofs.read.read_arrays.Goals as goal

pub read_periods-requires-clause-lines : goal.read_periods-requires-clause-lines
read_periods-requires-clause-lines g c =
    let begun : LinesMay (g.F.Folder.may c.args.folder.now) c.skip_comments.new.self = rw (c.skip_comments.ensures, c.new-lines.ensures) (begun_held _ _ c.requires.text) in
    option_leaves _ _ _ _ _ _ c.in_ok-option.ensures begun
