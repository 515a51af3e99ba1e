use Rattle.bas_package.proofs.Common.{begun_held, LinesMay}
use Rattle.bas_package.proofs.Forward.{head_leaves, option_leaves}
use Rattle.bas_package.proofs.basics.basics_of.Goals as goal

pub read_layers-requires : goal.read_layers-requires
read_layers-requires g c =
    let begun : LinesMay (g.F.Folder.may c.args.folder.now) c.skip_comments.new.self = rw (c.skip_comments.ensures, c.new-lines.ensures) (begun_held _ _ c.requires.text) in
    record { lines = option_leaves _ _ _ _ c.in_ok-option_line.ensures begun }

pub read_layers-requires-2 : goal.read_layers-requires-2
read_layers-requires-2 g c = record { lines = head_leaves _ _ _ _ c.in_ok-head_item.ensures c.in_ok-ibound.ensures.lines }
