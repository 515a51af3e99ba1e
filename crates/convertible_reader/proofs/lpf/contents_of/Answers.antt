use Rattle.convertible_reader.proofs.Common.{LinesMay, begun_held}
use Rattle.convertible_reader.proofs.HeldLemmas.{option_leaves, settings_leave}
use Rattle.convertible_reader.proofs.lpf.contents_of.Goals as goal

pub layers_of-requires : goal.layers_of-requires
layers_of-requires g c =
    let begun : LinesMay (g.F.Folder.may c.args.folder.now) c.skip_comments.new.self = rw (c.skip_comments.ensures, c.new-lines.ensures) (begun_held _ _ c.requires.text) in
    record { lines = settings_leave _ _ _ _ _ _ _ c.in_ok-settings.ensures (option_leaves _ _ _ _ _ c.in_ok-options.ensures begun) }
