use Rattle.lpf_package.proofs.Common.{begun_held, LinesMay}
use Rattle.lpf_package.proofs.LayerLemmas.{option_leaves, settings_leave}
use Rattle.lpf_package.proofs.model.contents_of.Goals as goal

pub layers_of-requires : goal.layers_of-requires
layers_of-requires g c =
    let begun : LinesMay (g.F.Folder.may c.args.folder.now) c.skip_comments.new.self = rw (c.skip_comments.ensures, c.new-lines.ensures) (begun_held _ _ c.requires.text) in
    record { lines = settings_leave _ _ _ _ _ _ c.in_ok-settings.ensures.settings (option_leaves _ _ _ _ _ c.in_ok-coefficient.ensures begun) }
