use Rattle.zone_file.proofs.Common.{folder_name, rules, array_files_have_form, some_give, zones_of}
use Rattle.record_lines.proofs.Forward.{name_held, text_held}
use Rattle.zone_file.proofs.ZoneLemmas.{zones_give}
use Rattle.zone_file.proofs.zones.read_zones.Goals as goal

pub read_input-requires-clause-may : goal.read_input-requires-clause-may
read_input-requires-clause-may g c =
    let asked : g.F.Folder.may c.args.folder.now (folder_name c.as_bytes.result.now) = rw c.as_bytes.ensures.value c.requires.may in
    (name_held (g.F.Folder.may c.args.folder.now) _ _ _ asked).gives _ c.in_ok-file.ensures.name

pub read_layers-requires : goal.read_layers-requires
read_layers-requires g c = record { lines = rw (c.new-lines.ensures, c.deref.ensures.value) (text_held _ 1 _ c.in_ok-bytes.ensures.words) }

pub test_zones-requires-clause-count : goal.test_zones-requires-clause-count
test_zones-requires-clause-count g c =
    let grid = c.args.model.now.grid in
    rw c.deref-2.ensures.value (some_give (λ files.
    array_files_have_form.integer_grids files c.in_ok-file.file.now grid.layers grid.rows grid.cols c.new-lines.result) c.some_agree.ensures (λ files agree.
    c.in_ok-zones.ensures.layers files agree))

pub returns-clause-count : goal.returns-clause-count
unfolding zones_of
returns-clause-count g c = (some_give (λ files. zones_give files c.args.model.now.grid c.args.name.now) c.some_agree.ensures (search rules)).0

pub returns-clause-limits : goal.returns-clause-limits
unfolding zones_of
returns-clause-limits g c = (some_give (λ files. zones_give files c.args.model.now.grid c.args.name.now) c.some_agree.ensures (search rules)).1
