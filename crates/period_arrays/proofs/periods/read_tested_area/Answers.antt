use Rattle.period_arrays.proofs.AreaForms.{area_given}
use Rattle.period_arrays.proofs.periods.read_tested_area.Goals as goal

pub test-requires-clause-area : goal.test-requires-clause-area
test-requires-clause-area g c =
    (area_given (g.F.Folder.agrees c.read_area.new.folder) _ _ _ _ _ (
      c.args.before.now,
      c.args.lines.now,
    ) _ c.requires.size c.requires.before c.contents_of-contents.ensures c.some_agree.ensures c.in_ok-read_area.ensures.area).0

pub returns-clause-before : goal.returns-clause-before
returns-clause-before g c =
    (area_given (g.F.Folder.agrees c.read_area.new.folder) _ _ _ _ _ (
      c.args.before.now,
      c.args.lines.now,
    ) _ c.requires.size c.requires.before c.contents_of-contents.ensures c.some_agree.ensures c.in_ok-read_area.ensures.area).1
