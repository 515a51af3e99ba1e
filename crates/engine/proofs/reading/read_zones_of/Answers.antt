use Rattle.engine.proofs.Common.{rules, err_from_is_err_and, List, Ok, Option, refl, ℕ}
use Rattle.engine.proofs.Readings.{reads_as, stops_as, stops_first, zones_fit, zones_were_read}
use Rattle.engine.proofs.reading.read_zones_of.Goals as goal

pub returns-in_default-clause-zones : goal.returns-in_default-clause-zones
returns-in_default-clause-zones g c = λ files agree. rw c.in_default.is refl

pub returns-in_err-read-clause-zones : goal.returns-in_err-read-clause-zones
returns-in_err-read-clause-zones g c =
    let p = err_from_is_err_and c.from_residual.result c.from_residual.ensures.1 in
    λ files agree. rw (c.in-Some.is, p.1, p.2) (stops_first (λ (z : Option (List ℕ)). z) _ _ c.in_err-read.field-0.0 (c.in_err-read.ensures.zones files agree))

pub returns-in_err-numbers-clause-zones : goal.returns-in_err-numbers-clause-zones
returns-in_err-numbers-clause-zones g c =
    let p = err_from_is_err_and c.from_residual-in_err-numbers.result c.from_residual-in_err-numbers.ensures.1 in
    λ files agree. rw (p.1, p.2) tt

pub returns-clause-zones : goal.returns-clause-zones
returns-clause-zones g c = λ files agree.
    rw (c.in-Some.is, c.new.ensures) (zones_were_read _ c.in_ok-read.read.items c.in_ok-numbers.numbers.items (c.in_ok-read.ensures.zones files agree)
    (search rules))

pub returns-clause-fit : goal.returns-clause-fit
returns-clause-fit g c = rw c.new.ensures (zones_fit c.args.model.now c.in_ok-read.read.items c.in_ok-numbers.numbers.items (search rules) c.in_ok-read.ensures.count c.in_ok-numbers.ensures.limits)

pub read_zones-requires-clause-may : goal.read_zones-requires-clause-may
read_zones-requires-clause-may g c = rw c.in-Some.is at c.requires.may

pub returns-in_err-read-clause-folder : goal.returns-in_err-read-clause-folder
returns-in_err-read-clause-folder g c = stops_as g.F.Folder c.args.folder.now c.read_zones.new.folder c.in_err-read.field-0.0 c.from_residual.result
    c.from_residual.ensures.1 c.in_err-read.ensures.folder

pub returns-in_err-numbers-clause-folder : goal.returns-in_err-numbers-clause-folder
returns-in_err-numbers-clause-folder g c =
    let p = err_from_is_err_and c.from_residual-in_err-numbers.result c.from_residual-in_err-numbers.ensures.1 in
    reads_as g.F.Folder c.args.folder.now c.read_zones.new.folder c.in_ok-read.read c.from_residual-in_err-numbers.result c.in_ok-read.ensures.folder (rw (p.1, p.2) refl)

pub returns-clause-folder : goal.returns-clause-folder
returns-clause-folder g c = reads_as g.F.Folder c.args.folder.now c.read_zones.new.folder c.in_ok-read.read (Ok _) c.in_ok-read.ensures.folder refl
