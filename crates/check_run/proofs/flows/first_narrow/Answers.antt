use Rattle.std.proofs.Common.{◌<◌, length, arith}
use Rattle.check_run.proofs.Firsts.{same_zones_at}
use Rattle.check_run.proofs.flows.first_narrow.Goals as goal

pub covers-requires : goal.covers-requires
covers-requires c =
    let lt : c.loop-place.place < length c.args.listed.now = omega (arith, c.loop-place-test.true) in
    record { zones = same_zones_at c.args.listed.now c.args.computed.now c.requires.zones c.loop-place.place lt }
