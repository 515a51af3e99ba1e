use Rattle.decimal_input.proofs.SignedFloors.{floor_means}
use Rattle.decimal_input.proofs.units.floor_at.Goals as goal

pub returns : goal.returns
returns c =
    let means = floor_means c.args.a c.args.s _ c.signed_units.ensures in
    record { is = c.signed_units.ensures; floor = means.0; within = means.1; past = means.2 }
