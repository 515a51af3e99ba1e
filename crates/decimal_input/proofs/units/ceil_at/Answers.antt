use Rattle.decimal_input.proofs.SignedFloors.{ceiling_means}
use Rattle.decimal_input.proofs.units.ceil_at.Goals as goal

pub returns : goal.returns
returns c =
    let means = ceiling_means c.args.a c.args.s _ c.signed_units.ensures in
    record { is = c.signed_units.ensures; ceiling = means.0; within = means.1; past = means.2 }
