use Rattle.cell_relax.proofs.Common.{rules, FitsSigned, w64, to_z-of_z}
use Rattle.cell_relax.proofs.relax.sink_to.Goals as goal

pub returns-clause-sink : goal.returns-clause-sink
returns-clause-sink c =
    let fits_own : FitsSigned w64 c.args.own = search rules in
    let fits : FitsSigned w64 c.relax_to.result = search rules in
    let relaxed = simp to_z-of_z at c.relax_to.ensures.relaxed in
    simp to_z-of_z relaxed
