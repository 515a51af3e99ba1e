use Rattle.water_conductances.proofs.Common.{FitsSigned, rules, to_z-of_z, w128, number, ceiling_or_limit, ceiling_units}
use Rattle.water_conductances.proofs.edges.ceiling_of.Goals as goal

pub returns-clause-ceiling : goal.returns-clause-ceiling
returns-clause-ceiling c =
    let fits : FitsSigned w128 c.unwrap_or.result = search rules in
    simp to_z-of_z (ceiling_units c.args.x 18 _ (ceiling_or_limit (number c.args.x) c.ceil_at.result _ c.unwrap_or.ensures c.requires.high c.ceil_at.ensures.ceiling c.ceil_at.ensures.past))
