use Rattle.barrier_vector.proofs.Common.{rules, ◌+ℤ◌, FitsSigned, w128, to_z-of_z}
use Rattle.barrier_vector.proofs.Gathering.{two_words}
use Rattle.barrier_vector.proofs.gathered.Total.plus.Goals as goal

pub returns-clause-sum : goal.returns-clause-sum
returns-clause-sum c =
    let flow_fits : FitsSigned w128 c.args.flow = c.ranges.flow in
    let quotient_fits : FitsSigned w128 c.div_euclid.result = search rules in
    let remainder_fits : FitsSigned w128 c.rem_euclid.result = search rules in
    let rest_fits : FitsSigned w128 c.rest-rest.result = search rules in
    let high_fits : FitsSigned w128 c.args.self.high = search rules in
    let more_fits : FitsSigned w128 (c.args.self.high +ℤ c.div_euclid.result) = search rules in
    simp to_z-of_z (two_words c.args.self c.args.flow c.rest-rest.result c.div_euclid.result c.rem_euclid.result (simp to_z-of_z at c.rest-rest.ensures)
    (simp to_z-of_z at c.div_euclid.ensures) (simp to_z-of_z at c.rem_euclid.ensures.value))
