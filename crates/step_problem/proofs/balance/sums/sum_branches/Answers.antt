use Rattle.step_problem.proofs.Common.{◌+◌, ◌*◌, rules, take, sum_by, ◌+ℤ◌, FitsSigned, to_z, w128, w64, to_z-of_z, IsMagnitudeAtMost}
use Rattle.step_problem.proofs.Sums.{total_step, within_step, FitsSigned-part}
use Rattle.step_problem.proofs.balance.sums.sum_branches.Goals as goal

pub overflow_add-sum : goal.overflow_add-sum
overflow_add-sum g c =
    let fits_r : FitsSigned w128 c.flow_at-sum.result = search rules in
    let w : IsMagnitudeAtMost (to_z w128 c.loop-x.sum-bits +ℤ c.flow_at-sum.result)
    (sum_by g.E.Branch.weight (take (c.loop-x.x-index + 1) c.args.entries.now) * g.E.Branch.unit) =
    within_step g.E.Branch.weight c.args.entries.now c.loop-x.x-index g.E.Branch.unit _ _ _ _ c.loop-x-test.true c.x-item.is c.loop-x.invariant.within
    c.flow_at-sum.ensures.within in
    simp to_z-of_z (FitsSigned-part g.E.Branch.weight c.args.entries.now (c.loop-x.x-index + 1) g.E.Branch.unit _ c.requires.weights w)

pub loop-x-preserved : goal.loop-x-preserved
loop-x-preserved g c =
    let fits_r : FitsSigned w128 c.flow_at-sum.result = search rules in
    let fits_own : FitsSigned w64 c.args.own = c.ranges.own in
    let w : IsMagnitudeAtMost (to_z w128 c.loop-x.sum-bits +ℤ c.flow_at-sum.result)
    (sum_by g.E.Branch.weight (take (c.loop-x.x-index + 1) c.args.entries.now) * g.E.Branch.unit) =
    within_step g.E.Branch.weight c.args.entries.now c.loop-x.x-index g.E.Branch.unit _ _ _ _ c.loop-x-test.true c.x-item.is c.loop-x.invariant.within
    c.flow_at-sum.ensures.within in
    let fits_s : FitsSigned w128 (to_z w128 c.loop-x.sum-bits +ℤ c.flow_at-sum.result) =
    FitsSigned-part g.E.Branch.weight c.args.entries.now (c.loop-x.x-index + 1) g.E.Branch.unit _ c.requires.weights w in
    simp to_z-of_z (record {
      value = total_step
          (g.E.Branch.flow c.args.side c.args.own) c.args.entries.now c.loop-x.x-index _ _ _ _ _ c.loop-x-test.true c.x-item.is
          (simp to_z-of_z at c.loop-x.invariant.value) (simp to_z-of_z at c.flow_at-sum.ensures.value);
      within = w;
    })
