use Rattle.step_problem.proofs.Common.{◌+◌, ◌*◌, ◌^◌, rules, refl, arith, get_or, take, sum_by, pos, ◌+ℤ◌, FitsSigned, to_z, w128, w64, ints, to_z-of_z, no_link, Link, IsMagnitudeAtMost, link_flow}
use Rattle.step_problem.proofs.Sums.{total_step, within_step, FitsSigned-part, link_flow_is}
use Rattle.step_problem.proofs.balance.sums.sum_links.Goals as goal

pub overflow_add-sum : goal.overflow_add-sum
overflow_add-sum c =
    let fits_r : FitsSigned w128 c.link_flow_at-sum.result = search rules in
    let w : IsMagnitudeAtMost (to_z w128 c.loop-i.sum-bits +ℤ c.link_flow_at-sum.result)
    (sum_by (λ (x : Link). x.hi) (take (c.loop-i.i + 1) c.args.links.now) * 2 ^ 63) =
    within_step (λ (x : Link). x.hi) c.args.links.now c.loop-i.i
    (2 ^ 63) no_link _ _ _ c.loop-i-test.true refl c.loop-i.invariant.within c.link_flow_at-sum.ensures.within in
    simp to_z-of_z (FitsSigned-part (λ (x : Link). x.hi) c.args.links.now (c.loop-i.i + 1) (2 ^ 63) _ (omega (arith, c.requires.conductances)) w)

pub loop-i-preserved : goal.loop-i-preserved
loop-i-preserved c =
    let fits_r : FitsSigned w128 c.link_flow_at-sum.result = search rules in
    let fits_own : FitsSigned w64 c.args.own = c.ranges.own in
    let end = c.requires.values c.loop-i.i (pos 0) (omega arith) in
    let fits_end : FitsSigned w64 (get_or c.args.values.now c.loop-i.i (pos 0)) = omega (arith, ints, end.above, end.below) in
    let w : IsMagnitudeAtMost (to_z w128 c.loop-i.sum-bits +ℤ c.link_flow_at-sum.result)
    (sum_by (λ (x : Link). x.hi) (take (c.loop-i.i + 1) c.args.links.now) * 2 ^ 63) =
    within_step (λ (x : Link). x.hi) c.args.links.now c.loop-i.i
    (2 ^ 63) no_link _ _ _ c.loop-i-test.true refl c.loop-i.invariant.within c.link_flow_at-sum.ensures.within in
    let fits_s : FitsSigned w128 (to_z w128 c.loop-i.sum-bits +ℤ c.link_flow_at-sum.result) =
    FitsSigned-part (λ (x : Link). x.hi) c.args.links.now (c.loop-i.i + 1) (2 ^ 63) _ (omega (arith, c.requires.conductances)) w in
    simp to_z-of_z (record {
      value = λ h e. total_step (link_flow c.args.side h c.args.own) c.args.links.now c.loop-i.i no_link _ _ _ _ c.loop-i-test.true refl
          ((simp to_z-of_z at c.loop-i.invariant.value) h e)
          (link_flow_is c.args.side h c.args.own c.args.links.now c.args.values.now c.loop-i.i _ e c.loop-i-test.true
          (simp to_z-of_z at c.link_flow_at-sum.ensures.value));
      within = w;
    })
