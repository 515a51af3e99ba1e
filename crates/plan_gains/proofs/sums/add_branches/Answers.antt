use Rattle.plan_gains.proofs.Common.{branch_gain, counts, next_part_capped, refl}
use Rattle.plan_gains.proofs.TermSums.{branches_added}
use Rattle.plan_gains.proofs.sums.add_branches.Goals as goal

pub loop-x-preserved : goal.loop-x-preserved
loop-x-preserved c = record {
  value = next_part_capped c.args.dir (λ b. counts c.args.term b) (branch_gain c.args.own.low c.args.own.high) c.args.branches.now c.loop-x.x-index _ _ c.loop-x.all _ _
      c.loop-x-test.true refl c.add_branch-all.ensures.value c.loop-x.invariant.value;
  sum = c.add_branch-all.ensures.sum;
}

pub returns-clause-value : goal.returns-clause-value
returns-clause-value c =
    branches_added c.args.dir c.args.term c.args.own.low c.args.own.high c.args.branches.now c.loop-x.x-index c.loop-x.all _ c.loop-x.invariant.sum c.loop-x-test.false
    c.loop-x.invariant.value
