use Rattle.plan_gains.proofs.Common.{capped_term, filter_all, map, next_part_capped, parts, plus_pair, refl, true, well_gain, ap, List, Flow, ◌∙◌}
use Rattle.plan_gains.proofs.TermSums.{wells_added}
use Rattle.plan_gains.proofs.sums.add_wells.Goals as goal

pub loop-x-preserved : goal.loop-x-preserved
loop-x-preserved c = record {
  value = next_part_capped c.args.dir (λ q. true) well_gain c.args.wells.now c.loop-x.x-index _ _ c.loop-x.all _ _
      c.loop-x-test.true refl (rw c.well_gain.ensures.value at c.add_part-all.ensures.value) c.loop-x.invariant.value;
  sum = c.add_part-all.ensures.sum;
}

pub returns-clause-value : goal.returns-clause-value
returns-clause-value c =
    wells_added c.args.dir c.args.wells.now c.loop-x.x-index c.loop-x.all _ c.loop-x.invariant.sum c.loop-x-test.false c.loop-x.invariant.value
    ∙ ap (λ (ys : List Flow). capped_term (plus_pair c.args.sum (parts c.args.dir (map well_gain ys)))) (filter_all c.args.wells.now)
