use Rattle.budget_bounds.specs.{entry_pair, is_term, sum_of}
use Rattle.budget_bounds.proofs.Caps.{next_part_capped, ends}
use Rattle.budget_bounds.proofs.sums.add_entries.Goals as goal

pub loop-x-preserved : goal.loop-x-preserved
loop-x-preserved g c = record {
  value = λ t. next_part_capped c.args.dir (λ x. is_term t (g.E.Entry.of x))
      (entry_pair g.E.Branch.flow c.args.own.low c.args.own.high) c.args.entries.now c.loop-x.x-index _ _
      (sum_of c.loop-x.sums t) _ _ c.loop-x-test.true c.x-item.is (rw (c.term.ensures, c.entry_pair.ensures.value) at (c.add_flow.ensures.value t))
      (c.loop-x.invariant.value t);
  sums = c.add_flow.ensures.sums;
}

pub returns-clause-value : goal.returns-clause-value
returns-clause-value g c = λ t. ends c.args.dir (λ x. is_term t (g.E.Entry.of x))
    (entry_pair g.E.Branch.flow c.args.own.low c.args.own.high) c.args.entries.now c.loop-x.x-index (sum_of c.loop-x.sums t) _
    (c.loop-x.invariant.sums t) c.loop-x-test.false (c.loop-x.invariant.value t)
