use Rattle.listing_run.proofs.Moves.{ids_within}
use Rattle.plan_chain.proofs.{Settling.differences_are, Settling.differences_fail, Settling.same_count, Walking.placed_fit}
use Rattle.plan_chain.proofs.step.with_differences.Goals as goal

pub next_differences-requires-clause-as_many : goal.next_differences-requires-clause-as_many
next_differences-requires-clause-as_many g c = same_count c.args.task.now c.args.at c.args.old.now c.requires.task c.args.base c.args.planned c.requires.base c.requires.planned

pub next_differences-requires-clause-cells : goal.next_differences-requires-clause-cells
next_differences-requires-clause-cells g c = ids_within c.args.task.now.base.first c.args.base.problem c.requires.named c.cell_count.result c.cell_count.ensures

pub next_differences-requires-clause-old : goal.next_differences-requires-clause-old
next_differences-requires-clause-old g c = rw c.as_slice.ensures c.requires.old.differences.range

pub returns-in-Ok-clause-step : goal.returns-in-Ok-clause-step
returns-in-Ok-clause-step g c = record {
  base = c.requires.base;
  planned = c.requires.planned;
  differences = differences_are c.args.task.now c.args.at c.args.old.now _ _ _ c.args.base c.args.planned c.in-Ok.differences c.requires.pairs c.as_slice.ensures c.cell_count.ensures
      c.in-Ok.ensures.step;
}

pub returns-in-Ok-clause-heads : goal.returns-in-Ok-clause-heads
returns-in-Ok-clause-heads g c =
    let h = differences_are c.args.task.now c.args.at c.args.old.now _ _ _ c.args.base c.args.planned c.in-Ok.differences c.requires.pairs c.as_slice.ensures c.cell_count.ensures
    c.in-Ok.ensures.step in
    record {
      base = c.requires.base_heads;
      planned = c.requires.planned_heads;
      differences = record {
        whole = h.heads.whole;
        range = placed_fit _ c.in-Ok.differences.problem c.in-Ok.differences.bounds c.in-Ok.differences.heads c.in-Ok.ensures.words h.heads;
      };
    }

pub returns-in-Err-clause-fault : goal.returns-in-Err-clause-fault
returns-in-Err-clause-fault g c =
    differences_fail c.args.task.now c.args.at c.args.old.now c.args.base c.args.planned c.requires.base c.requires.planned _ _ c.requires.rounds c.as_slice.ensures c.in-Err.fault
    c.in-Err.ensures.fault
