use Rattle.plan_check.proofs.Common.{drop, times, AreDeckTables, heads_before}
use Rattle.plan_check.proofs.Checking.{IsSoFar}
use Rattle.plan_check.proofs.listing.check_steps.Given as goal

abbrev pub invariant-loop-index : goal.invariant-loop-index
invariant-loop-index l = record {
  base_tables : AreDeckTables l.task.base l.task.digits l.base_tables;
  planned_tables : AreDeckTables l.task.planned l.task.digits l.planned_tables;
  so_far : IsSoFar l.task l.listing (heads_before l.start l.listing l.index) (drop l.index (times l.task.base.first)) (drop l.index l.listing);
}
