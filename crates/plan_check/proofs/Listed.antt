-- The heads and the differences of a listed step are those of all cells, in range.
use Rattle.plan_check.proofs.Common.{List, subst, sym, Bound, FlowModel, TimeStep, AreGridHeads, Decks, ZonePair, in_range, PlanTask, ArePlanHeads, IsPlanTask, ListedPlanStep, AreBoundsOf}
use Rattle.plan_check.proofs.Common.{IsListedPlanStep, heads_listed}

bounds_fit : (m : FlowModel) (bs : List Bound) → AreBoundsOf m bs → AreGridHeads m bs
bounds_fit m bs h = record { whole = h.whole; range = in_range m 0 bs h.bounds }

-- also for the decks with the plan's wells, which have the same cells
planned_fit : (k : PlanTask) → IsPlanTask k → (bs : List Bound) → AreBoundsOf k.base.first bs → AreGridHeads k.planned.first bs
planned_fit k task bs h =
    let fit = bounds_fit k.base.first bs h in
    subst (λ (d : Decks). AreGridHeads d.first bs) (sym task.with_wells) (record { whole = fit.whole; range = fit.range })

pub listed_fit : (k : PlanTask) → IsPlanTask k → (at : TimeStep) (x : ListedPlanStep) (pairs : List ZonePair) → IsListedPlanStep k.base.first pairs at x →
    ArePlanHeads k (heads_listed x)
listed_fit k task at x pairs h = record {
  base = bounds_fit k.base.first x.base h.base;
  planned = planned_fit k task x.planned h.planned;
  differences = bounds_fit k.base.first x.differences h.differences;
}
