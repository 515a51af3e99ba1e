use Rattle.barrier_vector.specs.{lack, capped_flow}
use Rattle.barrier_vector.proofs.{Rooting.searched_as, Carrying.components_made, Carrying.label_in}
use Rattle.barrier_vector.proofs.carried.find_components.Goals as goal

pub component_totals-requires-clause-labels : goal.component_totals-requires-clause-labels
component_totals-requires-clause-labels c = label_in c.args.p.now c.recall_conditions.ensures.fits c.in_ok-labels.labels.items c.deref-3.result.now c.deref-3.ensures.value c.in_ok-labels.ensures

pub returns : goal.returns
returns c =
    components_made c.args.p.now c.recall_conditions.ensures.fits c.in_ok-labels.labels.items
    c.in_ok-least.least.items c.in_ok-inner.inner.levels.items c.in_ok-inner.inner.paths.items c.in_ok-totals.totals.items c.in_ok-labels.ensures
    (rw c.deref.ensures.value at c.in_ok-least.ensures)
    (searched_as c.args.p.now c.args.q (capped_flow (lack c.args.p.now)) c.in_ok-least.least.items c.deref-2.result.now c.in_ok-inner.inner.levels.items
    c.in_ok-inner.inner.paths.items c.requires.lack c.deref-2.ensures.value c.in_ok-inner.ensures)
    c.in_ok-totals.ensures.whole (rw c.deref-3.ensures.value at c.in_ok-totals.ensures.sums) (rw (c.deref-3.ensures.value, c.deref-4.ensures.value) at c.in_ok-totals.ensures.paths)
