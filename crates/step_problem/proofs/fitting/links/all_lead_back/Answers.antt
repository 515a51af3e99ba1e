use Rattle.step_problem.proofs.Common.{Contains, subst, refl, below_more, slice_index_or, get_or_default, Link, entries_at, no_link}
use Rattle.step_problem.proofs.fitting.links.all_lead_back.Goals as goal

pub loop-x-preserved : goal.loop-x-preserved
loop-x-preserved c = λ k d lt.
    let LeadsBack : Link → Type 0 = λ x. Contains (entries_at c.args.cells.now x.cell).links (record { cell = c.args.c; lo = x.lo; hi = x.hi }) in
    below_more (λ j. LeadsBack (slice_index_or c.args.links.now j d)) c.loop-x.x-index (λ j h. c.loop-x.invariant j d h)
    (subst LeadsBack (get_or_default c.args.links.now c.loop-x.x-index no_link d c.loop-x-test.true) (c.if-not-leads_back.ensures.0 refl)) k lt
