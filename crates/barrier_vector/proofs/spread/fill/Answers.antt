use Rattle.barrier_vector.proofs.Common.{◌<◌, length, subst, sym, List, [], ℕ, All, FrontLeads, Spreads}
use Rattle.barrier_vector.proofs.Labelling.{front_in, fill_more}
use Rattle.barrier_vector.proofs.spread.fill.Goals as goal

pub spread-requires-clause-frontier : goal.spread-requires-clause-frontier
spread-requires-clause-frontier c = subst (λ (z : List ℕ). All (λ k. k < length c.args.p.now) z) (sym c.deref.ensures.value)
    (front_in c.args.p.now c.recall_conditions.ensures.fits c.args.cell c.args.labels.now c.loop-alloc.labels c.loop-alloc.frontier.items c.requires.whole
    c.loop-alloc.invariant)

pub loop-alloc-preserved : goal.loop-alloc-preserved
loop-alloc-preserved c = fill_more c.args.p.now c.recall_conditions.ensures.fits c.args.cell c.args.labels.now c.loop-alloc.labels c.spread.new.marks
    c.loop-alloc.frontier.items c.in_ok-frontier-2.frontier.items c.loop-alloc.invariant
    (subst (λ (z : List ℕ). Spreads (FrontLeads c.args.p.now z (length z)) c.args.cell c.loop-alloc.labels c.spread.new.marks
    [] c.in_ok-frontier-2.frontier.items) c.deref.ensures.value c.in_ok-frontier-2.ensures)
