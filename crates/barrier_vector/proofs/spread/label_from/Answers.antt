use Rattle.barrier_vector.specs.{mark_at}
use Rattle.barrier_vector.proofs.{Spreading.none_by, Spreading.some_by, Labelling.labels_fill, Labelling.labels_skip}
use Rattle.barrier_vector.proofs.spread.label_from.Goals as goal

pub returns-then-is_none : goal.returns-then-is_none
returns-then-is_none c = labels_fill c.args.p.now c.recall_conditions.ensures.fits c.args.labels.now c.fill.new.labels c.args.c c.requires.labels
    (none_by (mark_at c.args.labels.now c.args.c) c.is_none.result c.is_none.ensures c.if-is_none.true) c.in_ok-fill.ensures

pub returns : goal.returns
returns c = let (m, is) = some_by (mark_at c.args.labels.now c.args.c) c.is_none.result c.is_none.ensures c.if-is_none.false in labels_skip c.args.p.now
    c.recall_conditions.ensures.fits c.args.labels.now c.args.labels.now c.args.c c.requires.labels m is
