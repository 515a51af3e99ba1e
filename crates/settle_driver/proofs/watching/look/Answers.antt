use Rattle.settle_driver.proofs.Common.{◌≡◌, length, arith, seen_of}
use Rattle.settle_driver.proofs.Viewing.{look_encloses, still_past_barrier}
use Rattle.settle_driver.proofs.watching.look.Goals as goal

pub returns-clause-past : goal.returns-clause-past
returns-clause-past c = still_past_barrier c.args.p.now c.args.table.now.problem.now c.args.b.now (seen_of c.args.seat.now)
    (seen_of c.watch.new.seat) c.requires.problem c.requires.past c.watch.ensures.no_looser

pub returns-clause-pair : goal.returns-clause-pair
returns-clause-pair c =
    let whole : length c.watch.new.bounds ≡ length c.args.p.now = omega (arith, c.watch.auto.bounds, c.requires.whole) in
    let past = still_past_barrier c.args.p.now c.args.table.now.problem.now c.args.b.now (seen_of c.args.seat.now)
    (seen_of c.watch.new.seat) c.requires.problem c.requires.past c.watch.ensures.no_looser in
    look_encloses c.args.p.now c.args.b.now c.args.table.now c.watch.new.seat c.watch.new.bounds c.requires.problem c.requires.barrier whole
    c.watch.ensures.seat c.watch.ensures.shown c.watch.ensures.held past
