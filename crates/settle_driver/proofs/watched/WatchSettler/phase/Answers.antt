use Rattle.settle_driver.proofs.Sweeping.{phase_past}
use Rattle.settle_driver.proofs.watched.WatchSettler.phase.Goals as goal

pub returns-clause-past : goal.returns-clause-past
returns-clause-past g c =
    phase_past c.args.p.now c.recall_conditions.ensures.fits c.in_ok-table.table c.in_ok-table.ensures.problem c.args.words.now.items _
    c.in_ok-table.ensures.seen c.in_ok-seats.seats c.in_ok-seats-2.seats c.join_seats.new.seat
    c.args.self.now.plan.workers c.args.self.now.plan_fits.some_worker c.in_ok-seats.ensures.count c.in_ok-seats-2.ensures.count c.in_ok-seats.ensures.each
    c.in_ok-seats-2.ensures.each c.join_seats.ensures.tight c.close.result c.close.ensures.tight
