use Rattle.settle_driver.proofs.Common.{◌∙◌, subst, arith, IsProblem, passes_more, is_side, seen_on, seen_of, no_looser_trans, tight_refl}
use Rattle.settle_driver.proofs.phases.work_one.Goals as goal

pub returns : goal.returns
returns g c =
    let work = c.work.ensures in
    let own = c.own_turns.ensures in
    let p = c.args.table.now.problem.now in
    let a = c.args.seat.now in
    let b = c.work.new.seat in
    let ok = subst IsProblem c.problem.ensures c.recall_conditions.ensures.fits in record {
      seat = own.seat;
      moved = λ side k h mine. passes_more (is_side side p ok) (seen_on side a) (seen_on side b) k _ _ h (work.no_looser side) (tight_refl side _) (own.moved side k h (mine ∙ (omega arith)));
      no_looser = no_looser_trans p (seen_of a) (seen_of b) (seen_of c.own_turns.new.seat) work.no_looser own.no_looser;
    }
