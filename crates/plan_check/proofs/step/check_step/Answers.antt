use Rattle.plan_check.proofs.Common.{List, subst, sym, Bound, AreGridHeads, HeadsFailBy, lent_heads}
use Rattle.plan_check.proofs.{Holding.base_fails, Listed.listed_fit}
use Rattle.plan_check.proofs.step.check_step.Goals as goal

pub check_deck-requires-clause-heads : goal.check_deck-requires-clause-heads
check_deck-requires-clause-heads c =
    let k = c.args.task.now in
    subst (AreGridHeads k.base.first) (sym c.as_slice-heads.ensures) (listed_fit k c.requires.task c.args.at c.args.listed.now _ c.requires.listed).base

pub returns-in-Err-clause-fault : goal.returns-in-Err-clause-fault
returns-in-Err-clause-fault c =
    let k = c.args.task.now in
    let old = lent_heads c.args.old in
    let F : List Bound → Type 0 = λ hs. HeadsFailBy k.limits k.base k.digits c.args.at old.base hs c.in-Err.fault in
    rw c.in_part.ensures (base_fails k c.args.at old c.args.listed.now c.in-Err.fault (subst F c.as_slice-heads.ensures c.in-Err.ensures.fault))
