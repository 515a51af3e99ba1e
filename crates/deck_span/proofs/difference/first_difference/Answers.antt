use Rattle.deck_span.proofs.Common.{◌≡◌, ℕ, All, take, subst, arith, All-more, Shares, comparing_order}
use Rattle.deck_span.proofs.{AlikeParts.alike_shares, AlikeParts.shared_alike, Finding.unlike_by}
use Rattle.deck_span.proofs.difference.first_difference.Goals as goal

pub returns-in-Err-clause-unlike : goal.returns-in-Err-clause-unlike
returns-in-Err-clause-unlike c = unlike_by _ _ _ (alike_shares c.args.first.now c.args.second.now _) c.in-Err.ensures

pub loop-kind-preserved : goal.loop-kind-preserved
loop-kind-preserved c = All-more (λ x. Shares x c.args.first.now c.args.second.now) comparing_order c.loop-kind.kind-index _ (omega arith) c.loop-kind.invariant c.in_default.ensures

pub returns-clause-alike : goal.returns-clause-alike
returns-clause-alike c =
    let e : c.loop-kind.kind-index ≡ 10 = omega arith in
    shared_alike c.args.first.now c.args.second.now (subst (λ (n : ℕ). All (λ x. Shares x c.args.first.now c.args.second.now) (take n comparing_order)) e c.loop-kind.invariant)
