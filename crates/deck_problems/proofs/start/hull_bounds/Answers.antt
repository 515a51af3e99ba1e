use Rattle.deck_problems.proofs.Common.{◌≡◌, ◌∙◌, ap, subst, arith, Bound, bound_at, IsHullBound}
use Rattle.deck_problems.proofs.Hulled.{hulled_more}
use Rattle.deck_problems.proofs.start.hull_bounds.Goals as goal

pub loop-cell-preserved : goal.loop-cell-preserved
loop-cell-preserved c =
    let n = c.loop-cell.cell in
    let ys = c.args.second.now in
    let hull = c.hull_bound.result in
    let a : c.bound_at-a.result ≡ bound_at c.loop-cell.hulls n = c.bound_at-a.ensures ∙ ap (λ l. bound_at l n) c.as_slice.ensures in
    let is = subst (λ (x : Bound). IsHullBound x (bound_at ys n) hull) a (subst (λ (y : Bound). IsHullBound c.bound_at-a.result y hull) c.bound_at-b.ensures c.hull_bound.ensures) in
    rw c.set.ensures (hulled_more c.args.first ys c.loop-cell.hulls n hull (omega arith) is c.loop-cell.invariant)
