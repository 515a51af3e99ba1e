use Rattle.barrier_vector.proofs.Common.{sym, subst, List, Option, None, ℕ, need, capped_flow, IsAnchoredOrNone, AreAnchorPaths}
use Rattle.barrier_vector.proofs.{Rooting.searched_as, Rooting.each_more, Uniques.paths_made, Outlining.need_whole, Outlining.drops_on}
use Rattle.barrier_vector.proofs.bounds.anchored_bounds.Goals as goal

pub anchored_bound-requires-clause-paths : goal.anchored_bound-requires-clause-paths
anchored_bound-requires-clause-paths c =
    let side = c.args.side in
    let p = c.args.p.now in
    let o = c.args.outline.now in
    let q = need_whole side p o.mark o.need o.anchors.items c.requires.outline in
    let roots = c.in_ok-roots.roots.items in
    let levels = c.in_ok-anchored.anchored.levels.items in
    let paths = c.in_ok-anchored.anchored.paths.items in
    let made = paths_made side p c.recall_conditions.ensures.fits roots levels paths
    (drops_on side p o.mark o.need (capped_flow (need side p)) o.anchors.items c.deref.result.now roots c.requires.outline c.deref.ensures.value q c.in_ok-roots.ensures)
    (searched_as p o.need (capped_flow (need side p)) roots c.deref-2.result.now levels paths q c.deref-2.ensures.value c.in_ok-anchored.ensures) in
    subst (λ (z : List (Option ℕ)). AreAnchorPaths side p z c.deref-in-loop-c-2.result.now) (sym c.deref-in-loop-c.ensures.value)
    (subst (λ (z : List ℕ). AreAnchorPaths side p levels z) (sym c.deref-in-loop-c-2.ensures.value) made)

pub loop-c-preserved : goal.loop-c-preserved
loop-c-preserved c = each_more None (IsAnchoredOrNone c.args.side c.args.p.now) c.loop-c.c c.loop-c.bounds.items c.push.new.self.items c.anchored_bound.result
    c.in_ok-push.ensures.items c.anchored_bound.ensures c.loop-c.invariant
