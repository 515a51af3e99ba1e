use Rattle.settle_driver.proofs.Common.{◌≡◌, ℕ, ◌+◌, ◌<◌, List, [], ◌∷◌, ◌++◌, length, ℤ, sym, subst, arith, rules, FitsSigned, w64, ints, to_z-of_z, head_at, Side, IsHeadFrom, below_more, pos}
use Rattle.settle_driver.proofs.Common.{get_or_at, get_or-append}
use Rattle.settle_driver.proofs.trials.edges_near.Goals as goal

edge_more : (side : Side) (es old new : List ℤ) (i : ℕ) (z : ℤ) → new ≡ old ++ z ∷ [] → length old ≡ i → IsHeadFrom side (head_at es i) z →
    ((c : ℕ) → c < i → IsHeadFrom side (head_at es c) (head_at old c))
    → (c : ℕ) → c < i + 1 → IsHeadFrom side (head_at es c) (head_at new c)
edge_more side es old new i z is long here before = subst (λ (xs : List ℤ). (c : ℕ) → c < i + 1 → IsHeadFrom side (head_at es c) (head_at xs c)) (sym is)
    (below_more _ _ (λ c h. subst (IsHeadFrom side (head_at es c)) (sym (get_or-append old (z ∷ []) (pos 0) c (omega (arith, h, long)))) (before c h))
    (subst (IsHeadFrom side (head_at es i)) (sym (get_or_at old z [] (pos 0) i long)) here))

pub loop-cell-preserved : goal.loop-cell-preserved
loop-cell-preserved c =
    let head = c.requires c.loop-cell.cell c.loop-cell-test.true in
    let fits : FitsSigned w64 c.edge_near.result = search rules in
    let fits_edge : FitsSigned w64 (head_at c.args.edges.now c.loop-cell.cell) = omega (arith, ints, head.above, head.below) in
    let moved = simp to_z-of_z at c.edge_near.ensures in
    record {
      whole = search rules;
      each = edge_more c.args.side c.args.edges.now _ _ c.loop-cell.cell _ c.in_ok-push.ensures.items c.loop-cell.invariant.whole (simp to_z-of_z moved) c.loop-cell.invariant.each;
    }
