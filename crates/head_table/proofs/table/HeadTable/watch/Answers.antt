use Rattle.head_table.proofs.Common.{rules, ℕ, ◌≡◌, ◌<◌, length, ℤ, sym, ◌∙◌, subst, arith, to_z-of_z, w64, SFits, to_z, of_z, Bound, Side, Low, High, head_of, edge_on, IsNoTighterThanSettled}
use Rattle.head_table.proofs.Common.{barrier_of, seen_on, seen_of}
use Rattle.head_table.proofs.WordReads.{moves_no_looser, no_looser_trans, shows_step, holds_step}
use Rattle.head_table.proofs.table.HeadTable.watch.Goals as goal

pub loop-cell-preserved : goal.loop-cell-preserved
loop-cell-preserved c = let i = c.loop-cell.cell in let inv = c.loop-cell.invariant in let p = c.load-low.ensures in let q = c.load-high.ensures in
    let l : ℤ = c.load-low.result in let h : ℤ = c.load-high.result in let f : SFits w64 l = search rules in let g : SFits w64 h = search rules in
    let x : Bound = record {
      low = to_z w64 (of_z w64 l);
      high =
          to_z w64 (of_z w64 h);
    } in let inside : i < length c.loop-cell.bounds = omega (arith, c.loop-cell.auto.bounds, c.loop-cell-test.true) in
    let t = c.args.self.now in let bs = c.loop-cell.bounds in
    let settled = (λ (side : Side) (k : ℕ) (z : ℤ). IsNoTighterThanSettled side t.problem.now (edge_on side (barrier_of t)) k z) in
    let a = c.loop-cell.seat in let m = c.load-low.new.seat in let b = c.load-high.new.seat in
    let here : (side : Side) → head_of side x ≡ seen_on side b i = elim [
      | Low ↦ to_z-of_z w64 l f ∙ (sym p.seen ∙ sym (q.opposite i))
      | High ↦ to_z-of_z w64 h g ∙ sym q.seen
    ] in
    let others : (side : Side) (d : ℕ) → (d ≡ i → ⊥) → seen_on side b d ≡ seen_on side a d = elim [
      | Low ↦ λ d ne. q.opposite d ∙ p.others d ne
      | High ↦ λ d ne. q.others d ne ∙ p.opposite d
    ] in
    let under : (side : Side) → settled side i (head_of side x) = elim [
      | Low ↦ subst (settled Low i) (sym (to_z-of_z w64 l f)) p.held
      | High ↦ subst (settled High i) (sym (to_z-of_z w64 h g)) q.held
    ] in record {
      seat = q.seat;
      shown = λ side. shows_step (head_of side) (seen_on side a) (seen_on side b) bs i x inside (here side) (others side) (inv.shown side);
      held = λ side. holds_step (settled side) (head_of side) bs i x inside (under side) (inv.held side);
      no_looser = no_looser_trans _ _ (seen_of a) (seen_of b) inv.no_looser
          (no_looser_trans _ (seen_of a) (seen_of m) (seen_of b) (moves_no_looser Low _ a m _ _ p.seen p.later p.others p.opposite)
          (moves_no_looser High _ m b _ _ q.seen q.later q.others q.opposite));
    }
