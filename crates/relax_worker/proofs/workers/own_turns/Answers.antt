use Rattle.relax_worker.proofs.Common.{◌≡◌, ℕ, ◌+◌, ◌-◌, ◌%◌, ◌<◌, length, refl, sym, ap, ◌∙◌, subst, arith, Side, IsProblem, AreNoLooser, is_side, HeadSeat, HasMoved, IsSeatOf, seen_on, seen_of}
use Rattle.relax_worker.proofs.Common.{same_no_looser, no_looser_trans}
use native.Mathlib.Nat.{mod-eq_of_lt}
use Rattle.relax_worker.proofs.Gaining.{own_step}
use Rattle.relax_worker.proofs.workers.own_turns.Goals.{then-cell-workers, else-cell-workers}
use Rattle.relax_worker.proofs.workers.own_turns.Goals as goal

pub loop-cell-preserved : goal.loop-cell-preserved
loop-cell-preserved c =
    let t = c.args.table.now in
    let p = t.problem.now in
    let i = c.loop-cell.cell in
    let inv = c.loop-cell.invariant in
    let a = c.args.seat.now in
    let b = c.loop-cell.seat in
    let ok = subst IsProblem c.problem.ensures c.len-cell-end.ensures.fits in
    let n : c.len-cell-end.result ≡ length p = c.len-cell-end.ensures.count ∙ ap length c.problem.ensures in
    let own : ℕ → Type 0 = λ k. k % c.args.workers ≡ c.args.worker - 1 in
    let P : HeadSeat → Type 0 = λ s. record {
      seat : IsSeatOf t s;
      moved : (side : Side) (k : ℕ) → k < i + 1 → k % c.args.workers ≡ c.args.worker - 1 → HasMoved side p (seen_on side a) k (seen_on side s k);
      no_looser : AreNoLooser p (seen_of a) (seen_of s);
    } in
    let h : i < length p = let l = c.loop-cell-test.true in omega arith in
    let whole : i % length p ≡ i = mod-eq_of_lt h in
    let stay = same_no_looser p b b refl in elim c.if-cell-workers.branch [
      | then-cell-workers w ↦ let turn = w.turn.ensures in let d = w.turn.new.seat in
          subst P (sym w.seat-is) record {
            seat = turn.seat;
            moved = λ side. own_step (is_side side p ok) (seen_on side a) (seen_on side b) (seen_on side d) own i h (inv.no_looser side) (turn.no_looser side)
                (λ _. subst (λ (k : ℕ). HasMoved side p (seen_on side b) k (seen_on side d k)) whole (turn.moved side)) (inv.moved side);
            no_looser = no_looser_trans p (seen_of a) (seen_of b) (seen_of d) inv.no_looser turn.no_looser;
          }
      | else-cell-workers w ↦ subst P (sym w.seat-is) record {
        seat = inv.seat;
        moved = λ side. own_step (is_side side p ok) (seen_on side a) (seen_on side b) (seen_on side b) own i h (inv.no_looser side) (stay side) (λ o.
            absurd (w.if-cell-workers.false o)) (inv.moved side);
        no_looser = inv.no_looser;
      }
    ]
