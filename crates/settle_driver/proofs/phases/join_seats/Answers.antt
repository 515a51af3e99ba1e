use Rattle.settle_driver.proofs.Common.{List, [], ◌∷◌, ◌++◌, All, ap, ◌∙◌, subst, append_assoc, HeadSeat, AreNoLooser, IsSeatOf, seen_of, no_looser_trans}
use Rattle.std.proofs.lemmas.List.Elements.{All-weaker}
use Rattle.settle_driver.proofs.Sweeping.{tighter_left, tighter_right, all_cons, all_front}
use Rattle.settle_driver.proofs.phases.join_seats.Goals as goal

pub loop-other-preserved : goal.loop-other-preserved
loop-other-preserved c =
    let i = c.loop-other.invariant in
    let popped = c.in-Some.ensures.items in
    let t = c.args.table.now in
    let p = t.problem.now in
    let left : List HeadSeat = c.pop.new.self.items in
    let other : HeadSeat = c.in-Some.other in
    let before = c.loop-other.seat in
    let after = c.join.new.seat in
    let joined = c.join.ensures in record {
      seat = joined.seat;
      rest = all_front (λ s. IsSeatOf t s) left (other ∷ []) (subst (λ (l : List HeadSeat). All (λ s. IsSeatOf t s) l) popped i.rest);
      done = (
        other ∷ i.done.0,
        i.done.1 ∙ (ap (λ (l : List HeadSeat). l ++ i.done.0) popped ∙ append_assoc left (other ∷ []) i.done.0),
        all_cons (λ s. AreNoLooser p (seen_of s) (seen_of after)) other i.done.0 (tighter_right p before other after joined.tighter)
            (All-weaker (λ s. AreNoLooser p (seen_of s) (seen_of before)) (λ s. AreNoLooser p (seen_of s) (seen_of after)) (λ s q.
            no_looser_trans p (seen_of s) (seen_of before) (seen_of after) q (tighter_left p before other after joined.tighter)) i.done.0 i.done.2),
      );
    }
