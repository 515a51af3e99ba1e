use Rattle.relax_worker.proofs.Common.{◌≡◌, ℕ, length, take, All, ends_in, AreNoLooser, other, IsSeatOf, seen_on, seen_of, SameOn}
use Rattle.relax_worker.proofs.workers.load_links.Given as goal

abbrev pub invariant-loop-i : goal.invariant-loop-i
invariant-loop-i l = record {
  seat : IsSeatOf l.table l.seat;
  whole : length l.values ≡ length l.links;
  values : take l.i l.values ≡ ends_in (seen_on l.side l.seat) (take l.i l.links);
  others : (d : ℕ) → All (λ x. x.cell ≡ d → ⊥) l.links → seen_on l.side l.seat d ≡ seen_on l.side l.initial.seat d;
  no_looser : AreNoLooser l.table.problem.now (seen_of l.initial.seat) (seen_of l.seat);
  opposite : SameOn (other l.side) l.initial.seat l.seat;
}
