use Rattle.settle_driver.proofs.Common.{◌≡◌, ◌<◌, ℕ, length, head_at, IsHeadFrom}
use Rattle.settle_driver.proofs.trials.edges_near.Given as goal

abbrev pub invariant-loop-cell : goal.invariant-loop-cell
invariant-loop-cell l = record {
  whole : length l.moved.items ≡ l.cell;
  each : (c : ℕ) → c < l.cell → IsHeadFrom l.side (head_at l.edges c) (head_at l.moved.items c);
}
