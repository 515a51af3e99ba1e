use Rattle.settle_driver.proofs.Common.{◌<◌, ℕ, head_at, heads_on, HasLeft}
use Rattle.settle_driver.proofs.leaving.all_have_left.Given as goal

abbrev pub invariant-loop-cell : goal.invariant-loop-cell
invariant-loop-cell l = (c : ℕ) → c < l.cell → HasLeft l.side (head_at l.edges c) (head_at l.inner c) (heads_on l.side l.bounds c)
