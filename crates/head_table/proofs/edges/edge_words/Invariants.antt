use Rattle.head_table.proofs.Common.{◌≡◌, ◌<◌, ℕ, length, head_at, lower_at, upper_at}
use Rattle.head_table.proofs.edges.edge_words.Given as goal

abbrev pub invariant-loop-cell : goal.invariant-loop-cell
invariant-loop-cell l = record {
  whole : length l.words.items ≡ l.cell;
  low : (c : ℕ) → c < l.cell → lower_at l.words.items c ≡ head_at l.b.floor c;
  high : (c : ℕ) → c < l.cell → upper_at l.words.items c ≡ head_at l.b.ceiling c;
}
