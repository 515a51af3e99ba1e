use Rattle.head_table.proofs.Common.{◌≡◌, ℕ, ◌<◌, vec_len, slots_items, Side, heads_on, words_on}
use Rattle.head_table.proofs.ends.read_all.Given as goal

abbrev pub invariant-loop-cell : goal.invariant-loop-cell
invariant-loop-cell l = record {
  len : vec_len l.bounds ≡ l.cell;
  heads : (side : Side) (c : ℕ) → c < l.cell → heads_on side l.bounds.items c ≡ words_on side (slots_items l.closed.words) c;
}
