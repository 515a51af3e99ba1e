use Rattle.head_table.proofs.Common.{◌≡◌, ℕ, ◌+◌, ◌*◌, ◌<◌, vec_len, Side, heads_on, words_on}
use Rattle.head_table.proofs.ends.raw_words.Given as goal

abbrev pub invariant-loop-word : goal.invariant-loop-word
invariant-loop-word l = record {
  len : vec_len l.raw ≡ 2 * l.word-index + 1;
  heads : (side : Side) (c : ℕ) → c < l.word-index → words_on side l.raw.items c ≡ heads_on side l.words c;
}
