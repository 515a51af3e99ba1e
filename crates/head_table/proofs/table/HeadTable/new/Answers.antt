use Rattle.head_table.proofs.Common.{◌≡◌, ℕ, ◌+◌, ◌*◌, ◌<◌, List, length, ap, subst, arith, Bound, Side, heads_on, words_on}
use Rattle.head_table.proofs.Joining.{opens}
use Rattle.head_table.proofs.table.HeadTable.new.Goals as goal

pub of_words-requires : goal.of_words-requires
of_words-requires c = let raw = c.in_ok-raw.raw in let words = c.args.words.now.items in let same : c.as_slice.result.now ≡ words = c.as_slice.ensures.value in
    let wide : length raw.items ≡ 2 * length words + 1 = omega (arith, raw.ok, c.in_ok-raw.ensures.len, ap length same) in
    let heads = subst (λ (ws : List Bound). (side : Side) (k : ℕ) → k < length ws → words_on side raw.items k ≡ heads_on side ws k) same c.in_ok-raw.ensures.heads in
    rw (c.of.ensures, c.of-2.ensures, c.of-3.ensures, c.as_slice-2.ensures.value) (opens c.args.problem.now c.args.barrier.now c.recall_conditions.ensures.fits words raw.items wide heads c.requires)
