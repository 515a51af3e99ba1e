use Rattle.model_maker.proofs.Common.{◌≡◌, ◌*◌, ◌++◌, after, hk_row, texts_below}
use Rattle.model_maker.proofs.properties.push_hk_rows.Given as goal

abbrev pub invariant-loop : goal.invariant-loop
invariant-loop l = record {
  text : l.text.items ≡ l.fn.text.items ++ texts_below l.counter (λ i. hk_row l.size (after (i * l.size) l.fn.draws.x));
  next : l.draws.x ≡ after (l.counter * l.size) l.fn.draws.x;
}
