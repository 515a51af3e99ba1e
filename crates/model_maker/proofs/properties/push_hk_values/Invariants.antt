use Rattle.model_maker.proofs.Common.{◌≡◌, ◌++◌, after, gap, hk_text, texts_below}
use Rattle.model_maker.proofs.properties.push_hk_values.Given as goal

abbrev pub invariant-loop-place : goal.invariant-loop-place
invariant-loop-place l = record {
  text : l.text.items ≡ l.fn.text.items ++ texts_below l.place (λ j. gap j ++ hk_text (after j l.fn.draws.x));
  next : l.draws.x ≡ after l.place l.fn.draws.x;
}
