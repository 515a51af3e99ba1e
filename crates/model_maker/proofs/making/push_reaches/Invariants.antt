use Rattle.model_maker.proofs.Common.{◌≡◌, ◌++◌, reach_text, texts_below}
use Rattle.model_maker.proofs.making.push_reaches.Given as goal

abbrev pub invariant-loop-row : goal.invariant-loop-row
invariant-loop-row l = l.text.items ≡ l.fn.text.items ++ texts_below l.row (reach_text l.size)
