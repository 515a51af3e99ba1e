use Rattle.model_maker.proofs.Common.{◌≡◌, ◌++◌, codes, texts_below}
use Rattle.model_maker.proofs.grids.push_ones.Given as goal

abbrev pub invariant-loop : goal.invariant-loop
invariant-loop l = l.text.items ≡ l.fn.text.items ++ texts_below l.counter (λ j. codes " 1")
