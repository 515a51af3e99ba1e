use Rattle.model_maker.proofs.Common.{◌≡◌, ◌++◌, ibound_row, texts_below}
use Rattle.model_maker.proofs.grids.push_ibound_rows.Given as goal

abbrev pub invariant-loop : goal.invariant-loop
invariant-loop l = l.text.items ≡ l.fn.text.items ++ texts_below l.counter (λ i. ibound_row l.size)
