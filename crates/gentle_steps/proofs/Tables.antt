-- The heads of a step's table, cell by cell.
use Rattle.gentle_steps.proofs.Common.{◌≡◌, ℕ, ◌<◌, true, Bool, cond, List, length, get_or, ap, ◌∙◌, arith, cell_count, is_constant, FlowModel, TimeStep, constant_bound, known_bound, no_bound, Bound}
use Rattle.gentle_steps.proofs.Common.{get_or-map-range_with_len, length-map-range_with_len, AreConstantHeads}

module _ (m : FlowModel) (at : TimeStep) (heads xs : List Bound) (is : AreConstantHeads m at heads) (lent : xs ≡ heads) where
  pub heads_count : length xs ≡ cell_count m.grid
  heads_count = ap length (lent ∙ is) ∙ length-map-range_with_len (known_bound m at) 0 (cell_count m.grid)

  pub head_is : (c : ℕ) (d : Bound) → c < cell_count m.grid → get_or xs c d ≡ known_bound m at c
  head_is c d lt = ap (λ ys. get_or ys c d) (lent ∙ is) ∙ get_or-map-range_with_len (known_bound m at) 0 (cell_count m.grid) c c d lt (omega arith)

  pub constant_is : (c : ℕ) (d : Bound) → c < cell_count m.grid → is_constant m at.period c ≡ true → get_or xs c d ≡ constant_bound m at c
  constant_is c d lt k = head_is c d lt ∙ ap (λ (t : Bool). cond t (constant_bound m at c) no_bound) k
