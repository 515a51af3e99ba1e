-- What it means that a history of heads solves a model's equations at every time step (TM 6-A16, chapter 2). A vector
-- of heads has a whole numerator for each cell, by cell number; all vectors of a history have one denominator d.
use Rattle.std.specs.Prelude.{◌≡◌, ℕ, ◌<◌, true, ℤ, List, [], ◌∷◌}
use Rattle.decimal_input.specs.{Fraction, IsOver}
use Rattle.model_types.specs.{declared.model.FlowModel.FlowModel, declared.time_steps.TimeStep.TimeStep, cell_count, times, is_constant, start_head}
use Rattle.model_types.specs.{constant_head}
use Rattle.cell_balance.specs.{ExactCell, cell_at, share, SolvesStep}
use Rattle.flow_equations.specs.ExactStep.{exact_step}

-- a vector X over d, as fractions
abbrev pub heads_of : ℕ → (ℕ → ℤ) → ℕ → Fraction
heads_of d X c = share d (X c)

-- the heads of a step's variable cells, by their index
abbrev pub variable_heads : List ExactCell → (ℕ → ℤ) → ℕ → ℤ
variable_heads e X k = X (cell_at e k).id

-- X over d solves a time step, where the heads of the step before are `old`: each constant-head cell has its head,
-- and the balance of each variable cell is zero.
pub record SolvesAt (m : FlowModel) (at : TimeStep) (old : ℕ → Fraction) (d : ℕ) (X : ℕ → ℤ) : Type 0 where
  pub constant : (c : ℕ) → c < cell_count m.grid → is_constant m at.period c ≡ true → IsOver d (constant_head m at.period at.step c) (X c)
  pub balances : SolvesStep (exact_step m at.period at.step old) d (variable_heads (exact_step m at.period at.step old) X)

-- one vector for each of these time steps, each from the heads of the vector before
abbrev pub SolvesFrom : FlowModel → ℕ → (ℕ → Fraction) → List TimeStep → List (ℕ → ℤ) → Type 0
SolvesFrom m d old [] [] = Unit {0}
SolvesFrom m d old (at ∷ steps) (X ∷ Xs) = SolvesAt m at old d X × SolvesFrom m d (heads_of d X) steps Xs
SolvesFrom m d old [] (X ∷ Xs) = ⊥
SolvesFrom m d old (at ∷ steps) [] = ⊥

-- The history Xs over d solves the model: d is above 0, and its vectors solve all time steps in turn, from STRT on.
pub record Solves (m : FlowModel) (d : ℕ) (Xs : List (ℕ → ℤ)) : Type 0 where
  pub some : 0 < d
  pub steps : SolvesFrom m d (start_head m) (times m) Xs
