-- How a listing of a model with convertible layers encloses histories of gentle heads.
use Rattle.std.specs.Prelude.{ℕ, ℤ, List, [], ◌∷◌, Option}
use Rattle.decimal_input.specs.{Fraction}
use Rattle.model_types.specs.{declared.model.FlowModel.FlowModel, declared.time_steps.TimeStep.TimeStep, start_head, times}
use Rattle.problem_builder.specs.{HeadsEnclose}
use Rattle.listing_io.specs.declared.listing.ListedStep.{ListedStep}
use Rattle.water_table.specs.{declared.convertible_layers.ConvertibleLayers.ConvertibleLayers, NearlySolves, heads_at}
use Rattle.water_enclosure.specs.{flow_unit}
use Rattle.gentle_budget.specs.{BudgetHolds}
use Rattle.gentle_zones.specs.{ZonesHold}

-- A listing with s digits of conductances, with the zones of a zone file, if there is one.
module _ (s : ℕ) (m : FlowModel) (w : ConvertibleLayers) (zones : Option (List ℕ)) where
  -- At a time step, where the exact heads before it are `before`: the heads X over d lie within the listed ones in each active cell, each term of the budget
  -- between its two listed numbers, and each flow between two zones between its two.
  pub record StepEncloses (at : TimeStep) (x : ListedStep) (before : ℕ → Fraction) (d : ℕ) (X : ℕ → ℤ) : Type 0 where
    pub heads : HeadsEnclose m x.heads (heads_at m at d X)
    pub budget : BudgetHolds s m w at before (heads_at m at d X) x.budget
    pub flows : ZonesHold s m w at (heads_at m at d X) zones x.zones

  -- this holds at each of these time steps in turn
  abbrev pub StepsEnclose : ℕ → (ℕ → Fraction) → List TimeStep → List ListedStep → List (ℕ → ℤ) → Type 0
  StepsEnclose d before [] [] [] = Unit {0}
  StepsEnclose d before (at ∷ ats) (x ∷ steps) (X ∷ Xs) = StepEncloses at x before d X × StepsEnclose d (heads_at m at d X) ats steps Xs
  StepsEnclose d before _ _ _ = ⊥

  -- Every history of gentle heads that balances each variable cell at each step to less than a unit of flow lies within the listing, step by step.
  abbrev pub ListingEncloses : List ListedStep → Type 0
  ListingEncloses listing = (d : ℕ) (Xs : List (ℕ → ℤ)) → NearlySolves (flow_unit s) m w d Xs → StepsEnclose d (start_head m) (times m) listing Xs
