-- The test of gentle heads at the listed heads of a step: whether all heads between the lower and the upper ones are gentle. Listed heads are whole
-- numbers of 10^-9 length units, one bound for each cell of the grid; in a constant-head cell they are the floor and the ceiling of its head.
use Rattle.std.specs.Prelude.{ℕ, ◌+◌, ◌<◌, ◌≡◌, ◌⊎◌, ◌||◌, ◌^◌, true, false, All, IfSome, List, Option}
use Rattle.decimal_input.specs.{number, Fraction, Fractions.AtMost}
use Rattle.step_problem.specs.{declared.heads.Bound.Bound, lower_at, upper_at}
use Rattle.cell_balance.specs.{minus, share, IsBelow}
use Rattle.model_types.specs.{declared.model.FlowModel.FlowModel, declared.face.Axis.Axis, declared.face.Axis.TheVariants.Row}
use Rattle.model_types.specs.{declared.face.Axis.TheVariants.Column, declared.face.Axis.TheVariants.Vertical, declared.face.Face.Face, IsModel, top_at}
use Rattle.model_types.specs.{bottom_at, is_active, is_variable, layer_size, faces}
use Rattle.problem_builder.specs.{HeadsEnclose, IsActive}
use Rattle.water_table.specs.{declared.convertible_layers.ConvertibleLayers.ConvertibleLayers, IsGentle, is_convertible}

-- the listed heads of a cell in length units
abbrev pub lower_head : List Bound → ℕ → Fraction
lower_head listed c = share (10 ^ 9) (lower_at listed c)

abbrev pub upper_head : List Bound → ℕ → Fraction
upper_head listed c = share (10 ^ 9) (upper_at listed c)

module _ (m : FlowModel) (w : ConvertibleLayers) (listed : List Bound) where
  -- From cell n along a row or a column the fall to cell c is gentle at all heads between: c is full at its lower head, or the upper head of n less the
  -- lower head of c is at most that head less the bottom of c.
  abbrev pub FallsFrom : ℕ → ℕ → Type 0
  FallsFrom n c = (is_convertible m w c ≡ false) ⊎ (AtMost (number (top_at m c)) (lower_head listed c)
      ⊎ AtMost (minus (upper_head listed n) (lower_head listed c)) (minus (lower_head listed c) (number (bottom_at m c))))

  abbrev pub FallsAlong : ℕ → Axis → ℕ → Type 0
  FallsAlong c Row n = FallsFrom n c
  FallsAlong c Column n = FallsFrom n c
  FallsAlong c Vertical n = Unit {0}

  -- through a face of cell c, where an active cell lies at its other end
  abbrev pub FallsThrough : ℕ → Option Face → Type 0
  FallsThrough c face = IfSome face (λ x. is_active m x.end ≡ true → FallsAlong c x.axis x.end)

  -- below an active cell u, where one of the two is convertible, the lower head of cell c is at or above the bottom of u
  abbrev pub IsOverBottom : ℕ → Type 0
  IsOverBottom c = (u : ℕ) → u + layer_size m.grid ≡ c → is_active m u ≡ true → (is_convertible m w u || is_convertible m w c) ≡ true →
      AtMost (number (bottom_at m u)) (lower_head listed c)

-- All heads between the listed ones are gentle at the active cell c of period p.
pub record IsGentleAt (m : FlowModel) (w : ConvertibleLayers) (p : ℕ) (listed : List Bound) (c : ℕ) : Type 0 where
  -- its lower head is above its bottom
  pub wet : is_convertible m w c ≡ true → IsBelow (number (bottom_at m c)) (lower_head listed c)
  -- if it is variable, each branch to it from an active neighbour is gentle
  pub falls : is_variable m p c ≡ true → All (FallsThrough m w listed c) (faces m.grid c)
  pub over_bottom : IsOverBottom m w listed c

module _ (m : FlowModel) (w : ConvertibleLayers) (p : ℕ) (listed : List Bound) where
  abbrev pub AreGentleBetween : Type 0
  AreGentleBetween = (c : ℕ) → IsActive m c → IsGentleAt m w p listed c

  -- c is the first active cell where some heads between the listed ones aren't gentle by the test
  pub record IsFirstSteep (c : ℕ) : Type 0 where
    pub active : IsActive m c
    pub steep : IsGentleAt m w p listed c → ⊥
    pub before : (b : ℕ) → b < c → is_active m b ≡ true → IsGentleAt m w p listed b

-- Where the test passes, all heads between the listed ones are gentle.
abbrev pub AllBetweenAreGentle : Type 0
AllBetweenAreGentle = (m : FlowModel) (w : ConvertibleLayers) (p : ℕ) (listed : List Bound) (h : ℕ → Fraction) → IsModel m →
    AreGentleBetween m w p listed → HeadsEnclose m listed h → IsGentle m w p h
