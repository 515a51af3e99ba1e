-- Gentle heads: those at which each flow between two cells falls weakly with the head that it goes to and rises weakly with the
-- one that it comes from. LPF's equations for convertible layers may have several solutions; on gentle heads they are monotone.
use Rattle.std.specs.Prelude.{ℕ, ◌+◌, ◌<◌, ◌≡◌, ◌⊎◌, ◌||◌, true, false, All}
use Rattle.decimal_input.specs.{number, Fraction, as_fraction, Fractions.AtMost}
use Rattle.cell_balance.specs.{minus, IsBelow}
use Rattle.model_types.specs.{declared.model.FlowModel.FlowModel, declared.face.Axis.Axis, declared.face.Axis.TheVariants.Row}
use Rattle.model_types.specs.{declared.face.Axis.TheVariants.Column, declared.face.Axis.TheVariants.Vertical, top_at, bottom_at, is_active, is_variable}
use Rattle.model_types.specs.{cell_count, layer_size, variable_faces, constant_faces}
use Rattle.water_table.specs.{declared.convertible_layers.ConvertibleLayers.ConvertibleLayers, Branches.is_convertible, Branches.saturated_thickness}

module _ (m : FlowModel) (w : ConvertibleLayers) (h : ℕ → Fraction) where
  -- a full cell: its head is at or above its top, or its layer isn't convertible
  abbrev pub IsFull : ℕ → Type 0
  IsFull c = (is_convertible m w c ≡ false) ⊎ AtMost (number (top_at m c)) (h c)

  -- from the head of cell n to that of cell c the fall is at most the saturated thickness of c
  abbrev pub FallsWithin : ℕ → ℕ → Type 0
  FallsWithin c n = AtMost (minus (h n) (h c)) (as_fraction (saturated_thickness m w h c))

  -- a branch of cell c to cell n along an axis is gentle: along a row or a column c is full, or the head falls to it by at most its saturated thickness
  abbrev pub FallsGently : ℕ → Axis → ℕ → Type 0
  FallsGently c Row n = IsFull c ⊎ FallsWithin c n
  FallsGently c Column n = IsFull c ⊎ FallsWithin c n
  FallsGently c Vertical n = Unit {0}

-- The heads h are gentle in period p.
pub record IsGentle (m : FlowModel) (w : ConvertibleLayers) (p : ℕ) (h : ℕ → Fraction) : Type 0 where
  -- each active cell of a convertible layer has its head above its bottom
  pub wet : (c : ℕ) → c < cell_count m.grid → is_active m c ≡ true → is_convertible m w c ≡ true → IsBelow (number (bottom_at m c)) (h c)
  -- to each variable cell the head falls gently from its variable and its constant-head neighbours
  pub falls : (c : ℕ) → c < cell_count m.grid → is_variable m p c ≡ true →
      All (λ x. FallsGently m w h c x.axis x.end) (variable_faces m p c) × All (λ x. FallsGently m w h c x.axis x.end) (constant_faces m p c)
  -- Of an active cell and an active cell below it, one of them convertible, the lower one's head is at or above the upper one's bottom. It may be
  -- at that bottom: the lower cell is full there, and the fall to it is within the upper cell's saturated thickness.
  pub over_bottom : (c : ℕ) → c + layer_size m.grid < cell_count m.grid → is_active m c ≡ true → is_active m (c + layer_size m.grid) ≡ true →
      (is_convertible m w c || is_convertible m w (c + layer_size m.grid)) ≡ true → AtMost (number (bottom_at m c)) (h (c + layer_size m.grid))
