-- What the definitions owe to the manual (TM 6-A16, chapter 5, LPF).
use Rattle.std.specs.Prelude.{ℕ, ◌≡◌, true}
use Rattle.decimal_input.specs.{number, size, Fraction, as_fraction, Ratio, Fractions.AtMost, Fractions.Same, Fractions.plus, Fractions.times}
use Rattle.decimal_input.specs.{Ratios.times as product}
use Rattle.cell_balance.specs.{minus}
use Rattle.model_types.specs.{declared.model.FlowModel.FlowModel, declared.face.Axis.Axis, thickness, conductance, top_at, dec_at, area, storage_capacity}
use Rattle.water_table.specs.{declared.convertible_layers.ConvertibleLayers.ConvertibleLayers, Branches.branch, Branches.is_convertible, Storage.stored_water}

-- With THICK for the thickness of each cell a branch is the confined model's.
abbrev pub ThickBranchesAreConfined : Type 0
ThickBranchesAreConfined = (m : FlowModel) (axis : Axis) (a : ℕ) → branch m (thickness m) axis a ≡ conductance m axis a

-- a quantity that isn't negative, times a difference of heads
abbrev pub over_fall : Ratio → Fraction → Fraction → Fraction
over_fall r f g = times (as_fraction r) (minus f g)

-- What a convertible cell loses of its stored water from the head `old` to the head v, by LPF's four cases: SY below the top, SS above it, and the sum of
-- the two parts of the way where the head crosses the top.
pub record LosesByCase (m : FlowModel) (w : ConvertibleLayers) (c : ℕ) (old v : Fraction) : Type 0 where
  pub both_below : AtMost old (number (top_at m c)) → AtMost v (number (top_at m c)) →
      Same (minus (stored_water m w c old) (stored_water m w c v)) (over_fall (product (size (dec_at w.sy c)) (area m c)) old v)
  pub both_above : AtMost (number (top_at m c)) old → AtMost (number (top_at m c)) v →
      Same (minus (stored_water m w c old) (stored_water m w c v)) (over_fall (storage_capacity m c) old v)
  pub falls_across : AtMost (number (top_at m c)) old → AtMost v (number (top_at m c)) →
      Same (minus (stored_water m w c old) (stored_water m w c v))
      (plus (over_fall (storage_capacity m c) old (number (top_at m c))) (over_fall (product (size (dec_at w.sy c)) (area m c)) (number (top_at m c)) v))
  pub rises_across : AtMost old (number (top_at m c)) → AtMost (number (top_at m c)) v →
      Same (minus (stored_water m w c old) (stored_water m w c v))
      (plus (over_fall (product (size (dec_at w.sy c)) (area m c)) old (number (top_at m c))) (over_fall (storage_capacity m c) (number (top_at m c)) v))

abbrev pub LosesByCases : Type 0
LosesByCases = (m : FlowModel) (w : ConvertibleLayers) (c : ℕ) (old v : Fraction) → is_convertible m w c ≡ true → LosesByCase m w c old v
