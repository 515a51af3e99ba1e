-- The heads of constant-head cells (TM 6-A16, chapters 4 and 6, BAS and CHD; where the manual leaves room, this program's choice).
use Rattle.std.specs.Prelude.{ℕ, ◌-◌, Option, Some, None, take, pos, Bool, cond, not, ◌&&◌, ◌==◌, int_lt, List, length, filter, map, is_some, reverse}
use Rattle.decimal_input.specs.{number, Ratio, Fraction, as_fraction, opposite, Fractions.plus, Fractions.times}
use Rattle.model_types.specs.{declared.model.FlowModel.FlowModel, Layers.dec_at, Layers.int_at, Layers.is_active, Times.period_at, Times.part_passed}
use Rattle.model_types.specs.{declared.period.Period.Period, declared.given_heads.Kind.Kind, declared.given_heads.GivenHeads.GivenHeads}
use Rattle.model_types.specs.{declared.given_heads.Kind.TheVariants.NoFlow, declared.given_heads.Kind.TheVariants.Constant}
use Rattle.model_types.specs.{declared.given_heads.Kind.TheVariants.Variable, Faces.cell_count}
use Rattle.model_types.specs.declared.entry.Given.{Given}
use Rattle.std.specs.List.{range_with_len, find, flat_map}

-- Which cells have a variable head in a stress period, which a constant one, and which no flow (TM 6-A16, chapters 4
-- and 6, BAS and CHD; where the manual leaves room, this program's choice: a cell that a CHD list names is constant
-- from then on).
-- the last entry of a CHD list that names a cell
unfoldable pub given_in : List Given → ℕ → Option Given
given_in xs c = find (λ x. x.cell.0 == c) (reverse xs)

-- the last entry of these periods' CHD lists, in their order, that names a cell
abbrev pub last_given : List Period → ℕ → Option Given
last_given ps c = given_in (flat_map (λ p. p.stresses.given) ps) c

module _ (m : FlowModel) (p : ℕ) where
  -- whether a CHD list of a period up to p names the cell
  abbrev pub is_given : ℕ → Bool
  is_given c = is_some (last_given (take p m.periods) c)

  -- A variable cell: IBOUND is above 0, and no CHD list up to this period names it.
  abbrev pub is_variable : ℕ → Bool
  is_variable c = int_lt (pos 0) (int_at m.ibound c) && not (is_given c)

  -- A constant-head cell: IBOUND isn't 0, and the cell isn't variable.
  abbrev pub is_constant : ℕ → Bool
  is_constant c = is_active m c && not (is_variable c)

  abbrev pub kind_of : ℕ → Kind
  kind_of c = cond (is_variable c) Variable (cond (is_constant c) Constant NoFlow)

  -- the kinds of all cells, by cell number
  unfoldable pub kinds : List Kind
  kinds = map kind_of (range_with_len 0 (cell_count m.grid))

  -- the given heads so far of all cells, by cell number
  unfoldable pub given_heads : GivenHeads
  given_heads = record { period = p; last = map (last_given (take p m.periods)) (range_with_len 0 (cell_count m.grid)) }

  -- The variable cells, by ascending cell number. A variable cell's index is the number of those below it.
  unfoldable pub variable_below : ℕ → List ℕ
  variable_below n = filter is_variable (range_with_len 0 n)

  abbrev pub variable_cells : List ℕ
  variable_cells = variable_below (cell_count m.grid)

  abbrev pub index_of : ℕ → ℕ
  index_of c = length (variable_below c)

-- STRT, the starting head of a cell
abbrev pub start_head : FlowModel → ℕ → Fraction
start_head m c = number (dec_at m.strt c)

-- Shead + (Ehead - Shead) * f
abbrev pub between_heads : Given → Ratio → Fraction
between_heads x f = plus (number x.shead) (times (plus (number x.ehead) (opposite (number x.shead))) (as_fraction f))

module _ (m : FlowModel) where
  -- the head that a constant cell keeps: the Ehead of the last list that named it, or STRT where none has
  abbrev pub kept_head : Option Given → ℕ → Fraction
  kept_head None c = start_head m c
  kept_head (Some x) c = number x.ehead

module _ (m : FlowModel) (p n : ℕ) where
  -- the head at step n of period p. Where the period's list names the cell it lies between Shead and Ehead, by the
  -- part of the period that has passed; else it is the head that the cell keeps.
  abbrev pub head_or_kept : Option Given → ℕ → Fraction
  head_or_kept (Some x) c = between_heads x (part_passed (period_at m p) n)
  head_or_kept None c = kept_head m (last_given (take (p - 1) m.periods) c) c

  unfoldable pub constant_head : ℕ → Fraction
  constant_head c = head_or_kept (given_in (period_at m p).stresses.given c) c
