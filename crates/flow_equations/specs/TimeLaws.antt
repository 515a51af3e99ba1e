-- Time steps by the manual (TM 6-A16, chapters 2 and 4).
use Rattle.std.specs.Prelude.{◌≡◌, ℕ, ◌+◌, ◌≤◌, true, false, List, [], ◌∷◌}
use Rattle.std.specs.List.{range_with_len}
use Rattle.decimal_input.specs.{size, Ratio, ratio, over, Ratios.plus, Ratios.times, Ratios.Same}
use Rattle.model_types.specs.{declared.model.FlowModel.FlowModel, declared.period.Period.Period, dec_at, area, thickness, IsPositive, one, power, step_length}
use Rattle.model_types.specs.{part_passed, storage, storage_capacity}

-- the sum of f over a list
abbrev pub ratio_total : (ℕ → Ratio) → List ℕ → Ratio
ratio_total f [] = ratio 0 1
ratio_total f (n ∷ ns) = plus (f n) (ratio_total f ns)

-- a transient period of positive length with at least one step
pub record Lasts (p : Period) : Type 0 where
  pub transient : p.steady ≡ false
  pub perlen : IsPositive p.perlen
  pub tsmult : IsPositive p.tsmult
  pub nstp : 1 ≤ p.nstp

-- steps of one length: TSMULT is 1
abbrev pub HasEqualSteps : Period → Type 0
HasEqualSteps p = Same (size p.tsmult) one

pub record HasManualSteps (p : Period) : Type 0 where
  -- each step is TSMULT times as long as the one before
  pub grows : (n : ℕ) → 1 ≤ n → Same (step_length p (n + 1)) (times (size p.tsmult) (step_length p n))
  -- the first one by the manual's formula, dt * (T^NSTP - 1) = PERLEN * (T - 1), with what is subtracted on the other side
  pub first : Same (plus (times (step_length p 1) (power (size p.tsmult) p.nstp)) (size p.perlen))
      (plus (times (size p.perlen) (size p.tsmult)) (step_length p 1))
  -- steps of one length where TSMULT is 1
  pub equal : HasEqualSteps p → (n : ℕ) → Same (step_length p n) (over (size p.perlen) (ratio p.nstp 1))
  -- all steps together are the period
  pub whole : Same (ratio_total (step_length p) (range_with_len 1 p.nstp)) (size p.perlen)
  -- the steps up to the n-th are the part F of it
  pub part : (n : ℕ) → 1 ≤ n → n ≤ p.nstp → Same (ratio_total (step_length p) (range_with_len 1 n)) (times (part_passed p n) (size p.perlen))

abbrev pub StepsAreTheManuals : Type 0
StepsAreTheManuals = (p : Period) → Lasts p → HasManualSteps p

-- The storage of a step is the storage capacity over the step's length.
abbrev pub StoresOverTheStep : Type 0
StoresOverTheStep = (m : FlowModel) (p : Period) (n c : ℕ) → Lasts p → Same (times (storage m p n c) (step_length p n)) (storage_capacity m c)

-- By the option STORAGECOEFFICIENT (TM 6-A16, LPF, item 1) Ss is read as a storage coefficient: a step's storage is Ss * DELR * DELC over its length,
-- without the thickness. Without the option Ss is the specific storage, and it is Ss * THICK * DELR * DELC over its length.
pub record StoresByOption (m : FlowModel) (p : Period) (n c : ℕ) : Type 0 where
  pub coefficient : m.coefficient ≡ true → Same (times (storage m p n c) (step_length p n)) (times (size (dec_at m.ss c)) (area m c))
  pub specific : m.coefficient ≡ false → Same (times (storage m p n c) (step_length p n)) (times (times (size (dec_at m.ss c)) (thickness m c)) (area m c))

abbrev pub StoresByTheOption : Type 0
StoresByTheOption = (m : FlowModel) (p : Period) (n c : ℕ) → Lasts p → StoresByOption m p n c
