-- Stress periods and time steps (TM 6-A16, chapter 2). Periods and steps are counted from 1. With T for TSMULT each
-- step of a transient period is T times as long as the one before, and G(n) = 1 + T + .. + T^(n-1).
use Rattle.std.specs.Prelude.{ℕ, zero, suc, ◌-◌, true, cond, ◌||◌, ◌==◌, List, [], ◌++◌, map, length, slice_index_or}
use Rattle.std.specs.List.{range_with_len, flat_map}
use Rattle.decimal_input.specs.{size, Ratio, ratio, over, Ratios.plus, Ratios.times as product}
use Rattle.model_types.specs.{declared.entry.Entry.Entry, declared.model.FlowModel.FlowModel, declared.period.Period.Period, declared.period.Stresses.Stresses}
use Rattle.model_types.specs.{declared.time_steps.TimeStep.TimeStep, Layers.no_number, Layers.one}

-- a period's stresses where no package has any
abbrev pub no_stresses : Stresses
no_stresses =
    record {
      wells = [];
      rivers = [];
      drains = [];
      generals = [];
      given = [];
      recharge = [];
      irch = [];
      surf = [];
      evtr = [];
      exdp = [];
      ievt = [];
    }

abbrev pub no_period : Period
no_period = record { perlen = no_number; nstp = 0; tsmult = no_number; steady = true; stresses = no_stresses }

-- stress period p of a model, from 1
abbrev pub period_at : FlowModel → ℕ → Period
period_at m p = slice_index_or m.periods (p - 1) no_period

-- all entries of WEL, RIV, DRN and GHB of a period
abbrev pub entries : Period → List Entry
entries p = p.stresses.wells ++ (p.stresses.rivers ++ (p.stresses.drains ++ p.stresses.generals))

-- t ^ n
unfoldable pub power : Ratio → ℕ → Ratio
power t zero = one
power t (suc n) = product (power t n) t

-- G(n) = 1 + t + .. + t ^ (n - 1)
unfoldable pub geometric : Ratio → ℕ → Ratio
geometric t zero = ratio 0 1
geometric t (suc n) = plus (geometric t n) (power t n)

-- the length of step n of a transient period, PERLEN * T^(n-1) / G(NSTP) (TM 6-A16, chapter 4, DIS)
unfoldable pub step_length : Period → ℕ → Ratio
step_length p n = over (product (size p.perlen) (power (size p.tsmult) (n - 1))) (geometric (size p.tsmult) p.nstp)

-- TSMULT, which in a steady period counts as 1
abbrev pub multiplier : Period → Ratio
multiplier p = cond p.steady one (size p.tsmult)

-- F, the part of the period that has passed at the end of step n: G(n) / G(NSTP), and all of it at the last step or where PERLEN is 0
unfoldable pub part_passed : Period → ℕ → Ratio
part_passed p n = cond (n == p.nstp || p.perlen.digits == 0) one (over (geometric (multiplier p) n) (geometric (multiplier p) p.nstp))

-- the time steps of period p, and of the whole model in order
abbrev pub steps_of : FlowModel → ℕ → List TimeStep
steps_of m p = map (λ n. record { period = p; step = n }) (range_with_len 1 (period_at m p).nstp)

unfoldable pub times : FlowModel → List TimeStep
times m = flat_map (steps_of m) (range_with_len 1 (length m.periods))
