-- The verdict on a listing of a model with convertible layers.
use Rattle.std.specs.Prelude.{◌≡◌, ℕ, zero, suc, List, [], ◌∷◌, ◌⊎◌, Option}
use Rattle.step_problem.specs.declared.heads.Bound.{Bound}
use Rattle.model_types.specs.{declared.model.FlowModel.FlowModel, declared.time_steps.TimeStep.TimeStep, times}
use Rattle.problem_builder.specs.{declared.index.PeriodTables.PeriodTables, AreEvenStorages, ArePeriodTables, AreStartHeads}
use Rattle.listing_io.specs.{declared.listing.ListedStep.ListedStep, step_in}
use Rattle.water_table.specs.declared.convertible_layers.ConvertibleLayers.{ConvertibleLayers}
use Rattle.gentle_steps.specs.{declared.fault.GentleFault.GentleFault, FailsBy}
use Rattle.gentle_steps.specs.declared.fault.GentleFault.TheVariants as fault
use Rattle.gentle_run.specs.declared.verdict.GentleVerdict.{GentleVerdict}
use Rattle.gentle_run.specs.Steps.{FailsAt, IsRefused, Passes}
use Rattle.gentle_run.specs.declared.verdict.GentleVerdict.TheVariants.{Certified, Fails, Refused, Steep}

-- the heads before a step: those of STRT, or the listed ones of the step before
abbrev pub heads_before : List ListedStep → List Bound → ℕ → List Bound
heads_before listing start zero = start
heads_before listing start (suc i) = (step_in listing i).heads

-- the tables of the stress period whose number they have
pub record AreTablesOfPeriod (m : FlowModel) (s : ℕ) (t : PeriodTables) : Type 0 where
  pub tables : ArePeriodTables m s t.period t
  pub storage : AreEvenStorages m s t.period t.storage

-- with s digits of conductances, and the zones of a zone file, if there is one
module _ (m : FlowModel) (w : ConvertibleLayers) (s : ℕ) (zones : Option (List ℕ)) where
  -- the check ends at this step with this verdict
  abbrev pub StopsAt : TimeStep → List Bound → ListedStep → GentleVerdict → Type 0
  StopsAt at old x Certified = ⊥
  StopsAt at old x (Steep t c) = (t ≡ at) × FailsBy m w s at old x.heads (fault.Steep c)
  StopsAt at old x (Fails t place) = (t ≡ at) × FailsAt m w s zones at old x place
  StopsAt at old x (Refused t n) = (t ≡ at) × IsRefused m w s zones at old x n

  -- From the heads `old` on, the check of these times' steps ends with this verdict. Each step is checked from the listed heads of the one before it.
  abbrev pub Checks : List Bound → List TimeStep → List ListedStep → GentleVerdict → Type 0
  Checks old (at ∷ rest) (x ∷ steps) end = (Passes m w s zones at old x × Checks x.heads rest steps end) ⊎ StopsAt at old x end
  Checks old [] [] Certified = Unit {0}
  Checks old [] [] (Steep t c) = ⊥
  Checks old [] [] (Fails t place) = ⊥
  Checks old [] [] (Refused t n) = ⊥
  Checks old [] (x ∷ steps) end = ⊥
  Checks old (at ∷ rest) [] end = ⊥

  -- The verdict on a listing's steps: they are checked in turn, the first from STRT.
  pub record IsVerdict (listing : List ListedStep) (end : GentleVerdict) : Type 0 where
    pub start : List Bound
    pub is_start : AreStartHeads m start
    pub checks : Checks start (times m) listing end

-- the verdict from a step's fault at its time
abbrev pub IsVerdictAt : TimeStep → GentleFault → GentleVerdict → Type 0
IsVerdictAt at (fault.Steep c) v = v ≡ Steep at c
IsVerdictAt at (fault.Fails place) v = v ≡ Fails at place
IsVerdictAt at (fault.Refused n) v = v ≡ Refused at n
IsVerdictAt at fault.Memory v = ⊥
