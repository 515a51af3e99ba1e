-- The exact steps of two plans in one weather: that of a model, and that of the model with the plan's wells.
use Rattle.std.specs.Prelude.{◌≡◌, ℕ, ◌-◌, List, [], All, Contains, None, Ok, length, map, slice_index_or}
use Rattle.std.specs.List.{filter_map}
use Rattle.decimal_input.specs.{EnclosesSigned, Fraction}
use Rattle.outside.specs.{FileSet}
use Rattle.step_problem.specs.declared.heads.Bound.{Bound}
use Rattle.model_types.specs.{declared.entry.Entry.Entry, declared.limits.Limits.Limits, declared.model.FlowModel.FlowModel, declared.period.Period.Period}
use Rattle.model_types.specs.{as_well, cell_count, entries_of, period_at, variable_cells}
use Rattle.flow_equations.specs.{exact_flow, exact_step}
use Rattle.cell_balance.specs.{ExactFlow, minus}
use Rattle.model_reader.specs.{reads}
use Rattle.deck_problems.specs.{declared.decks.Decks.Decks, IsMember}
use Rattle.plan_wells.specs.{IsWell, with_plan}
use Rattle.plan_step.specs.{IsPlannedStep, bound_at}

-- the lists of RIV, DRN and GHB hold no wells
pub record KeepsWellsApart (p : Period) : Type 0 where
  pub rivers : All (λ x. as_well x ≡ None) p.stresses.rivers
  pub drains : All (λ x. as_well x ≡ None) p.stresses.drains
  pub generals : All (λ x. as_well x ≡ None) p.stresses.generals

-- A model that files are read as has such lists in each stress period.
abbrev pub ReadersKeepWellsApart : Type 0
ReadersKeepWellsApart =
    (limits : Limits) (files : FileSet) (name : List ℕ) (m : FlowModel) → reads limits files name ≡ Ok m → All KeepsWellsApart m.periods

-- So has the model of one deck that does, and each model between two decks of which the first one does.
abbrev pub MembersKeepWellsApart : Type 0
MembersKeepWellsApart = (d : Decks) (m : FlowModel) (p : ℕ) → All KeepsWellsApart d.first.periods → IsMember d m → KeepsWellsApart (period_at m p)

-- the plan's wells at the variable cell of index c, as flows (TM 6-A16, chapter 6, WEL)
abbrev pub plan_flows : FlowModel → List (List Entry) → ℕ → ℕ → (ℕ → Fraction) → ℕ → List ExactFlow
plan_flows m plan p n old c =
    map (exact_flow m p n old (slice_index_or (variable_cells m p) c 0))
    (filter_map as_well (entries_of (slice_index_or (variable_cells m p) c 0) (slice_index_or plan (p - 1) [])))

-- the old differences lie within these bounds at each variable cell
abbrev pub DifferencesEnclose : FlowModel → ℕ → List Bound → (ℕ → Fraction) → (ℕ → Fraction) → Type 0
DifferencesEnclose m p olds old older =
    (c : ℕ) → Contains (variable_cells m p) c → EnclosesSigned (bound_at olds c).low (bound_at olds c).high 9 (minus (old c) (older c))

-- The step of a model with a plan's wells is that of the model in the same weather, with the plan's wells after its flows, and known heads apart by
-- the old differences.
abbrev pub PlannedSteps : Type 0
PlannedSteps =
    (m : FlowModel) (plan : List (List Entry)) (p n : ℕ) (old older : ℕ → Fraction) (olds : List Bound) → length plan ≡ length m.periods →
    All (All (IsWell (cell_count m.grid))) plan → KeepsWellsApart (period_at m p) → DifferencesEnclose m p olds old older →
    IsPlannedStep olds (plan_flows m plan p n old) (exact_step m p n old) (exact_step (with_plan plan m) p n older)
