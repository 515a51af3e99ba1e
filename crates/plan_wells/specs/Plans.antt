-- A plan: the wells that it adds in each stress period (TM 6-A16, chapter 6, WEL).
use Rattle.std.specs.Prelude.{ℕ, ◌≡◌, ◌≤◌, ◌<◌, ◌++◌, Bool, if◌then◌else◌, List, All, length, map, nat_le, replicate, Result, Ok, Err}
use Rattle.std.specs.List.{list_all}
use Rattle.decimal_input.specs.{IsDec}
use Rattle.outside.specs.{refusal, declared.codes.Code.TheVariants.TooManyEntries, declared.inputs.Refusal.Refusal}
use Rattle.record_lines.specs.{◌>>=◌}
use Rattle.model_types.specs.{cell_count, most_entries, no_period, declared.entry.Entry.Entry, declared.entry.Entry.TheVariants.Well}
use Rattle.model_types.specs.{declared.entry.Entry.TheVariants.River, declared.entry.Entry.TheVariants.Drain, declared.entry.Entry.TheVariants.General}
use Rattle.model_types.specs.{declared.grid.Grid.Grid, declared.limits.Limits.Limits, declared.model.FlowModel.FlowModel, declared.period.Period.Period}
use Rattle.model_types.specs.{declared.limits.Limits.TheVariants.Wide}
use Rattle.list_package.specs.{lists_of}
use Rattle.stress_packages.specs.{wells}
use Rattle.problem_hull.specs.{zip_with}

-- the period with these wells after its own
abbrev pub with_wells : Period → List Entry → Period
with_wells p added = record p { stresses = record p.stresses { wells = p.stresses.wells ++ added } }

-- the model with a plan's wells, a list for each stress period
abbrev pub with_plan : List (List Entry) → FlowModel → FlowModel
with_plan plan m = record m { periods = zip_with with_wells m.periods plan }

-- the plan that a file of WEL gives for a grid and a number of stress periods, or the file's first refusal
abbrev pub plan_of : Limits → List ℕ → List ℕ → Grid → ℕ → Result (List (List Entry)) Refusal
plan_of limits file bytes grid periods =
    lists_of limits wells file bytes grid (replicate periods no_period) >>= λ ps. Ok (map (λ p. p.stresses.wells) ps)

-- no stress period has more wells than a valid model may have
abbrev pub are_few : FlowModel → Bool
are_few m = list_all (λ p. nat_le (length p.stresses.wells) (most_entries Wide)) m.periods

-- the model with the plan's wells, or the refusal of too many, with the plan's file and no line
abbrev pub planned : List (List Entry) → List ℕ → FlowModel → Result FlowModel Refusal
planned plan file m = if are_few (with_plan plan m) then Ok (with_plan plan m) else Err (refusal TooManyEntries file 0)

-- What the reader promises of a plan.
-- a well in a grid of this many cells
abbrev pub IsWell : ℕ → Entry → Type 0
IsWell cells (Well cell q) = (cell.0 < cells) × IsDec q
IsWell cells (River cell stage k bottom) = ⊥
IsWell cells (Drain cell elevation k) = ⊥
IsWell cells (General cell head k) = ⊥

-- a plan for a grid and a number of stress periods, by these limits
pub record IsPlan (limits : Limits) (grid : Grid) (periods : ℕ) (plan : List (List Entry)) : Type 0 where
  pub long : length plan ≡ periods
  pub few : All (λ list. length list ≤ most_entries limits) plan
  pub wells : All (All (IsWell (cell_count grid))) plan
