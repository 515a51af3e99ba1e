-- Reading a plan's listing: the lines that are due, one after another. A refusal is the number of the first line of another form than the one due.
use Rattle.std.specs.Prelude.{ℕ, Bool, true, false, List, map, Result, Ok, Err}
use Rattle.std.specs.List.{range_with_len}
use Rattle.outside.specs.{declared.codes.Code.TheVariants.BadListing, declared.inputs.Refusal.Refusal, refusal}
use Rattle.record_lines.specs.{◌>>=◌}
unfoldable use Rattle.record_lines.specs.{for_each}
use Rattle.step_problem.specs.{declared.place.Term.Term, declared.place.Term.TheVariants.Wells, declared.place.Term.TheVariants.Recharge}
use Rattle.step_problem.specs.{declared.place.Term.TheVariants.Et, declared.place.ZoneFlow.ZoneFlow}
use Rattle.budget_bounds.specs.{declared.pair.TermPair.TermPair, all_terms}
use Rattle.model_types.specs.{declared.model.FlowModel.FlowModel, declared.time_steps.TimeStep.TimeStep, cell_count, is_active}
unfoldable use Rattle.model_types.specs.{times}
use Rattle.zone_pairs.specs.declared.pair.ZonePair.{ZonePair}
use Rattle.listing_io.specs.declared.pair_lines.CellWord.TheVariants.{Base, Plan, Drawdown}
use Rattle.listing_io.specs.{Left, all_lines, cell_front, end_line, has_evt, head_if, over_at, pair_if, source_front, step_line, term_form}
unfoldable use Rattle.listing_io.specs.{flow_at, text_at}
use Rattle.plan_listing.specs.{declared.listing.ListedPlanStep.ListedPlanStep, declared.listing.PlanCell.PlanCell, Lines.plan_first_line}

-- the three pairs of a cell: no lines where there is no flow
unfoldable pub plan_cell_at : FlowModel → ℕ → Left → Result (PlanCell × Left) ℕ
plan_cell_at m c left = do
  base ← head_if (is_active m c) (cell_front Base m.grid c) left
  planned ← head_if (is_active m c) (cell_front Plan m.grid c) base.1
  difference ← head_if (is_active m c) (cell_front Drawdown m.grid c) planned.1
  Ok (record { base = base.0; planned = planned.0; difference = difference.0 }, difference.1)

-- those of a grid's cells
unfoldable pub plan_cells_at : FlowModel → Left → Result (List PlanCell × Left) ℕ
plan_cells_at m left = for_each (plan_cell_at m) (range_with_len 0 (cell_count m.grid)) left

-- whether a term has a line SOURCE; ET has one where the model has EVT
abbrev pub is_source : Bool → Term → Bool
is_source evt Wells = false
is_source evt Recharge = false
is_source evt Et = evt
is_source evt other = true

-- the terms; one without a line is zeros
unfoldable pub sources_at : Bool → ℕ → Left → Result (List TermPair × Left) ℕ
sources_at evt s left = for_each (λ t. pair_if (is_source evt t) source_front (term_form s t)) all_terms left

-- a step of these cells, terms and flows between zones
abbrev pub plan_step_of : TimeStep → List PlanCell → List TermPair → List ZoneFlow → ListedPlanStep
plan_step_of at cells terms zones = record {
  at = at;
  base = map (λ x. x.base) cells;
  planned = map (λ x. x.planned) cells;
  differences = map (λ x. x.difference) cells;
  flows = record { sources = record { terms = terms }; zones = zones };
}

-- a whole step, where flows between these pairs of zones are due
unfoldable pub plan_step_with : FlowModel → ℕ → List ZonePair → TimeStep → Left → Result (ListedPlanStep × Left) ℕ
plan_step_with m s pairs at left = do
  after ← text_at (step_line at) left
  cells ← plan_cells_at m after
  terms ← sources_at (has_evt m) s cells.1
  flows ← for_each (flow_at s) pairs terms.1
  Ok (plan_step_of at cells.0 terms.0 flows.0, flows.1)

-- where `pairs` has the pairs of zones of each stress period, by its number
abbrev pub plan_step_at : FlowModel → ℕ → (ℕ → List ZonePair) → TimeStep → Left → Result (ListedPlanStep × Left) ℕ
plan_step_at m s pairs at left = plan_step_with m s (pairs at.period) at left

-- a whole listing: its steps, or the number of the first line of another form than the one due
unfoldable pub plan_listing_at : Bool → FlowModel → ℕ → (ℕ → List ZonePair) → Left → Result (List ListedPlanStep) ℕ
plan_listing_at between m s pairs left = do
  after ← text_at (plan_first_line between m s) left
  steps ← for_each (plan_step_at m s pairs) (times m) after
  end ← text_at end_line steps.1
  over ← over_at end
  Ok steps.0

-- the listing of a file, or BadListing at that line
abbrev pub or_bad_plan_listing : List ℕ → Result (List ListedPlanStep) ℕ → Result (List ListedPlanStep) Refusal
or_bad_plan_listing file (Ok steps) = Ok steps
or_bad_plan_listing file (Err n) = Err (refusal BadListing file n)

abbrev pub plan_listing_in : Bool → FlowModel → ℕ → (ℕ → List ZonePair) → List ℕ → List ℕ → Result (List ListedPlanStep) Refusal
plan_listing_in between m s pairs file text = or_bad_plan_listing file (plan_listing_at between m s pairs (all_lines text))
