-- The lines of a plan's listing, version 1, in their order: the first line, for each time step the line STEP, of each active cell the lines BASE, PLAN and
-- DRAWDOWN, the lines SOURCE of the terms and the lines ZONE of the flows between zones, and the line END.
use Rattle.std.specs.Prelude.{ℕ, Bool, cond, List, [], ◌∷◌, ◌++◌, codes, map, slice_index_or}
use Rattle.std.specs.List.{flat_map, range_with_len, zip}
use Rattle.step_problem.specs.declared.heads.Bound.{Bound}
use Rattle.step_problem.specs.declared.place.Term.{Term}
use Rattle.step_problem.specs.declared.place.Term.TheVariants.{Storage, ConstantHead, Drains, RiverLeakage, HeadDepBounds, Et}
use Rattle.budget_bounds.specs.{no_pair, place_of}
use Rattle.model_types.specs.{declared.model.FlowModel.FlowModel, cell_count, is_active}
use Rattle.listing_io.specs.declared.pair_lines.CellWord.{CellWord}
use Rattle.listing_io.specs.declared.pair_lines.CellWord.TheVariants.{Base, Plan, Drawdown}
use Rattle.listing_io.specs.{Line, cell_line, each_lines, end_line, has_evt, source_line, step_line, text_of, titled_line, zone_line}
use Rattle.plan_sources.specs.declared.flows.Sources.{Sources}
use Rattle.plan_listing.specs.{declared.listing.ListedPlanStep.ListedPlanStep, declared.listing.PlanCell.PlanCell}

-- the first line: of two decks it ends with TO
abbrev pub plan_first_line : Bool → FlowModel → ℕ → Line
plan_first_line between m s = titled_line (codes "DRAWDOWN 1") between m s

-- a line of a cell; a cell with IBOUND 0 has none
abbrev pub line_of : CellWord → FlowModel → ℕ → Bound → List Line
line_of w m c b = cond (is_active m c) (cell_line w m.grid c b ∷ []) []

-- a cell: its heads without the plan, those with it, and their difference
abbrev pub plan_cell_lines : FlowModel → ℕ → PlanCell → List Line
plan_cell_lines m c x = line_of Base m c x.base ++ (line_of Plan m c x.planned ++ line_of Drawdown m c x.difference)

-- the cells of three lists
abbrev pub plan_cells : List Bound → List Bound → List Bound → List PlanCell
plan_cells base planned differences = map (λ e. record { base = e.0; planned = e.1.0; difference = e.1.1 }) (zip base (zip planned differences))

-- all cells of the grid
unfoldable pub cells_lines : FlowModel → List PlanCell → List Line
cells_lines m xs = each_lines (plan_cell_lines m) (range_with_len 0 (cell_count m.grid)) xs

-- the terms of which a plan's water can come, in the order of a budget; ET where the model has EVT
abbrev pub source_terms : Bool → List Term
source_terms evt = Storage ∷ ConstantHead ∷ Drains ∷ RiverLeakage ∷ HeadDepBounds ∷ cond evt (Et ∷ []) []

-- what each gives more under the plan, in less out
unfoldable pub source_lines : FlowModel → ℕ → Sources → List Line
source_lines m s x = map (λ t. source_line s t (slice_index_or x.terms (place_of t) no_pair)) (source_terms (has_evt m))

-- a whole step; its lists are those of all cells of the grid
unfoldable pub plan_step_lines : FlowModel → ℕ → ListedPlanStep → List Line
plan_step_lines m s x =
    step_line x.at ∷ (cells_lines m (plan_cells x.base x.planned x.differences) ++ (source_lines m s x.flows.sources ++ map (zone_line s) x.flows.zones))

-- a whole listing, of one deck or of two
unfoldable pub plan_listing_lines : Bool → FlowModel → ℕ → List ListedPlanStep → List Line
plan_listing_lines between m s steps = plan_first_line between m s ∷ (flat_map (plan_step_lines m s) steps ++ (end_line ∷ []))

-- The pieces of a run: the first line, and a step.
unfoldable pub plan_first_text : Bool → FlowModel → ℕ → List ℕ
plan_first_text between m s = text_of (plan_first_line between m s ∷ [])

unfoldable pub plan_step_text : FlowModel → ℕ → ListedPlanStep → List ℕ
plan_step_text m s x = text_of (plan_step_lines m s x)
