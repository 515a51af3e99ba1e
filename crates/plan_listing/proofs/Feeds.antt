-- No line of a plan's listing has a line feed, so the lines of its text are the listing's.
use Rattle.plan_listing.proofs.Common.{ℕ, ◌+◌, ◌≤◌, ◌<◌, Bool, List, [], ◌∷◌, ◌++◌, All, codes, map, refl, subst, sym, arith, AllByRecursion, AllZip, flat_map, range_with_len, all_terms, FlowModel}
use Rattle.plan_listing.proofs.Common.{TimeStep, cell_count, most_cells, ZonePair, Base, Plan, Drawdown, AreZonePairs, IsTime, IsWritable, end_line, has_evt, source_front, zone_line, left_of, Sources}
use Rattle.plan_listing.proofs.Common.{ListedPlanStep, PlanCell, AreListedPlan, AreSources, IsListedPlanStep, PlanListingsAreReadAgain, is_source, line_of, plan_cell_lines}
use Rattle.std.proofs.lemmas.List.Elements.{recursion_from_All}
use Rattle.model_types.specs.declared.limits.Limits.TheVariants.{Wide}
use Rattle.listing_io.proofs.Exactly.{by_test}
use Rattle.listing_io.proofs.Feeds.{NoFeed, all_appended, cell_without, cells_below, each_without, first_without, flows_without, lines_of, step_title_without, term_without}
use Rattle.plan_listing.proofs.{Cells.IsPlanCell, Readers.IsSourcePair, Readers.lines_of_sources, Readers.source_rows, Steps.IsListedPlanAt, Steps.by_times, Steps.cells_of_step, Steps.rows_again}
use Rattle.plan_listing.proofs.{Steps.step_cells}
unfoldable use Rattle.model_types.specs.{times}
unfoldable use Rattle.plan_listing.specs.{cells_lines, plan_listing_lines, plan_step_lines, source_lines}

cell_lines_without : (m : FlowModel) (c : ℕ) (x : PlanCell) → c < most_cells Wide → IsPlanCell m c x → AllByRecursion NoFeed (plan_cell_lines m c x)
cell_lines_without m c x lt h =
    all_appended NoFeed (line_of Base m c x.base) (line_of Plan m c x.planned ++ line_of Drawdown m c x.difference) (cell_without Base m c x.base lt h.base)
    (all_appended NoFeed (line_of Plan m c x.planned) (line_of Drawdown m c x.difference) (cell_without Plan m c x.planned lt h.planned) (cell_without Drawdown m c x.difference lt h.difference))

cells_without : (m : FlowModel) (xs : List PlanCell) → cell_count m.grid ≤ most_cells Wide → AllZip (IsPlanCell m) (range_with_len 0 (cell_count m.grid)) xs → AllByRecursion NoFeed (cells_lines m xs)
unfolding cells_lines
cells_without m xs few h = each_without (λ c. c < most_cells Wide) (IsPlanCell m) (plan_cell_lines m) (cell_lines_without m) (range_with_len 0 (cell_count m.grid)) xs
    (cells_below 0 (cell_count m.grid) (omega (arith, few))) h

sources_without : (m : FlowModel) (s : ℕ) (x : Sources) → s ≤ 18 → AreSources m x.terms → AllByRecursion NoFeed (source_lines m s x)
sources_without m s x few h =
    let evt = has_evt m in
    subst (AllByRecursion NoFeed) (lines_of_sources m s x h) (each_without (λ t. Unit {0}) (IsSourcePair evt) (source_rows evt s) (λ t p any good.
    term_without source_front (by_test 10 source_front refl) (is_source evt t) s t p few good) all_terms x.terms (tt, (tt, (tt, (tt, (tt, (tt, (tt, (tt, tt)))))))) h)

step_without : (m : FlowModel) (s : ℕ) (zs : List ZonePair) (at : TimeStep) (x : ListedPlanStep) → IsWritable m s → All (λ z. (z.from ≤ 999) × (z.to ≤ 999)) zs → IsTime at →
    IsListedPlanStep m zs at x → AllByRecursion NoFeed (plan_step_lines m s x)
unfolding plan_step_lines
step_without m s zs at x good pairs time h = (
  step_title_without x.at (subst IsTime (sym h.time) time),
  all_appended NoFeed (cells_lines m (step_cells x)) (source_lines m s x.flows.sources ++ map (zone_line s) x.flows.zones)
      (cells_without m (step_cells x) good.size.cells (cells_of_step m zs at x h))
      (all_appended NoFeed (source_lines m s x.flows.sources) (map (zone_line s) x.flows.zones)
      (sources_without m s x.flows.sources good.digits h.sources)
      (flows_without s zs x.flows.zones good.digits pairs h.zones)),
)

steps_without : (m : FlowModel) (s : ℕ) (pairs : ℕ → List ZonePair) (xs : List ListedPlanStep) → IsWritable m s → AreZonePairs pairs →
    AllZip (IsListedPlanAt m s pairs) (times m) xs → AllByRecursion NoFeed (flat_map (plan_step_lines m s) xs)
steps_without m s pairs xs good are h =
    subst (AllByRecursion NoFeed) (by_times (plan_step_lines m s) (IsListedPlanAt m s pairs) (times m) xs h)
    (each_without IsTime (IsListedPlanAt m s pairs) (λ at x. plan_step_lines m s x) (λ at x time step.
    step_without m s (pairs at.period) at x good (are at.period) time step) (times m) xs (recursion_from_All IsTime (times m) good.times) h)

listing_without : (between : Bool) (m : FlowModel) (s : ℕ) (pairs : ℕ → List ZonePair) (steps : List ListedPlanStep) → IsWritable m s → AreZonePairs pairs →
    AreListedPlan m pairs steps → AllByRecursion NoFeed (plan_listing_lines between m s steps)
unfolding plan_listing_lines
listing_without between m s pairs steps good are h = (
  first_without (codes "DRAWDOWN 1") (by_test 10 (codes "DRAWDOWN 1") refl) between m s good,
  all_appended NoFeed (flat_map (plan_step_lines m s) steps) (end_line ∷ []) (steps_without m s pairs steps good are h.steps) (by_test 10 end_line refl, tt),
)

pub plan_listings_are_read_again : PlanListingsAreReadAgain
plan_listings_are_read_again between m s pairs steps good are h = grind (arith, left_of, lines_of, listing_without, rows_again)
