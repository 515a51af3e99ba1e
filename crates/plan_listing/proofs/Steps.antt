-- The steps of a plan's listing, and a whole listing, are read as they are written.
use Rattle.plan_listing.proofs.Common.{◌≡◌, ℕ, ◌≤◌, Bool, List, [], ◌∷◌, ◌++◌, length, map, refl, sym, ap, ◌∙◌, subst, Ok, append_assoc, AllZip, flat_map, range_with_len, Bound, AllZip-length}
use Rattle.plan_listing.proofs.Common.{FlowModel, TimeStep, cell_count, ZonePair, IsCellBound, Left, Line, all_lines, each_lines, end_line, has_evt, step_line, zone_line, IsReader, all_read}
use Rattle.plan_listing.proofs.Common.{bind_goes_through, left_of, same_ok, flows_read, text_again, text_row, whole_was, are_flows, flow_lines, flows_of, ListedPlanStep, PlanCell, AreBoundsOf}
use Rattle.plan_listing.proofs.Common.{AreListedPlan, IsListedPlanStep, PlanListingsWereWritten, plan_cells, plan_first_line, plan_step_at, plan_step_of}
use Rattle.std.proofs.lemmas.List.FromFn.{length-range_with_len}
use Rattle.record_lines.specs.{next_number}
use Rattle.plan_listing.proofs.Cells.{IsPlanCell, bases, bounds_are, cells_are, differences, lists_of, planneds, same_cells}
use Rattle.plan_listing.proofs.Readers.{lines_of_sources, plan_cells_read, sources_read}
unfoldable use Rattle.outside.specs.{lines}
unfoldable use Rattle.record_lines.specs.{for_each}
unfoldable use Rattle.model_types.specs.{times}
unfoldable use Rattle.listing_io.specs.{flow_at, text_at}
unfoldable use Rattle.plan_listing.specs.{cells_lines, plan_cells_at, plan_listing_at, plan_listing_lines, plan_step_lines, plan_step_with, source_lines, sources_at}

abbrev cells : FlowModel → List ℕ
cells m = range_with_len 0 (cell_count m.grid)

-- the bounds of a list, by the cells of the grid
of_cells : (m : FlowModel) (bs : List Bound) → AreBoundsOf m bs → AllZip (IsCellBound m) (cells m) bs
of_cells m bs h = subst (λ n. AllZip (IsCellBound m) (range_with_len 0 n) bs) h.whole h.bounds

are_bounds : (m : FlowModel) (bs : List Bound) → AllZip (IsCellBound m) (cells m) bs → AreBoundsOf m bs
are_bounds m bs h =
    let whole : length bs ≡ cell_count m.grid = sym (AllZip-length (IsCellBound m) (cells m) bs h) ∙ length-range_with_len 0 (cell_count m.grid) in
    record { whole = whole; bounds = subst (λ n. AllZip (IsCellBound m) (range_with_len 0 n) bs) (sym whole) h }

abbrev pub step_cells : ListedPlanStep → List PlanCell
step_cells x = plan_cells x.base x.planned x.differences

pub cells_of_step : (m : FlowModel) (zs : List ZonePair) (at : TimeStep) (x : ListedPlanStep) → IsListedPlanStep m zs at x → AllZip (IsPlanCell m) (cells m) (step_cells x)
cells_of_step m zs at x h = cells_are m (cells m) x.base x.planned x.differences (of_cells m x.base h.base) (of_cells m x.planned h.planned) (of_cells m x.differences h.differences)

-- the step of a step's cells, terms and flows is the step
step_is : (m : FlowModel) (zs : List ZonePair) (at : TimeStep) (x : ListedPlanStep) → IsListedPlanStep m zs at x → plan_step_of at (step_cells x) x.flows.sources.terms x.flows.zones ≡ x
step_is m zs at x h =
    let are = lists_of x.base x.planned x.differences (h.base.whole ∙ sym h.planned.whole) (h.base.whole ∙ sym h.differences.whole) in
    λ i. record { at = (sym h.time) i; base = are.base i; planned = are.planned i; differences = are.difference i; flows = x.flows }

step_again : (m : FlowModel) (s : ℕ) (zs : List ZonePair) (at : TimeStep) → s ≤ 18 → (x : ListedPlanStep) (rest : List Line) (n : ℕ) → IsListedPlanStep m zs at x → (k : ℕ) ×
    (plan_step_with m s zs at (left_of (plan_step_lines m s x ++ rest) n) ≡ Ok (x, left_of rest k))
unfolding plan_step_with plan_step_lines
step_again m s zs at few x rest n h =
    let evt = has_evt m in
    let a = cells_lines m (step_cells x) in
    let b = source_lines m s x.flows.sources in
    let f = map (zone_line s) x.flows.zones in
    let flows = flows_of zs x.flows.zones h.zones in
    let (i, cells_read) = (plan_cells_read m s).again few (step_cells x) (b ++ (f ++ rest)) (next_number n) (cells_of_step m zs at x h) in
    let (j, terms_are) = (sources_read evt s).again few x.flows.sources.terms (f ++ rest) i h.sources in
    let (k, flows_are) = (flows_read s zs).again few x.flows.zones rest j flows in
    let terms_read = rw (lines_of_sources m s x.flows.sources h.sources) at terms_are in
    let flows_read_are = rw (flow_lines s zs x.flows.zones flows) at flows_are in (
      k,
      ap (λ (t : List Line). plan_step_with m s zs at (left_of (step_line x.at ∷ t) n)) (regroup a b f rest)
          ∙ ap (λ (now : TimeStep). plan_step_with m s zs at (left_of (step_line now ∷ (a ++ (b ++ (f ++ rest)))) n)) h.time
          ∙ rw (text_again (step_line at) (a ++ (b ++ (f ++ rest))) n, cells_read, terms_read, flows_read_are) refl
          ∙ ap (λ (y : ListedPlanStep). Ok (y, left_of rest k)) (step_is m zs at x h),
    )
  where
    regroup : (a b f d : List Line) → (a ++ (b ++ f)) ++ d ≡ a ++ (b ++ (f ++ d))
    regroup a b f d = simp append_assoc

step_was : (m : FlowModel) (s : ℕ) (zs : List ZonePair) (at : TimeStep) (left : Left) (got : ListedPlanStep × Left) → plan_step_with m s zs at left ≡ Ok got →
    IsListedPlanStep m zs at got.0 × (left.lines ≡ plan_step_lines m s got.0 ++ got.1.lines)
unfolding plan_step_with plan_step_lines
step_was m s zs at left got h =
    let evt = has_evt m in
    let title = bind_goes_through (text_at (step_line at) left) _ got h in
    let all = bind_goes_through (plan_cells_at m title.item) _ got title.then_ in
    let terms = bind_goes_through (sources_at evt s all.item.1) _ got all.then_ in
    let flows = bind_goes_through (for_each (flow_at s) zs terms.item.1) _ got terms.then_ in
    let (cells_read, cell_rows) = (plan_cells_read m s).was title.item all.item all.first in
    let (terms_are, term_rows) = (sources_read evt s).was all.item.1 terms.item terms.first in
    let (are, zone_rows) = (flows_read s zs).was terms.item.1 flows.item flows.first in
    let xs = all.item.0 in
    let b = source_lines m s (record { terms = terms.item.0 }) in
    let f = map (zone_line s) flows.item.0 in
    let term_rows_are = rw (lines_of_sources m s (record { terms = terms.item.0 }) terms_are) at term_rows in
    let flow_rows_are = rw (flow_lines s zs flows.item.0 are) at zone_rows in
    let cell_rows_are = cell_rows ∙ ap (λ (ys : List PlanCell). cells_lines m ys ++ all.item.1.lines) (sym (same_cells xs)) in
    let a = cells_lines m (plan_cells (bases xs) (planneds xs) (differences xs)) in
    let P : ListedPlanStep × Left → Type 0 = λ x. IsListedPlanStep m zs at x.0 × (left.lines ≡ plan_step_lines m s x.0 ++ x.1.lines) in
    subst P (same_ok (plan_step_of at xs terms.item.0 flows.item.0, flows.item.1) got _ refl flows.then_) (
      record {
        time = refl;
        base = are_bounds m (bases xs) (bounds_are m (λ x. x.base) (λ c x k. k.base) (cells m) xs cells_read);
        planned = are_bounds m (planneds xs) (bounds_are m (λ x. x.planned) (λ c x k. k.planned) (cells m) xs cells_read);
        differences = are_bounds m (differences xs) (bounds_are m (λ x. x.difference) (λ c x k. k.difference) (cells m) xs cells_read);
        sources = terms_are;
        zones = are_flows zs flows.item.0 are;
      },
      text_row (step_line at) left title.item title.first
          ∙ ap (λ (t : List Line). step_line at ∷ t)
          (cell_rows_are ∙ ap (λ (t : List Line). a ++ t) (term_rows_are ∙ ap (λ (t : List Line). b ++ t) flow_rows_are) ∙ regroup a b f flows.item.1.lines),
    )
  where
    regroup : (a b f d : List Line) → a ++ (b ++ (f ++ d)) ≡ (a ++ (b ++ f)) ++ d
    regroup a b f d = simp append_assoc

-- the lines of steps, by their times and alone
pub by_times : {T X : Type 0} (row : X → List Line) (R : T → X → Type 0) (ts : List T) (xs : List X) → AllZip R ts xs → each_lines (λ t x. row x) ts xs ≡ flat_map row xs
by_times row R [] [] h = refl
by_times row R (t ∷ ts) (x ∷ xs) h = ap (λ (rows : List Line). row x ++ rows) (by_times row R ts xs h.1)
by_times row R [] (x ∷ xs) h = absurd h
by_times row R (t ∷ ts) [] h = absurd h

module _ (m : FlowModel) (s : ℕ) (pairs : ℕ → List ZonePair) where
  abbrev pub IsListedPlanAt : TimeStep → ListedPlanStep → Type 0
  IsListedPlanAt at x = IsListedPlanStep m (pairs at.period) at x

  steps_read : IsReader s (for_each (plan_step_at m s pairs) (times m)) (each_lines (λ at x. plan_step_lines m s x) (times m)) (AllZip IsListedPlanAt (times m))
  steps_read = all_read s (plan_step_at m s pairs) (λ at x. plan_step_lines m s x) IsListedPlanAt
      (λ at. record { again = step_again m s (pairs at.period) at; was = step_was m s (pairs at.period) at }) (times m)

  -- The lines of a listing are read as its steps.
  pub rows_again : (between : Bool) (steps : List ListedPlanStep) → s ≤ 18 → AreListedPlan m pairs steps →
      plan_listing_at between m s pairs (left_of (plan_listing_lines between m s steps) 1) ≡ Ok steps
  unfolding plan_listing_at plan_listing_lines
  rows_again between steps few h =
      let (k, read) = steps_read.again few steps (end_line ∷ []) (next_number 1) h.steps in
      let read_are = rw (by_times (plan_step_lines m s) IsListedPlanAt (times m) steps h.steps) at read in
      rw (text_again (plan_first_line between m s) (flat_map (plan_step_lines m s) steps ++ (end_line ∷ [])) 1, read_are, text_again end_line [] k) refl

  -- What was read is a listing, and its lines are those of the steps.
  listing_was : (between : Bool) (left : Left) (steps : List ListedPlanStep) → plan_listing_at between m s pairs left ≡ Ok steps →
      AreListedPlan m pairs steps × (left.lines ≡ plan_listing_lines between m s steps)
  unfolding plan_listing_at plan_listing_lines
  listing_was between left steps h =
      let was = whole_was (text_at (plan_first_line between m s) left) (for_each (plan_step_at m s pairs) (times m)) steps h in
      let title = text_row (plan_first_line between m s) left was.after was.started in
      let (are, rows) = steps_read.was was.after (steps, was.last) was.read_is in (
        record { steps = are },
        title ∙ ap (λ (t : List Line). plan_first_line between m s ∷ t)
            (rows ∙ ap (λ (t : List Line). t ++ was.last.lines) (by_times (plan_step_lines m s) IsListedPlanAt (times m) steps are)
            ∙ ap (λ (t : List Line). flat_map (plan_step_lines m s) steps ++ t) was.end),
      )

  pub listed_is : (between : Bool) (left : Left) (steps : List ListedPlanStep) → plan_listing_at between m s pairs left ≡ Ok steps → AreListedPlan m pairs steps
  listed_is between left steps h = (listing_was between left steps h).0

pub plan_listings_were_written : PlanListingsWereWritten
plan_listings_were_written between m s pairs text steps h = (listing_was m s pairs between (all_lines text) steps h).1
