-- Laws of a plan's text: the text written for a plan's steps is read as these steps, a text that is read is the one written for them, and no text is read
-- as two kinds of listing.
use Rattle.std.specs.Prelude.{◌≡◌, ℕ, Bool, false, true, List, Ok, length}
use Rattle.std.specs.List.{AllZip}
unfoldable use Rattle.outside.specs.{lines}
use Rattle.step_problem.specs.declared.heads.Bound.{Bound}
use Rattle.budget_bounds.specs.{declared.pair.TermPair.TermPair, all_terms}
use Rattle.model_types.specs.{declared.model.FlowModel.FlowModel, declared.time_steps.TimeStep.TimeStep, cell_count}
unfoldable use Rattle.model_types.specs.{times}
use Rattle.zone_pairs.specs.declared.pair.ZonePair.{ZonePair}
use Rattle.listing_io.specs.{AreCellBounds, AreFlows, AreZonePairs, IsPairIf, IsWritable, all_lines, has_evt, text_of, declared.listing.ListedStep.ListedStep}
unfoldable use Rattle.listing_io.specs.{listing_at}
use Rattle.plan_listing.specs.{declared.listing.ListedPlanStep.ListedPlanStep, Lines.plan_listing_lines, Reading.is_source, Reading.plan_listing_at}

-- one bound for each cell of the grid: from -4000000000 to 4000000000 length units, and zeros where there is no flow
pub record AreBoundsOf (m : FlowModel) (bs : List Bound) : Type 0 where
  pub whole : length bs ≡ cell_count m.grid
  pub bounds : AreCellBounds m 0 bs

-- of each term flows below 2^126, and zeros where it has no line
abbrev pub AreSources : FlowModel → List TermPair → Type 0
AreSources m terms = AllZip (λ t p. IsPairIf (is_source (has_evt m) t) p) all_terms terms

-- a step of a listing at a time, where flows between these pairs of zones are due
pub record IsListedPlanStep (m : FlowModel) (pairs : List ZonePair) (at : TimeStep) (x : ListedPlanStep) : Type 0 where
  pub time : x.at ≡ at
  pub base : AreBoundsOf m x.base
  pub planned : AreBoundsOf m x.planned
  pub differences : AreBoundsOf m x.differences
  pub sources : AreSources m x.flows.sources.terms
  pub zones : AreFlows pairs x.flows.zones

-- one step for each time step of the model, where `pairs` has the pairs of zones of each stress period
pub record AreListedPlan (m : FlowModel) (pairs : ℕ → List ZonePair) (listed : List ListedPlanStep) : Type 0 where
  pub steps : AllZip (λ at x. IsListedPlanStep m (pairs at.period) at x) (times m) listed

-- A written listing is read as the steps written.
abbrev pub PlanListingsAreReadAgain : Type 0
PlanListingsAreReadAgain =
    (between : Bool) (m : FlowModel) (s : ℕ) (pairs : ℕ → List ZonePair) (steps : List ListedPlanStep) →
    IsWritable m s → AreZonePairs pairs → AreListedPlan m pairs steps →
    plan_listing_at between m s pairs (all_lines (text_of (plan_listing_lines between m s steps))) ≡ Ok steps

-- A text that is read is the one written: it has these lines and no others.
abbrev pub PlanListingsWereWritten : Type 0
PlanListingsWereWritten =
    (between : Bool) (m : FlowModel) (s : ℕ) (pairs : ℕ → List ZonePair) (text : List ℕ) (steps : List ListedPlanStep) →
    plan_listing_at between m s pairs (all_lines text) ≡ Ok steps → lines text ≡ plan_listing_lines between m s steps

-- No text is read both as a plan's listing of two decks and as that of one deck.
abbrev pub PlanListingsAreApart : Type 0
PlanListingsAreApart =
    (m n : FlowModel) (s t : ℕ) (pairs others : ℕ → List ZonePair) (text : List ℕ) (steps more : List ListedPlanStep) → IsWritable n t →
    plan_listing_at true m s pairs (all_lines text) ≡ Ok steps → plan_listing_at false n t others (all_lines text) ≡ Ok more → ⊥

-- No text is read both as a plan's listing and as a listing of heads.
abbrev pub PlanListingsAreNoListings : Type 0
PlanListingsAreNoListings =
    (between spanned : Bool) (m n : FlowModel) (s t : ℕ) (pairs others : ℕ → List ZonePair) (text : List ℕ) →
    (steps : List ListedPlanStep) (listed : List ListedStep) →
    plan_listing_at between m s pairs (all_lines text) ≡ Ok steps → listing_at spanned n t others (all_lines text) ≡ Ok listed → ⊥
