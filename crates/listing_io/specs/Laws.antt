-- Laws of the listing's text: the text written for a model's steps is read as these steps, and a text that is read is the one written for them.
use Rattle.std.specs.Prelude.{◌≡◌, ◌⊎◌, ◌<◌, ◌≤◌, ◌^◌, ℕ, Bool, true, false, List, [], ◌∷◌, ◌++◌, All, nat_abs, Ok, ◌+◌, length, map, slice_index_or}
use Rattle.outside.specs.{lines}
use Rattle.model_types.specs.{declared.model.FlowModel.FlowModel, declared.time_steps.TimeStep.TimeStep, HasSize, times, cell_count, is_active}
use Rattle.zone_pairs.specs.{declared.pair.ZonePair.ZonePair, zones_of_flow}
use Rattle.listing_io.specs.declared.listing.ListedStep.{ListedStep}
use Rattle.listing_io.specs.Listing.{Line, all_step_lines, convertible_listing, end_line, listing, has_evt, text_of, zone_pair}
use Rattle.listing_io.specs.Reading.{first_line_before, all_lines, convertible_listing_at, is_printed, listing_at}
use Rattle.std.specs.List.{AllZip, range_with_len}
use Rattle.step_problem.specs.{declared.heads.Bound.Bound, declared.place.ZoneFlow.ZoneFlow, IsHead, no_bound}
use Rattle.budget_bounds.specs.{declared.pair.TermPair.TermPair, declared.pair.Budget.Budget, all_terms, no_pair}

-- What holds of the steps that are read from a listing, and of the steps that can be written.
abbrev pub no_budget : Budget
no_budget = record { into = []; out = [] }

-- a step by its index, from 0
abbrev pub step_in : List ListedStep → ℕ → ListedStep
step_in steps i = slice_index_or steps i (record { heads = []; budget = no_budget; zones = [] })

-- both heads of an active cell are from -4000000000 to 4000000000 length units; where there is no flow both are zeros
pub record IsCellBound (m : FlowModel) (c : ℕ) (b : Bound) : Type 0 where
  pub low : IsHead b.low
  pub high : IsHead b.high
  pub none : is_active m c ≡ false → b ≡ no_bound

-- the same for the cells from c on
abbrev pub AreCellBounds : FlowModel → ℕ → List Bound → Type 0
AreCellBounds m c bs = AllZip (IsCellBound m) (range_with_len c (length bs)) bs

-- a flow of a listing: its magnitude is below 2^126 units
pub record IsFlowPair (p : TermPair) : Type 0 where
  pub lo : nat_abs p.lo < 2 ^ 126
  pub hi : nat_abs p.hi < 2 ^ 126

-- the two numbers of a term: flows, and zeros where it has no line
pub record IsPairIf (printed : Bool) (p : TermPair) : Type 0 where
  pub small : IsFlowPair p
  pub none : printed ≡ false → p ≡ no_pair

-- those of all terms, in their order
abbrev pub AreTerms : FlowModel → List TermPair → Type 0
AreTerms m pairs = AllZip (λ t p. IsPairIf (is_printed (has_evt m) t) p) all_terms pairs

pub record IsListedStep (m : FlowModel) (x : ListedStep) : Type 0 where
  pub whole : length x.heads ≡ cell_count m.grid
  pub heads : AreCellBounds m 0 x.heads
  pub into : AreTerms m x.budget.into
  pub out : AreTerms m x.budget.out

-- flows between these pairs of zones, one for each, in their order
pub record AreFlows (due : List ZonePair) (flows : List ZoneFlow) : Type 0 where
  pub pairs : map zones_of_flow flows ≡ due
  pub small : All (λ v. IsFlowPair (zone_pair v)) flows

-- a step at a time of a listing, where `pairs` has the pairs of zones of each stress period
abbrev pub IsListedAt : FlowModel → (ℕ → List ZonePair) → TimeStep → ListedStep → Type 0
IsListedAt m pairs at x = IsListedStep m x × AreFlows (pairs at.period) x.zones

-- one step for each time step of the model, each with one bound for each cell of the grid, and its flows between zones
pub record AreListed (m : FlowModel) (pairs : ℕ → List ZonePair) (listed : List ListedStep) : Type 0 where
  pub steps : AllZip (IsListedAt m pairs) (times m) listed

-- numbers of periods and steps that are 32 bits wide
pub record IsTime (at : TimeStep) : Type 0 where
  pub period : at.period < 2 ^ 32
  pub step : at.step < 2 ^ 32

-- a model of which a listing is written and read, with s digits of conductances
pub record IsWritable (m : FlowModel) (s : ℕ) : Type 0 where
  pub size : HasSize m.grid
  pub digits : s ≤ 18
  pub unit : nat_abs m.lenuni < 2 ^ 64
  pub times : All IsTime (times m)

-- zones are at most 999
abbrev pub AreZonePairs : (ℕ → List ZonePair) → Type 0
AreZonePairs pairs = (p : ℕ) → All (λ z. (z.from ≤ 999) × (z.to ≤ 999)) (pairs p)

-- A written listing is read as the steps written, where `pairs` has the pairs of zones of each stress period.
abbrev pub ListingsAreReadAgain : Type 0
ListingsAreReadAgain =
    (between : Bool) (m : FlowModel) (s : ℕ) (pairs : ℕ → List ZonePair) (steps : List ListedStep) →
    IsWritable m s → AreZonePairs pairs → AreListed m pairs steps → listing_at between m s pairs (all_lines (text_of (listing between m s steps))) ≡ Ok steps

-- No text is read both as the listing for all models between two decks and as that of a model.
abbrev pub ListingsAreApart : Type 0
ListingsAreApart =
    (m n : FlowModel) (s t : ℕ) (pairs others : ℕ → List ZonePair) (text : List ℕ) (steps more : List ListedStep) → IsWritable n t →
    listing_at true m s pairs (all_lines text) ≡ Ok steps → listing_at false n t others (all_lines text) ≡ Ok more → ⊥

-- the lines of a listing of version 2, or of a model's listing of version 1, which has the same further lines
abbrev pub IsListing : Bool → FlowModel → ℕ → List ListedStep → List Line → Type 0
IsListing between m s steps rows =
    (rows ≡ listing between m s steps)
    ⊎ ((between ≡ false) × (rows ≡ first_line_before ∷ (all_step_lines m s (times m) steps ++ (end_line ∷ []))))

-- A text that is read is the one written: it has these lines and no others.
abbrev pub ListingsWereWritten : Type 0
ListingsWereWritten =
    (between : Bool) (m : FlowModel) (s : ℕ) (pairs : ℕ → List ZonePair) (text : List ℕ) (steps : List ListedStep) →
    listing_at between m s pairs (all_lines text) ≡ Ok steps → IsListing between m s steps (lines text)

-- The same of the listing of a model with convertible layers: what is written is read again, and a text that is read has these lines and no others.
abbrev pub ConvertibleListingsAreReadAgain : Type 0
ConvertibleListingsAreReadAgain =
    (m : FlowModel) (s : ℕ) (pairs : ℕ → List ZonePair) (steps : List ListedStep) →
    IsWritable m s → AreZonePairs pairs → AreListed m pairs steps →
    convertible_listing_at m s pairs (all_lines (text_of (convertible_listing m s steps))) ≡ Ok steps

abbrev pub ConvertibleListingsWereWritten : Type 0
ConvertibleListingsWereWritten =
    (m : FlowModel) (s : ℕ) (pairs : ℕ → List ZonePair) (text : List ℕ) (steps : List ListedStep) →
    convertible_listing_at m s pairs (all_lines text) ≡ Ok steps → lines text ≡ convertible_listing m s steps

-- No text is read both as such a listing and as another one.
abbrev pub ConvertibleListingsAreApart : Type 0
ConvertibleListingsAreApart =
    (between : Bool) (m n : FlowModel) (s t : ℕ) (pairs others : ℕ → List ZonePair) (text : List ℕ) (steps more : List ListedStep) → IsWritable n t →
    convertible_listing_at m s pairs (all_lines text) ≡ Ok steps → listing_at between n t others (all_lines text) ≡ Ok more → ⊥
