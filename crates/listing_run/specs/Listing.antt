-- The pieces of a listing.
use Rattle.std.specs.Prelude.{◌≡◌, ℕ, Bool, is_some, List, [], ◌∷◌, ◌++◌, map, ℤ, IfSome, Option, Some, None}
use Rattle.std.specs.List.{concat}
use Rattle.model_types.specs.{declared.grid.Grid.Grid, declared.time_steps.TimeStep.TimeStep, declared.model.FlowModel.FlowModel, start_head}
use Rattle.listing_io.specs.{first_text, step_text, no_bound_line, unfinished_line}
use Rattle.run_puts.specs.{Text, end_line, declared.puts.Status.Status}
use Rattle.listing_run.specs.{declared.text.ListingEnd.ListingEnd, declared.steps.Task.Task, declared.solving.Step.Step, Settlers.AllSteps, Settlers.FirstSteps}
use Rattle.decimal_input.specs.{Fraction}
use Rattle.step_problem.specs.declared.heads.Bound.{Bound}
use Rattle.budget_bounds.specs.{BudgetEncloses}
use Rattle.cell_balance.specs.{ExactCell}
use Rattle.flow_equations.specs.{exact_step, heads_of, variable_heads, Solves}
use Rattle.deck_span.specs.{AreChoices, Choice, SolvesChoices, step_from}
use Rattle.deck_problems.specs.{EachChoice}
use Rattle.step_chain.specs.{LiesWithin, IsMove}
use Rattle.zone_flows.specs.{EncloseExact}
use Rattle.run_puts.specs.declared.puts.Status.TheVariants as status
use Rattle.listing_run.specs.declared.text.ListingEnd.TheVariants as ends

-- How the steps of a listing enclose every history that solves the exact equations of its decks.
-- The vector X over d lies between a step's heads, each exact term of the budget of the exact step e between the step's two bounds, and
-- each exact flow between two zones of the zone file, if there is one, between its two.
pub record Bounds (k : Task) (m : FlowModel) (v : Step) (e : List ExactCell) (d : ℕ) (X : ℕ → ℤ) : Type 0 where
  pub heads : LiesWithin m v.heads d X
  pub budget : BudgetEncloses k.digits e (heads_of d (variable_heads e X)) v.budget
  pub zones : IfSome k.zones (λ zones. EncloseExact k.digits e zones (heads_of d X) v.zones)

-- this holds of each step and its vector, in turn, for one model, where `before` are the exact heads before the first
abbrev pub BoundAll : Task → FlowModel → ℕ → (ℕ → Fraction) → List Step → List (ℕ → ℤ) → Type 0
BoundAll k m d before [] [] = Unit {0}
BoundAll k m d before (v ∷ values) (X ∷ Xs) = Bounds k m v (exact_step m v.at.period v.at.step before) d X × BoundAll k m d (heads_of d X) values Xs
BoundAll k m d before [] (X ∷ Xs) = ⊥
BoundAll k m d before (v ∷ values) [] = ⊥

-- and for a choice of each step
abbrev pub BoundChoices : Task → FlowModel → ℕ → (ℕ → Fraction) → List Step → List Choice → List (ℕ → ℤ) → Type 0
BoundChoices k m d before [] [] [] = Unit {0}
BoundChoices k m d before (v ∷ values) (x ∷ xs) (X ∷ Xs) = Bounds k m v (step_from before x.cells) d X × BoundChoices k m d (heads_of d X) values xs Xs
BoundChoices k m d before values xs Xs = ⊥

-- Every history that solves the exact equations of all steps, over any denominator, lies between their heads, with
-- each of its budget flows between their terms, and each of its flows between two zones of a zone file between its two
-- numbers. With two decks: every history of choices between the two.
abbrev pub HistoriesBound : Task → FlowModel → Option FlowModel → List Step → Type 0
HistoriesBound k a None values = (d : ℕ) (Xs : List (ℕ → ℤ)) → Solves a d Xs → BoundAll k a d (start_head a) values Xs
HistoriesBound k a (Some b) values =
    (start : ℕ → Fraction) (xs : List Choice) → AreChoices a b start xs → (d : ℕ) (Xs : List (ℕ → ℤ)) → SolvesChoices a start xs d Xs →
    BoundChoices k a d start values xs Xs

abbrev pub EnclosesHistories : Task → List Step → Type 0
EnclosesHistories k values = HistoriesBound k k.decks.first k.decks.second values

-- for one step: this holds for each choice, all exact heads within the old ones, and every solution from them
abbrev pub BoundsMovesOf : Task → FlowModel → TimeStep → List Bound → Step → Choice → Type 0
BoundsMovesOf k m at old v x = (before : ℕ → Fraction) (d : ℕ) (X : ℕ → ℤ) → IsMove m at x old before d X → Bounds k m v (step_from before x.cells) d X

abbrev pub BoundsMoves : Task → TimeStep → List Bound → Step → Type 0
BoundsMoves k at old v = EachChoice k.decks at (BoundsMovesOf k k.decks.first at old v)

-- whether the task is one of all models between two decks
abbrev pub is_between : Task → Bool
is_between k = is_some k.decks.second

abbrev pub text_of : Task → Step → Text
text_of k v = step_text k.decks.first k.digits v.at v.heads v.budget v.zones

-- the first line, and a piece for each step
abbrev pub first_pieces : Task → List Step → List Text
first_pieces k values = first_text (is_between k) k.decks.first k.digits ∷ map (text_of k) values

abbrev pub listing : Task → List Step → Text → List Text
listing k values last = first_pieces k values ++ (last ∷ [])

-- the status of a run whose listing ends so, and its last line
abbrev pub status_of : ListingEnd → Status
status_of ends.Whole = status.Ok
status_of (ends.NoBound at n) = status.NoBound at.period at.step n
status_of (ends.Unfinished at) = status.Unfinished at.period at.step

abbrev pub last_line : Grid → ListingEnd → Text
last_line g ends.Whole = end_line
last_line g (ends.NoBound at n) = no_bound_line g at n
last_line g (ends.Unfinished at) = unfinished_line at

-- The pieces of a listing that ends with this status: the model's steps up to an end, and its last line. A whole listing
-- encloses every history.
pub record IsListing (k : Task) (end : Status) (pieces : List Text) : Type 0 where
  pub last : ListingEnd
  pub status : end ≡ status_of last
  pub values : List Step
  pub steps : AllSteps k values last
  pub encloses : last ≡ ends.Whole → EnclosesHistories k values
  pub are : pieces ≡ listing k values (last_line k.decks.first.grid last)

-- a listing of the task that ends with this status was added to a text
pub record IsPushed (k : Task) (end : Status) (old new : Text) : Type 0 where
  pub pieces : List Text
  pub listed : IsListing k end pieces
  pub text : new ≡ old ++ concat pieces

abbrev pub time : ℕ → ℕ → TimeStep
time period step = record { period = period; step = step }

-- the pieces of a listing that is cut off after some steps
pub record IsCutListing (k : Task) (pieces : List Text) : Type 0 where
  pub values : List Step
  pub steps : FirstSteps k (λ heads times. Unit {0}) values
  pub are : pieces ≡ first_pieces k values

-- the pieces of a listing that ends so; or, where a write beside it failed, the first ones of a listing
pub data IsListingBeside (failed : Type 0) (k : Task) : Status → List Text → Type 0 where
  listed : (end : Status) (pieces : List Text) → IsListing k end pieces → IsListingBeside failed k end pieces
  left : (pieces : List Text) → failed → IsCutListing k pieces → IsListingBeside failed k status.WriteFault pieces
