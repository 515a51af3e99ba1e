-- What a watched run puts to its side sink.
use Rattle.std.specs.Prelude.{◌≡◌, ◌⊎◌, ℕ, ◌*◌, ◌<◌, List, [], ◌∷◌, ◌++◌, length, map, All, Bool, true, false, Option, Some, None}
use Rattle.outside.specs.{Put, whole_put, failed_put, declared.traits.SinkError.SinkError}
use Rattle.step_problem.specs.{declared.heads.Bound.Bound, Entries.Entries, Edges}
use Rattle.command_line.specs.{Run, Wanted}
use Rattle.model_types.specs.{declared.grid.Grid.Grid, declared.time_steps.TimeStep.TimeStep, times}
use Rattle.deck_problems.specs.{AreStartHeadsFor}
use Rattle.settle_driver.specs.{AddsPhases, EnclosesPair}
use Rattle.step_chain.specs.{edges_by, IsPosed}
use Rattle.listing_io.specs.{view_text}
use Rattle.run_puts.specs.{Text, declared.puts.Status.Status}
use Rattle.listing_run.specs.{declared.steps.Task.Task, declared.solving.Step.Step, time, EnclosesSolutions, IsStep}
use Rattle.run_puts.specs.declared.puts.Status.TheVariants as status
use Rattle.engine.specs.{Cases.Case, Cases.IsListingOf, Uses.SinkUse}

-- the number of views in each phase that the words ask for
abbrev pub views_in : Option Wanted → Option ℕ
views_in (Some (Run asked to)) = asked.watch
views_in other = None

-- the text of a view, by the stress period and the number of its step
abbrev pub lines_of : Grid → ℕ → ℕ → List Entries → List Bound → List ℕ
lines_of grid period step p heads = view_text grid (time period step) p heads

-- Between the heads of a view lie the settled pair of its step's problem, and every solution of the exact step, from
-- all exact heads within the old ones, at the variable cells; with wide limits every solution whose heads are in range.
pub record IsView (k : Task) (at : TimeStep) (old : List Bound) (p : List Entries) (b : Edges) (heads : List Bound) : Type 0 where
  pub pair : EnclosesPair p b heads
  pub solutions : EnclosesSolutions k.limits k.decks at old p heads

-- These are the texts of views of a step: of the first ones; or, where they are whole, of all of them, which are none without a
-- variable cell, and else the same number of views in each of some phases.
pub record AreViews (whole : Bool) (k : Task) (each_phase : ℕ) (at : TimeStep) (old : List Bound) (texts : List Text) : Type 0 where
  pub problem : List Entries
  pub barrier : Edges
  pub posed : IsPosed k.limits k.decks k.digits at old problem barrier
  pub views : List (List Bound)
  pub no_cell : whole ≡ true → length problem ≡ 0 → views ≡ []
  pub each : whole ≡ true → 0 < length problem → (phases : ℕ) × (0 < phases) × (length views ≡ phases * each_phase)
  pub enclose : All (IsView k at old problem (edges_by k.limits barrier)) views
  pub are : texts ≡ map (view_text k.decks.first.grid at problem) views

-- The steps of these times, each from the heads of the one before it, have views with these texts, in turn; where they aren't whole
-- perhaps only the first of them, the last one perhaps only its first views.
abbrev pub AreWatched : Bool → Task → ℕ → List Bound → List TimeStep → List Text → Type 0
AreWatched whole k n old [] texts = texts ≡ []
AreWatched whole k n old (at ∷ times) texts = ((whole ≡ false) × ((texts ≡ []) ⊎ AreViews false k n at old texts))
    ⊎ ((v : Step) × (here : List Text) × (rest : List Text) × IsStep k at old v × AreViews true k n at old here × (texts ≡ here ++ rest)
    × AreWatched whole k n v.heads times rest)

-- These texts were put in turn, each taken whole; where they aren't whole the last one may have been refused.
abbrev pub ArePutInTurn : Bool → List Text → List Put → Type 0
ArePutInTurn whole texts puts = (puts ≡ map whole_put texts) ⊎ ((whole ≡ false) × (before : List Text) × (last : Text) × (error : SinkError)
    × (texts ≡ before ++ last ∷ []) × (puts ≡ map whole_put before ++ failed_put last error ∷ []))

-- The side sink got the texts of the views of all steps, from STRT on, in turn, and nothing else; where they aren't whole those of the
-- first steps, up to the first put that failed. `leads` says which puts lead from that sink before to that sink after.
pub record IsWatched (whole : Bool) (k : Task) (each_phase : ℕ) (leads : List Put → Type 0) : Type 0 where
  pub start : List Bound
  pub is_start : AreStartHeadsFor k.decks start
  pub texts : List Text
  pub watched : AreWatched whole k each_phase start (times k.decks.first) texts
  pub puts : List Put
  pub in_turn : ArePutInTurn whole texts puts
  pub led : leads puts

-- so it is with the listing of a run's case
pub record Watched (whole : Bool) (case : Case) (each_phase : ℕ) (leads : List Put → Type 0) : Type 0 where
  pub task : Task
  pub is : IsListingOf task case
  pub watched : IsWatched whole task each_phase leads

-- What a listing that ended so puts to the side sink, where this number of views is asked for, or none: nothing; or the views of the
-- first steps, and if it ended Ok those of all.
abbrev pub ViewsPut : Task → Option ℕ → SinkUse → Status → Type 0
ViewsPut k None beside end = beside.leads []
ViewsPut k (Some n) beside end = (beside.leads [] ⊎ IsWatched false k n beside.leads) × (end ≡ status.Ok → IsWatched true k n beside.leads)

-- What is put to the side sink, whatever the status: nothing; or, with `--watch`, the views of the first steps.
abbrev pub SidePuts : (List Put → Type 0) → Case → Option ℕ → Type 0
SidePuts leads case None = leads []
SidePuts leads case (Some n) = leads [] ⊎ Watched false case n leads

-- what a settling shows to a viewer, with this many views in each phase
abbrev pub Shows : {V : Type 0} → (V → List Entries → Edges → ℕ → V → Type 0) → (V → Type 0) → ℕ → V → List Entries → Edges → Bool → V → Type 0
Shows viewed stopped n s p b ended t = AddsPhases viewed stopped p b n ended s t
