-- The verdict on a listing, and how a certified listing encloses every history.
use Rattle.std.specs.Prelude.{◌≡◌, ℕ, ◌⊎◌, List, [], ◌∷◌, Option, false, ◌<◌, ◌≤◌, ◌^◌, map, nat_abs, Ok, Bool}
use Rattle.step_problem.specs.declared.heads.Bound.{Bound}
use Rattle.model_types.specs.{declared.limits.Limits.Limits, declared.limits.Limits.TheVariants.Plain, declared.time_steps.TimeStep.TimeStep, times}
use Rattle.deck_problems.specs.{declared.decks.Decks.Decks, AreStartHeadsFor, AreDecks}
use Rattle.listing_io.specs.{declared.listing.ListedStep.ListedStep, all_lines, listing_at, AreListed}
use Rattle.listing_run.specs.{declared.steps.Task.Task, declared.solving.Step.Step, deck_task, EnclosesHistories, is_between, listing, AllSteps}
use Rattle.listing_run.specs.{declared.text.ListingEnd.TheVariants.Whole}
use Rattle.check_run.specs.declared.verdict.ListingVerdict.{ListingVerdict}
use Rattle.check_run.specs.declared.verdict.ListingVerdict.TheVariants.{Certified, Fails, Refused}
use Rattle.check_run.specs.Steps.{Passes, FailsAt, IsRefused}
use Rattle.std.specs.List.{concat}
use Rattle.zone_pairs.specs.{pairs_in, AreNumbers}
use Rattle.run_puts.specs.{end_line}

module _ (limits : Limits) (d : Decks) (s : ℕ) (zones : Option (List ℕ)) where
  -- the check ends at this step with this verdict
  abbrev pub StopsAt : TimeStep → List Bound → ListedStep → ListingVerdict → Type 0
  StopsAt at old w Certified = ⊥
  StopsAt at old w (Fails t place) = (t ≡ at) × FailsAt limits d s zones at old w place
  StopsAt at old w (Refused t n) = (t ≡ at) × IsRefused limits d s zones at old w n

  -- From the heads `old` on, the check of these times' steps ends with this verdict. Each step is checked from the listed heads of the one before it.
  abbrev pub Checks : List Bound → List TimeStep → List ListedStep → ListingVerdict → Type 0
  Checks old (at ∷ rest) (w ∷ steps) end = (Passes limits d s zones at old w × Checks w.heads rest steps end) ⊎ StopsAt at old w end
  Checks old [] [] Certified = Unit {0}
  Checks old [] [] (Fails t place) = ⊥
  Checks old [] [] (Refused t n) = ⊥
  Checks old [] (w ∷ steps) end = ⊥
  Checks old (at ∷ rest) [] end = ⊥

  -- The verdict on a listing's steps: they are checked in turn, the first from STRT.
  pub record IsVerdict (steps : List ListedStep) (end : ListingVerdict) : Type 0 where
    pub start : List Bound
    pub is_start : AreStartHeadsFor d start
    pub checks : Checks start (times d.first) steps end

-- the decks as a task; the limits, the rounds, and that it is not quick, have no effect
abbrev pub checked_task : Decks → ℕ → Option (List ℕ) → Task
checked_task d s zones = deck_task Plain d s zones 0 false

-- a listed step at its time, as a step of a run
abbrev pub step_of : TimeStep → ListedStep → Step
step_of at w = record { at = at; heads = w.heads; budget = w.budget; zones = w.zones }

abbrev pub steps_of : List TimeStep → List ListedStep → List Step
steps_of (at ∷ rest) (w ∷ steps) = step_of at w ∷ steps_of rest steps
steps_of [] steps = []
steps_of (at ∷ rest) [] = []

-- Every history that solves the decks' exact equations lies between the listed heads, with each of its budget flows
-- between the listed terms, and each of its flows between two zones of a zone file between its two listed numbers.
abbrev pub ListingEncloses : Decks → ℕ → Option (List ℕ) → List ListedStep → Type 0
ListingEncloses d s zones steps = EnclosesHistories (checked_task d s zones) (steps_of (times d.first) steps)

-- The listing of a run, as a check reads and judges it.
-- a step of a run, as it is listed
abbrev pub as_listed : Step → ListedStep
as_listed v = record { heads = v.heads; budget = v.budget; zones = v.zones }

-- Where all steps of valid decks have values, the listing of these values is certified.
abbrev pub RunIsCertified : Type 0
RunIsCertified =
    (limits : Limits) (d : Decks) (s : ℕ) (zones : Option (List ℕ)) (rounds : ℕ) (quick : Bool) (values : List Step) → AreDecks d → AreNumbers zones →
    AllSteps (deck_task limits d s zones rounds quick) values Whole → IsVerdict limits d s zones (map as_listed values) Certified

-- valid decks with a LENUNI of 64 bits, as the reader of models gives it, at most 18 digits, and zones of at most 999 if
-- there is a zone file
pub record IsReadable (d : Decks) (s : ℕ) (zones : Option (List ℕ)) : Type 0 where
  pub decks : AreDecks d
  pub digits : s ≤ 18
  pub numbers : AreNumbers zones
  pub unit : nat_abs d.first.lenuni < 2 ^ 64

-- The bytes of such a listing are read as these values.
abbrev pub RunIsReadAgain : Type 0
RunIsReadAgain =
    (limits : Limits) (d : Decks) (s : ℕ) (zones : Option (List ℕ)) (rounds : ℕ) (quick : Bool) (values : List Step) → IsReadable d s zones →
    AllSteps (deck_task limits d s zones rounds quick) values Whole →
    listing_at (is_between (deck_task limits d s zones rounds quick)) d.first s (pairs_in d.first zones)
    (all_lines (concat (listing (deck_task limits d s zones rounds quick) values end_line))) ≡ Ok (map as_listed values)

-- Laws of verdicts.
-- a listing of decks has at most one verdict
abbrev pub VerdictIsOne : Type 0
VerdictIsOne =
    (limits : Limits) (d : Decks) (s : ℕ) (zones : Option (List ℕ)) (steps : List ListedStep) (a b : ListingVerdict) → AreDecks d →
    AreListed d.first (pairs_in d.first zones) steps → IsVerdict limits d s zones steps a → IsVerdict limits d s zones steps b → a ≡ b
