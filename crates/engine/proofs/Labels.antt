-- The times of a listing's steps, and the pairs of zones of their flows, are those of its model.
use Rattle.engine.proofs.Common.{[], ◌≡◌, List, ◌∷◌, map, None, sym, subst, refl, All, All-cons, All-nil, All-weaker, AreDecks, FlowModel, AllSteps, IsStep, ListsPairs, Step, Task, TimeStep, Bound}
use Rattle.engine.proofs.Common.{pairs_in, times, one_valid, job_task, AskedBatch, IsModel, Steps, flows_have_pairs, ZonePair, zones_of_flow}
use Rattle.step_problem.specs.declared.place.ZoneFlow.{ZoneFlow}
use Rattle.listing_run.specs.declared.text.ListingEnd.TheVariants as ends

module _ (k : Task) where
  steps_at : (old : List Bound) (ats : List TimeStep) (values : List Step) → Steps k old ats values ends.Whole → map (λ v. v.at) values ≡ ats
  steps_at old [] [] steps = refl
  steps_at old [] (v ∷ values) steps = absurd steps
  steps_at old (at ∷ ats) [] steps = absurd steps
  steps_at old (at ∷ ats) (v ∷ values) (is, steps) = let here = is.time in let later = steps_at v.heads ats values steps in cc

  -- each step of a whole listing has its own time
  pub listing_times : (values : List Step) → AllSteps k values ends.Whole → map (λ v. v.at) values ≡ times k.decks.first
  listing_times values all = steps_at all.start (times k.decks.first) values all.steps

  module _ (decks : AreDecks k.decks) where
    abbrev Lists : Step → Type 0
    Lists = ListsPairs k.decks.first k.zones

    step_pairs : (old : List Bound) (at : TimeStep) (v : Step) → IsStep k at old v → Lists v
    step_pairs old at v is =
        let P : TimeStep → Type 0 = λ t. map zones_of_flow v.zones ≡ pairs_in k.decks.first k.zones t.period in
        subst P (sym is.time) (flows_have_pairs k.decks k.digits at old is.solved.problem decks is.solves.posed.problem is.solved.heads k.zones v.zones is.zones)

    steps_pairs : (old : List Bound) (ats : List TimeStep) (values : List Step) → Steps k old ats values ends.Whole → All Lists values
    steps_pairs old [] [] steps = All-nil Lists
    steps_pairs old [] (v ∷ values) steps = absurd steps
    steps_pairs old (at ∷ ats) [] steps = absurd steps
    steps_pairs old (at ∷ ats) (v ∷ values) (is, steps) = All-cons Lists v values (step_pairs old at v is) (steps_pairs v.heads ats values steps)

    -- each step of a whole listing lists the flow between each two zones that share a face
    pub listing_pairs : (values : List Step) → AllSteps k values ends.Whole → All Lists values
    listing_pairs values all = steps_pairs all.start (times k.decks.first) values all.steps

-- no pair, no flow
no_flow : (flows : List ZoneFlow) → map zones_of_flow flows ≡ [] → flows ≡ []
no_flow [] none = refl
no_flow (v ∷ flows) none = absurd (let bad : Path (List ZonePair) (zones_of_flow v ∷ map zones_of_flow flows) [] = none in cc)

-- a job lists no flow between zones
pub job_pairs : (b : AskedBatch) (m : FlowModel) (values : List Step) → IsModel m → AllSteps (job_task b m) values ends.Whole → All (λ v. v.zones ≡ []) values
job_pairs b m values valid all = All-weaker (ListsPairs m None) (λ (v : Step). v.zones ≡ []) (λ v none. no_flow v.zones none) values (listing_pairs (job_task b m) (one_valid m valid) values all)
