-- Where all steps of a task have values, the model of its one deck has a history, and one alone, or so has each choice between two.
use Rattle.exact_histories.proofs.Common.{◌∷◌, [], subst, List, map, times, TimeStep, Bound, AreSteps, starts_enclose_all, Solved, starts_fit_decks, one_valid, RunsHaveAHistory, RunsHaveOneHistory}
use Rattle.exact_histories.proofs.Common.{AreDecks, HaveOneHistory}
use Rattle.listing_run.specs.{declared.text.ListingEnd.TheVariants.Whole, AllSteps, one_task, pairs_of, Steps, declared.solving.Step.Step, declared.steps.Task.Task}
use Rattle.exact_histories.proofs.{Turns.turns_of, Turns.heads_at, HaveOne.have_one_by}

module _ (k : Task) where
  solved_steps : (ats : List TimeStep) (values : List Step) (old : List Bound) → Steps k old ats values Whole → (xs : List Solved) × AreSteps k.limits k.decks k.digits (pairs_of k) old ats xs
  solved_steps [] values old h = ([], tt)
  solved_steps (at ∷ ats) [] old h = absurd h
  solved_steps (at ∷ ats) (v ∷ values) old (is, h) =
      let (xs, steps) = solved_steps ats values v.heads h in
      (is.solved ∷ xs, (is.solves, subst (λ (hs : List Bound). AreSteps k.limits k.decks k.digits (pairs_of k) hs ats xs) is.heads steps))

  pub have_one : (values : List Step) → AreDecks k.decks → AllSteps k values Whole → HaveOneHistory k.decks
  have_one values decks all =
      let (xs, steps) = solved_steps (times k.decks.first) values all.start all.steps in
      have_one_by k.limits k.decks.first k.decks.second k.digits all.start (map heads_at xs) (starts_enclose_all k.decks all.start decks all.is_start)
      (turns_of k.limits k.decks k.digits (pairs_of k) decks all.start (times k.decks.first) xs (λ at k. k) (starts_fit_decks k.decks all.start decks all.is_start) steps)

pub history_exists : RunsHaveAHistory
history_exists limits m s zones rounds quick values valid all = (have_one (one_task limits m s zones rounds quick) values (one_valid m valid) all).solvable

pub history_is_one : RunsHaveOneHistory
history_is_one limits m s zones rounds quick values valid all = (have_one (one_task limits m s zones rounds quick) values (one_valid m valid) all).one
