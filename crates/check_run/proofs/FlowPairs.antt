-- The flows between zones of a step's problem have the pairs of zones of the step's period.
use Rattle.check_run.proofs.Common.{◌≡◌, ℕ, Bool, List, [], ◌∷◌, map, ap, ◌∙◌, subst, Option, Some, None, ℤ, filter, Bound, ZoneFlow, Entries, lower_at, upper_at, share, Decks, ZonePair, pairs_below}
use Rattle.check_run.proofs.Common.{zones_of_flow, pairs_in, share_face, zone_pairs, AreFlowsOf, faces_of, BoundAll, BoundChoices, Bounds, EnclosesHistories, AllSteps, HistoriesBound, deck_task}
use Rattle.check_run.proofs.Common.{AreDecks, start_head, times, TimeStep, IsProblemFor, Fraction, exact_step, heads_of, FlowModel, Task, ExactCell, Choice, step_from, Step, Whole, Steps, as_listed}
use Rattle.check_run.proofs.Common.{ListingEncloses, checked_task, step_of, steps_of, Limits, flows_of_pairs, same_flows, refl}
use Rattle.barrier_vector.proofs.Uniques.{same_tests}
use Rattle.check_run.proofs.Branches.{HaveBranches, have_branches, pair_shares, shared_has}

pub flows_have_pairs : (ds : Decks) (s : ℕ) (at : TimeStep) (old : List Bound) (p : List Entries) → AreDecks ds → IsProblemFor ds s at old p →
    (heads : List Bound) (zones : Option (List ℕ)) (flows : List ZoneFlow) → AreFlowsOf p heads zones flows → map zones_of_flow flows ≡ pairs_in ds.first zones at.period
unfolding zone_pairs
flows_have_pairs ds s at old p decks is heads None flows are = ap (map zones_of_flow) (same_flows p heads None flows [] are refl)
flows_have_pairs ds s at old p decks is heads (Some zones) flows are =
    let m = ds.first in
    let branches : HaveBranches m at.period p = have_branches m ds.second s at old p decks.first decks.second is in
    let size = decks.first.grid.size in
    let same : (z : ZonePair) → share (faces_of p heads zones) z ≡ share_face m zones at.period z = λ z.
    same_tests _ _ (pair_shares zones (lower_at heads) (upper_at heads) m at.period size p branches z) (shared_has zones (lower_at heads) (upper_at heads) m at.period size p branches z) in
    (flows_of_pairs (faces_of p heads zones) flows are).1 ∙ (λ i. filter (λ z. same z i) (pairs_below 1000))

-- What the steps of a run enclose, their listing encloses.
module _ (limits : Limits) (ds : Decks) (s : ℕ) (zones : Option (List ℕ)) (rounds : ℕ) (quick : Bool) where
  abbrev task : Task
  task = deck_task limits ds s zones rounds quick

  step_bounds : (m : FlowModel) (at : TimeStep) (v : Step) (e : List ExactCell) (d : ℕ) (X : ℕ → ℤ) → Bounds task m v e d X →
      Bounds (checked_task ds s zones) m (step_of at (as_listed v)) e d X
  step_bounds m at v e d X b = record { heads = b.heads; budget = b.budget; zones = b.zones }

  all_bounds : (m : FlowModel) (d : ℕ) (old : List Bound) (before : ℕ → Fraction) (rest : List TimeStep) (values : List Step) (Xs : List (ℕ → ℤ)) →
      Steps task old rest values Whole → BoundAll task m d before values Xs →
      BoundAll (checked_task ds s zones) m d before (steps_of rest (map as_listed values)) Xs
  all_bounds m d old before [] [] [] h b = tt
  all_bounds m d old before [] [] (X ∷ Xs) h b = absurd b
  all_bounds m d old before [] (v ∷ values) Xs h b = absurd h
  all_bounds m d old before (at ∷ rest) [] Xs h b = absurd h
  all_bounds m d old before (at ∷ rest) (v ∷ values) [] h b = absurd b
  all_bounds m d old before (at ∷ rest) (v ∷ values) (X ∷ Xs) (is, h) (b, more) =
      let B : TimeStep → Type 0 = λ t. Bounds task m v (exact_step m t.period t.step before) d X in
      (step_bounds m at v (exact_step m at.period at.step before) d X (subst B is.time b), all_bounds m d v.heads (heads_of d X) rest values Xs h more)

  choices_bounds : (m : FlowModel) (d : ℕ) (old : List Bound) (before : ℕ → Fraction) (rest : List TimeStep) (values : List Step) (xs : List Choice) (Xs : List (ℕ → ℤ)) →
      Steps task old rest values Whole → BoundChoices task m d before values xs Xs →
      BoundChoices (checked_task ds s zones) m d before (steps_of rest (map as_listed values)) xs Xs
  choices_bounds m d old before [] [] [] [] h b = tt
  choices_bounds m d old before (at ∷ rest) (v ∷ values) (x ∷ xs) (X ∷ Xs) (is, h) (b, more) =
      (step_bounds m at v (step_from before x.cells) d X b, choices_bounds m d v.heads (heads_of d X) rest values xs Xs h more)
  choices_bounds m d old before [] [] [] (X ∷ Xs) h b = absurd b
  choices_bounds m d old before [] [] (x ∷ xs) Xs h b = absurd b
  choices_bounds m d old before [] (v ∷ values) xs Xs h b = absurd h
  choices_bounds m d old before (at ∷ rest) [] xs Xs h b = absurd h
  choices_bounds m d old before (at ∷ rest) (v ∷ values) [] Xs h b = absurd b
  choices_bounds m d old before (at ∷ rest) (v ∷ values) (x ∷ xs) [] h b = absurd b

  histories_enclosed : (a : FlowModel) (o : Option FlowModel) (start : List Bound) (values : List Step) → Steps task start (times a) values Whole → HistoriesBound task a o values →
      HistoriesBound (checked_task ds s zones) a o (steps_of (times a) (map as_listed values))
  histories_enclosed a None start values h encloses = λ d Xs solves. all_bounds a d start (start_head a) (times a) values Xs h (encloses d Xs solves)
  histories_enclosed a (Some b) start values h encloses = λ first xs are d Xs solves. choices_bounds a d start first (times a) values xs Xs h (encloses first xs are d Xs solves)

  pub run_encloses : (values : List Step) → AllSteps task values Whole → EnclosesHistories task values → ListingEncloses ds s zones (map as_listed values)
  run_encloses values h encloses = histories_enclosed ds.first ds.second h.start values h.steps encloses
