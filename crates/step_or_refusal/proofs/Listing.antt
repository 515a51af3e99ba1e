-- A model has a whole listing, or a first refusal at one of its times.
use Rattle.step_or_refusal.proofs.Common.{ℕ, ◌⊎◌, inl, inr, Option, List, [], ◌∷◌, refl, sym, subst, Bound, FlowModel, TimeStep, StartHeadsFit, one_deck, StepOrRefusal, ListingOrRefusal, Bool}
use Rattle.step_or_refusal.proofs.Common.{ProblemFits, NoBound, IsBefore, Solved, edges_fit, IsSettledStep, AreGridHeads, times, IsModel, HeadsFit, edges_by, each_cell, start_bound}
use Rattle.step_problem.proofs.Pairs.{settled_is}
use Rattle.model_types.specs.declared.limits.Limits.{Limits}
use Rattle.listing_run.specs.{declared.solving.Step.Step, declared.steps.Task.Task, budget_at, IsSolved, IsStep, HasNoBound, no_heads, no_budget, no_zones, one_task, pairs_of, flows_or_large, Steps}
use Rattle.zone_pairs.specs.{AreZones}
use Rattle.listing_run.proofs.Unique.{IsRest, rest_whole, rest_more}
use Rattle.step_chain.proofs.Histories.{first_in}
use Rattle.step_or_refusal.proofs.Step.{ok_or_err}
use Rattle.listing_run.specs.declared.text.ListingEnd.TheVariants as ends

module _ (step : StepOrRefusal) (fits : HeadsFit) (problem_fits : ProblemFits) (limits : Limits) (m : FlowModel) (s : ℕ) (zones : Option (List ℕ)) (rounds : ℕ)
    (quick : Bool) (valid : IsModel m) (zoned : AreZones m zones) where
  abbrev task : Task
  task = one_task limits m s zones rounds quick

  -- a settled step is one of the task's kind
  solves : (at : TimeStep) (old : List Bound) (x : Solved) → IsBefore (one_deck m) at old → IsSettledStep limits (one_deck m) s at old x → IsSolved task at old x
  solves at old x before settled =
      let fits = problem_fits m s at old x.problem before.decks.first before.time before.heads settled.posed.problem in
      record {
        barrier = settled.barrier;
        posed = settled.posed;
        pair = settled_is (pairs_of task) x.problem (edges_by limits settled.barrier) x.bounds fits (edges_fit limits x.problem settled.barrier settled.posed.barrier) settled.pair;
        certificate = settled.certificate;
        heads = settled.heads;
      }

  -- a step of the listing from a solved one, or its refusal
  listed : (at : TimeStep) (old : List Bound) (x : Solved) → IsSolved task at old x → ((v : Step) × IsStep task at old v) ⊎ ((n : NoBound) × HasNoBound task at old n)
  listed at old x is =
      elim (ok_or_err (budget_at x)) [
        | inr (n, e) ↦ inr (n, no_budget x is e)
        | inl (b, e) ↦ elim (ok_or_err (flows_or_large x.problem x.heads zones)) [
          | inr (n, large) ↦ inr (n, no_zones x b is e large)
          | inl (vs, flows) ↦ inl (record { at = at; heads = x.heads; budget = b; zones = vs }, record { solved = x; solves = is; time = refl; heads = refl; budget = e; zones = flows })
        ]
      ]

  listing_from : (rest : List TimeStep) → IsRest (times m) rest → (old : List Bound) → AreGridHeads m old →
      ((values : List Step) × Steps task old rest values ends.Whole) ⊎ ((values : List Step) × (at : TimeStep) × (n : NoBound) × Steps task old rest values (ends.NoBound at n))
  listing_from [] among old heads = inl ([], tt)
  listing_from (at ∷ rest) among old heads =
      let before : IsBefore (one_deck m) at old = record { decks = record { first = valid; second = tt }; time = among.each at (first_in at rest); heads = heads } in
      elim (step limits m s at old before) [
        | inr (n, none) ↦ inr ([], at, n, (refl, no_heads none))
        | inl (x, settled) ↦ elim (listed at old x (solves at old x before settled)) [
          | inr (n, none) ↦ inr ([], at, n, (refl, none))
          | inl (v, is) ↦
              let next = subst (AreGridHeads m) (sym is.heads) (fits limits (one_deck m) s at old (pairs_of task) is.solved before is.solves) in
              elim (listing_from rest (rest_more (times m) at rest among) v.heads next) [
                | inl (values, steps) ↦ inl (v ∷ values, (is, steps))
                | inr (values, t, n, steps) ↦ inr (v ∷ values, t, n, (is, steps))
              ]
        ]
      ]

pub a_listing : StepOrRefusal → HeadsFit → ProblemFits → StartHeadsFit → ListingOrRefusal
a_listing step fits problem_fits start_fits limits m s zones rounds quick valid zoned =
    let start = each_cell m (start_bound m) in
    elim (listing_from step fits problem_fits limits m s zones rounds quick valid zoned (times m) (rest_whole (times m)) start (start_fits m start valid refl)) [
      | inl (values, steps) ↦ inl (values, record { start = start; is_start = refl; steps = steps })
      | inr (values, at, n, steps) ↦ inr (values, at, n, record { start = start; is_start = refl; steps = steps })
    ]
