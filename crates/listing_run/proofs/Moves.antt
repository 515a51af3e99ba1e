-- A step of a listing, by the clauses of the calls that gave its parts.
use Rattle.listing_run.proofs.Common.{◌≡◌, ℕ, length, List, ◌∷◌, ℤ, Ok, Err, Result, subst, refl, ◌-◌, ◌<◌, inl, inr, All, arith, Option, Some, None, [], Fraction, EnclosesSigned, Bound, NoBound}
use Rattle.listing_run.proofs.Common.{ZoneFlow, RoundsSettleBoth, lower_at, upper_at, PairKind, entries_at, Budget, TimeStep, heads_of, variable_heads, step_from, Solved, EachChoice, EnclosesMoves}
use Rattle.listing_run.proofs.Common.{IsStepBy, edges_by, WideKeepsSteps, Task, Step, IsActive, HeadsEnclose, AreFlowsAt, IsStep, HasNoBound, no_heads, no_budget, no_zones, budget_at, BoundsMoves}
use Rattle.listing_run.proofs.Common.{HasLargeFlow, StopsAt, stop_of, pairs_of, IsSolved, FlowsEnclose, WideKeepsListings, deck_task, IfSome, Entries, FlowModel, cell_count, times, EnclosesStep}
use Rattle.listing_run.proofs.Common.{ExactCell, Limits, Plain, Wide, lies_encloses, IsCellNamed}
use Rattle.zone_flows.specs.{EncloseExact, HeadsLieWithin}
use Rattle.step_chain.specs.{FailsBy as StepFailsBy, declared.solved.StepFault.StepFault}
use Rattle.budget_bounds.specs.{EnclosesBudgets, HeadsAreWithin, budget_of}
use Rattle.std.specs.Prelude.{Contains, Bool}
use Rattle.std.proofs.lemmas.List.Elements.{All-contains_itself, All-weaker}
use Rattle.step_problem.specs.declared.entry.Fixed.{Fixed}
use Rattle.deck_problems.specs.declared.decks.Decks.{Decks}
use Rattle.listing_run.specs.{Steps}
use Rattle.step_chain.specs.declared.solved.StepFault.TheVariants as chain
use Rattle.listing_run.specs.declared.text.ListingEnd.TheVariants as ends

-- The flows between the zones of a task, by the clauses of their call.
-- What holds of all active cells holds of all that a problem names.
module _ (m : FlowModel) (p : List Entries) (named : (c : ℕ) → IsCellNamed p c → IsActive m c) where
  own : (P : ℕ → Type 0) → ((c : ℕ) → IsActive m c → P c) → (k : ℕ) → k < length p → P (entries_at p k).id
  own P each k lt = each (entries_at p k).id (named (entries_at p k).id (k, lt, inl refl))

  of_sources : (P : ℕ → Type 0) → ((c : ℕ) → IsActive m c → P c) → (k : ℕ) → k < length p → All (λ x. P x.source) (entries_at p k).fixed
  of_sources P each k lt = All-weaker (Contains (entries_at p k).fixed) (λ (x : Fixed). P x.source) (λ x i.
      each x.source (named x.source (k, lt, inr (x, i, refl)))) (entries_at p k).fixed (All-contains_itself (entries_at p k).fixed)

  pub ids_within : (count : ℕ) → count ≡ cell_count m.grid → (k : ℕ) → k < length p → (entries_at p k).id < count
  ids_within count same = own (λ c. c < count) (λ c a. let w = a.within in omega (arith, same, w))

  pub sources_within : (count : ℕ) → count ≡ cell_count m.grid → (k : ℕ) → k < length p → All (λ x. x.source < count) (entries_at p k).fixed
  sources_within count same = of_sources (λ c. c < count) (λ c a. let w = a.within in omega (arith, same, w))

  pub heads_named : (heads : List Bound) (h : ℕ → Fraction) → HeadsEnclose m heads h → HeadsLieWithin p (lower_at heads) (upper_at heads) h
  heads_named heads h encloses = record {
    variable = own (λ c. EnclosesSigned (lower_at heads c) (upper_at heads c) 9 (h c)) encloses;
    sources = of_sources (λ c. EnclosesSigned (lower_at heads c) (upper_at heads c) 9 (h c)) encloses;
  }

-- flows that enclose in a problem enclose the exact ones of an exact step that the problem encloses
pub flows_enclose : (o : Option (List ℕ)) (p : List Entries) (heads : List Bound) (flows : List ZoneFlow) → FlowsEnclose p heads o flows →
    (s : ℕ) (e : List ExactCell) (h : ℕ → Fraction) → EnclosesStep s p e → HeadsLieWithin p (lower_at heads) (upper_at heads) h → IfSome o (λ zones. EncloseExact s e zones h flows)
flows_enclose None p heads flows each s e h encloses within = tt
flows_enclose (Some zones) p heads flows each s e h encloses within = each s e h encloses within

-- the budget by bounds that a slice lent
budget_by : (x : Solved) (lent : List Bound) (r : Result Budget NoBound) → lent ≡ x.bounds → r ≡ budget_of x.problem (lower_at lent) (upper_at lent) → budget_at x ≡ r
budget_by x lent r same is = grind (arith)

module _ (k : Task) (at : TimeStep) where
  -- what the call of a step says of the heads that were lent to it, by the task's digits and of the old heads
  module _ (s : ℕ) (digits : s ≡ k.digits) (lent old : List Bound) (same : lent ≡ old) where
    by_task : (P : ℕ → List Bound → Type 0) → P s lent → P k.digits old
    by_task P h = subst (P k.digits) same (let Q : ℕ → Type 0 = λ n. P n lent in subst Q digits h)

    pub step_stops : (rounds : ℕ) (f : StepFault) → rounds ≡ k.rounds → StepFailsBy k.limits k.decks s at lent rounds f → (rest : List TimeStep) → StopsAt k old (at ∷ rest) (stop_of at f)
    step_stops rounds f is h rest = stops f (by_task (λ n o. StepFailsBy k.limits k.decks n at o rounds f) h)
      where
        stops : (f : StepFault) → StepFailsBy k.limits k.decks k.digits at old rounds f → StopsAt k old (at ∷ rest) (stop_of at f)
        stops (chain.NoBound n) h = (refl, no_heads h)
        stops (chain.Unfinished o) h =
            let P : ℕ → Type 0 = λ r. RoundsSettleBoth h.problem (edges_by k.limits h.barrier) r → ⊥ in
            (refl, record { problem = h.problem; barrier = h.barrier; posed = h.posed; open_rounds = subst P is h.unfinished.cause })
        stops chain.Memory h = tt

    pub solved_by : (kind : PairKind) → kind ≡ pairs_of k → (x : Solved) → IsStepBy k.limits k.decks s at lent kind x → IsSolved k at old x
    solved_by kind kinds x h = let Q : PairKind → Type 0 = λ pairs. IsStepBy k.limits k.decks k.digits at old pairs x in subst Q kinds (by_task (λ n o. IsStepBy k.limits k.decks n at o kind x) h)

    pub moves_by : (x : Solved) → EachChoice k.decks at (λ y. EnclosesMoves k.decks.first s at y lent x) → EachChoice k.decks at (λ y. EnclosesMoves k.decks.first k.digits at y old x)
    moves_by x h = by_task (λ n o. EachChoice k.decks at (λ y. EnclosesMoves k.decks.first n at y o x)) h

  -- The budget and the flows between zones of a solved step, where its bounds were lent.
  module _ (x : Solved) (lent : List Bound) (same : lent ≡ x.bounds) where
    pub budget_refused : (n : NoBound) → Err n ≡ budget_of x.problem (lower_at lent) (upper_at lent) → (old : List Bound) → IsSolved k at old x → HasNoBound k at old n
    budget_refused n is old solves = no_budget x solves (budget_by x lent (Err n) same is)

    module _ (b : Budget) (is : Ok b ≡ budget_of x.problem (lower_at lent) (upper_at lent)) where
      -- a refusal of the flows between zones comes after the budget
      pub flows_refused : (n : NoBound) → HasLargeFlow k.zones x n → (old : List Bound) → IsSolved k at old x → HasNoBound k at old n
      flows_refused n large old solves = no_zones x b solves (budget_by x lent (Ok b) same is) large

      pub step_is : (flows : List ZoneFlow) → AreFlowsAt k.zones x flows → (old : List Bound) → IsSolved k at old x → IsStep k at old (record { at = at; heads = x.heads; budget = b; zones = flows })
      step_is flows are old solves = record { solved = x; solves = solves; time = refl; heads = refl; budget = budget_by x lent (Ok b) same is; zones = are }

    pub bounds_moves : HeadsAreWithin → (b : Budget) (flows : List ZoneFlow) → EnclosesBudgets x.problem (lower_at lent) (upper_at lent) b →
        ((c : ℕ) → IsCellNamed x.problem c → IsActive k.decks.first c) → FlowsEnclose x.problem x.heads k.zones flows →
        (old : List Bound) → EachChoice k.decks at (λ y. EnclosesMoves k.decks.first k.digits at y old x) → BoundsMoves k at old (record { at = at; heads = x.heads; budget = b; zones = flows })
    bounds_moves within b flows budget named zones old encloses =
        let v : Step = record { at = at; heads = x.heads; budget = b; zones = flows } in
        let B : List Bound → Type 0 = λ v. EnclosesBudgets x.problem (lower_at v) (upper_at v) b in
        let terms : EnclosesBudgets x.problem (lower_at x.bounds) (upper_at x.bounds) b = subst B same budget in
        λ y chosen before d X move.
        let e = encloses y chosen before d X move in
        let step : List ExactCell = step_from before y.cells in
        let Y : ℕ → ℤ = variable_heads step X in
        record {
          heads = e.heads;
          budget = terms k.digits step (heads_of d Y) e.step (within (length x.problem) d Y (lower_at x.bounds) (upper_at x.bounds) move.some e.variables);
          zones = flows_enclose k.zones x.problem x.heads flows zones k.digits step (heads_of d X) e.step
              (heads_named k.decks.first x.problem named x.heads (heads_of d X) (lies_encloses k.decks.first x.heads d X move.some e.heads));
        }

-- What is listed with plain limits is listed with wide ones: step by step.
module _ (keeps : WideKeepsSteps) (d : Decks) (s : ℕ) (zones : Option (List ℕ)) (rounds : ℕ) (quick : Bool) where
  abbrev task : Limits → Task
  task limits = deck_task limits d s zones rounds quick

  wide_step : (at : TimeStep) (old : List Bound) (v : Step) → IsStep (task Plain) at old v → IsStep (task Wide) at old v
  wide_step at old v is = record {
    solved = is.solved;
    solves = keeps d s at old (pairs_of (task Plain)) is.solved is.solves;
    time = is.time;
    heads = is.heads;
    budget = is.budget;
    zones = is.zones;
  }

  wide_steps : (old : List Bound) (ats : List TimeStep) (values : List Step) → Steps (task Plain) old ats values ends.Whole → Steps (task Wide) old ats values ends.Whole
  wide_steps old [] [] h = tt
  wide_steps old [] (v ∷ values) h = absurd h
  wide_steps old (at ∷ ats) [] h = absurd h
  wide_steps old (at ∷ ats) (v ∷ values) (is, h) = (wide_step at old v is, wide_steps v.heads ats values h)

pub wide_listings : WideKeepsSteps → WideKeepsListings
wide_listings keeps d s zones rounds quick values h = record {
  start = h.start;
  is_start = h.is_start;
  steps = wide_steps keeps d s zones rounds quick h.start (times d.first) values h.steps;
}
