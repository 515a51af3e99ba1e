-- The steps of a run pass the check.
use Rattle.check_run.proofs.Common.{Limits, ◌≡◌, ℕ, ◌<◌, inl, List, [], ◌∷◌, length, map, get_or, Ok, refl, sym, ap, ◌∙◌, subst, arith, Option, Bool, Some, None, AllZip, ints, get_or-map, length-map}
use Rattle.check_run.proofs.Common.{Bound, Side, Low, High, ZoneFlow, Entries, no_bound, lower_at, upper_at, IsCertificate, IsProblem, PairKind, Budget, budget_of, TimeStep, cell_count, is_variable}
use Rattle.check_run.proofs.Common.{variable_cells, times, IsAt, is_at, below_is, index_is, AreGridHeads, Solved, bound_at, HeadsFit, IsStepBy, edges_by, Task, Step, Whole, IsStep, budget_at}
use Rattle.check_run.proofs.Common.{deck_task, pairs_of, Steps, IsRest, first_in, rest_more, rest_whole, Certified, CoversFlow, ConstantsReach, ReachesOn, variable_bounds, RunIsCertified, as_listed}
use Rattle.check_run.proofs.Common.{Passes, Checks, same_bounds, pair_words, ConstantPairIsOne, IsBefore, ProblemFits, StartHeadsFit, AreDecks, IsProblemBy, Decks, FlowModel, cells_of, IsSecond}
use Rattle.check_run.proofs.Common.{hull_parts, IsModel, IfSome, AreFlowsAt}
use Rattle.check_run.proofs.RunText.{count_is}
use Rattle.problem_builder.proofs.CellEnclosed.{ids_are}
use Rattle.problem_hull.proofs.Hulls.{hull_keeps}

-- The cells of the problem of decks are the variable cells of the first.
pub decks_ids : (a : FlowModel) (o : Option FlowModel) (s : ℕ) (at : TimeStep) (old : List Bound) (p : List Entries) → IsModel a → IfSome o (IsSecond a) →
    IsProblemBy a o s at old p → map (λ (e : Entries). e.id) p ≡ variable_cells a at.period
decks_ids a None s at old p valid second is = ids_are a s at old p (cells_of a s at old p is)
decks_ids a (Some b) s at old p valid second is =
    let k = hull_parts a b s at old p valid second.alike is in
    hull_keeps k.first k.second p k.hull (λ e. e.id) (λ x y. refl) ∙ ids_are a s at old k.first (cells_of a s at old k.first k.is_first)

reaches : (side : Side) (listed pair : Bound) → (listed.low ≡ pair.low) × (listed.high ≡ pair.high) → ReachesOn side listed pair
reaches Low listed pair same = omega (arith, ints, same.0)
reaches High listed pair same = omega (arith, ints, same.1)

-- flows are as wide as themselves
wide_enough : (vs : List ZoneFlow) → AllZip CoversFlow vs vs
wide_enough [] = tt
wide_enough (v ∷ vs) = (record { zones = refl; lower = omega (arith, ints); upper = omega (arith, ints) }, wide_enough vs)

-- the laws by which they pass
pub record Laws : Type 0 where
  pub start_fits : StartHeadsFit
  pub problem_fits : ProblemFits
  pub pair_one : ConstantPairIsOne
  pub heads_fit : HeadsFit

module _ (limits : Limits) (ds : Decks) (s : ℕ) (at : TimeStep) (old : List Bound) (kind : PairKind) (x : Solved) (fits : IsProblem x.problem)
    (ids : map (λ (e : Entries). e.id) x.problem ≡ variable_cells ds.first at.period) (solves : IsStepBy limits ds s at old kind x) where
  abbrev cells : List ℕ
  cells = variable_cells ds.first at.period

  place : (k : ℕ) → k < length cells → IsAt (is_variable ds.first at.period) (cell_count ds.first.grid) k (get_or cells k 0)
  place k lt =
      let all = below_is ds.first at.period (cell_count ds.first.grid) in
      let P : List ℕ → Type 0 = λ cs. IsAt (is_variable ds.first at.period) (cell_count ds.first.grid) k (get_or cs k 0) in
      subst P (sym all) (is_at (is_variable ds.first at.period) (cell_count ds.first.grid) k (omega (arith, lt, ap length all)))

  -- the heads of the variable cells are those of the step's pair
  listed_at : (k : ℕ) → k < length (variable_bounds ds at x.heads) → bound_at (variable_bounds ds at x.heads) k ≡ bound_at x.bounds k
  listed_at k lt =
      let inside : k < length cells = omega (arith, lt, length-map cells (bound_at x.heads)) in
      let c = place k inside in
      get_or-map (bound_at x.heads) cells k 0 no_bound inside
      ∙ solves.heads.variable (get_or cells k 0) c.within c.passes
      ∙ ap (bound_at x.bounds) (index_is ds.first at.period (get_or cells k 0) ∙ c.index)

  listed_are : variable_bounds ds at x.heads ≡ x.bounds
  listed_are = same_bounds (variable_bounds ds at x.heads) x.bounds (length-map cells (bound_at x.heads) ∙ sym (count_is ds at x.heads x.problem ids) ∙ sym
      (pair_words kind x.problem (edges_by limits solves.barrier) x.bounds solves.pair).whole) listed_at

  module _ (laws : Laws) (before : IsBefore ds at old) where
    constants : ConstantsReach ds at x.heads
    constants c cell side pair is =
        reaches side (bound_at x.heads c) pair
        (laws.pair_one ds at c (lower_at x.heads c) (upper_at x.heads c) pair.low pair.high
        (record { decks = before.decks; time = before.time; within = cell.within; constant = cell.constant })
        (solves.heads.constant c cell.within cell.constant) is)

    passes : (zones : Option (List ℕ)) (b : Budget) (flows : List ZoneFlow) → budget_at x ≡ Ok b → AreFlowsAt zones x flows →
        Passes limits ds s zones at old (record { heads = x.heads; budget = b; zones = flows })
    passes zones b flows is are =
        let C : List Bound → Type 0 = λ v. IsCertificate x.problem solves.barrier (lower_at v) (upper_at v) in
        let B : List Bound → Type 0 = λ v. budget_of x.problem (lower_at v) (upper_at v) ≡ Ok b in
        record {
          problem = x.problem;
          barrier = solves.barrier;
          terms = record {
            heads = record { posed = solves.posed; constants = constants; certificate = subst C (sym listed_are) solves.certificate };
            budget = b;
            is = subst B (sym listed_are) is;
            covers = λ dir t. record { lower = omega (arith, ints); upper = omega (arith, ints) };
          };
          flows = flows;
          are = are;
          wide = wide_enough flows;
        }

module _ (laws : Laws) (limits : Limits) (ds : Decks) (s : ℕ) (zones : Option (List ℕ)) (rounds : ℕ) (quick : Bool) (valid : AreDecks ds) where
  abbrev task : Task
  task = deck_task limits ds s zones rounds quick

  module _ (at : TimeStep) (old : List Bound) (before : IsBefore ds at old) (v : Step) (is : IsStep task at old v) where
    step_passes : Passes limits ds s zones at old (as_listed v)
    step_passes =
        let P : List Bound → Type 0 = λ hs. Passes limits ds s zones at old (record { heads = hs; budget = v.budget; zones = v.zones }) in
        subst P (sym is.heads) (passes limits ds s at old (pairs_of task) is.solved
        (laws.problem_fits ds s at old is.solved.problem before is.solves.posed.problem)
        (decks_ids ds.first ds.second s at old is.solved.problem before.decks.first before.decks.second is.solves.posed.problem) is.solves laws before zones
        v.budget v.zones is.budget is.zones)

    next_heads : AreGridHeads ds.first v.heads
    next_heads = subst (AreGridHeads ds.first) (sym is.heads) (laws.heads_fit limits ds s at old (pairs_of task) is.solved before is.solves)

  all_pass : (old : List Bound) (rest : List TimeStep) (values : List Step) → IsRest (times ds.first) rest → AreGridHeads ds.first old →
      Steps task old rest values Whole → Checks limits ds s zones old rest (map as_listed values) Certified
  all_pass old [] [] r heads h = tt
  all_pass old [] (v ∷ values) r heads h = absurd h
  all_pass old (at ∷ rest) [] r heads h = absurd h
  all_pass old (at ∷ rest) (v ∷ values) r heads (is, h) =
      let before : IsBefore ds at old = record { decks = valid; time = r.each at (first_in at rest); heads = heads } in
      inl (step_passes at old before v is, all_pass v.heads rest values (rest_more (times ds.first) at rest r) (next_heads at old before v is) h)

pub run_certified : Laws → RunIsCertified
run_certified laws limits ds s zones rounds quick values valid zoned h = record {
  start = h.start;
  is_start = h.is_start;
  checks = all_pass laws limits ds s zones rounds quick valid h.start (times ds.first) values (rest_whole (times ds.first)) (laws.start_fits ds h.start valid h.is_start) h.steps;
}
