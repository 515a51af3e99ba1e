-- The steps of a run are steps that a listing can have.
use Rattle.check_run.proofs.Common.{cell_hull, cell_shape, evap_hull, zip_with, Limits, ◌≡◌, ℕ, zero, suc, ◌+◌, ◌<◌, false, List, [], ◌∷◌, length, map, All, Ok, refl, sym, ap, subst, arith, ℤ, pos}
use Rattle.check_run.proofs.Common.{negsuc, ◌+ℤ◌, ◌≤ℤ◌, ◌<ℤ◌, unsigned_abs, nat_abs, ◌^◌, ◌≤◌, Option, Some, None, AllZip, ints, All-weaker, Bound, Out, ZoneFlow, Entries, no_bound, lower_at}
use Rattle.check_run.proofs.Common.{upper_at, Budget, TermPair, term_limit, Face, flows_between, pairs_in, AreNumbers, FlowModel, TimeStep, evap_sources, times, AreGridHeads, Solved, bound_at}
use Rattle.check_run.proofs.Common.{HeadsFit, AreCellBounds, AreFlows, AreListed, IsCellBound, IsFlowPair, IsListedAt, IsListedStep, has_evt, zone_pair, Task, Step, Whole, AllSteps, IsStep, Steps}
use Rattle.check_run.proofs.Common.{budget_at, AreFlowsOf, faces_of, IsRest, first_in, rest_more, rest_whole, as_listed, nat_tests, is_nonzero, IsProblemBy, IsBefore, StartHeadsFit, deck_task, Decks}
use Rattle.check_run.proofs.Common.{AreDecks, PairKind, IsStepBy, pairs_of, Bool, In, no_entries, variable_cells, AllZip-at, IsProblemOf, total, is_chosen, IsZoneFlow, flows_of_pairs, same_flows}
use Rattle.check_run.proofs.Common.{zip_image, cells_of, whole_cell, whole_evap, IsModel, IfSome, IsSecond, hull_parts}
use Rattle.check_run.proofs.{Branches.hull_zip, FlowPairs.flows_have_pairs, RunTerms.budget_are, RunTerms.terms_are_listed}
use Rattle.step_problem.specs.declared.entry.Evap.{Evap}

-- Without EVT no cell evaporates.

zero_of : (z : ℤ) → is_nonzero z ≡ false → z ≡ pos 0
zero_of (pos zero) e = refl
zero_of (pos (suc n)) e = grind (arith, nat_tests)
zero_of (negsuc n) e = grind (arith, nat_tests)

not_chosen : (m : FlowModel) (option : ℤ) (layers : List ℤ) (c : ℕ) → option ≡ pos 0 → is_chosen m option layers c ≡ false
not_chosen m option layers c e = ap (λ z. is_chosen m z layers c) e

no_source : (m : FlowModel) (p c : ℕ) → has_evt m ≡ false → evap_sources m p c ≡ []
no_source m p c e = grind (arith, not_chosen, zero_of)

-- a cell without evaporation, whatever its number
abbrev NoEvaps : Entries → ℕ → Type 0
NoEvaps e c = e.evaps ≡ []

no_evaps : (m : FlowModel) (s : ℕ) (at : TimeStep) (old : List Bound) (p : List Entries) → has_evt m ≡ false → IsProblemOf m s at old p → AllZip NoEvaps p (variable_cells m at.period)
no_evaps m s at old p evt is =
    subst (λ (es : List Entries). AllZip NoEvaps es (variable_cells m at.period)) (sym (cells_of m s at old p is).each)
    (zip_image NoEvaps (whole_cell m s at old) (variable_cells m at.period) (λ c i. ap (map (whole_evap m s c)) (no_source m at.period c evt)))

decks_no_evaps : (a : FlowModel) (o : Option FlowModel) (s : ℕ) (at : TimeStep) (old : List Bound) → has_evt a ≡ false → (p : List Entries) → IsModel a →
    IfSome o (IsSecond a) → IsProblemBy a o s at old p → AllZip NoEvaps p (variable_cells a at.period)
decks_no_evaps a None s at old e p valid second is = no_evaps a s at old p e is
decks_no_evaps a (Some b) s at old e p valid second is =
    let k = hull_parts a b s at old p valid second.alike is in
    subst (λ (es : List Entries). AllZip NoEvaps es (variable_cells a at.period)) (sym k.hull.is)
    (hull_zip cell_shape cell_hull NoEvaps (λ x y c same none. ap (λ (xs : List Evap). zip_with evap_hull xs y.evaps) none) k.first k.second
    (variable_cells a at.period) k.hull.alike (no_evaps a s at old k.first e k.is_first))

-- Heads in range are those of a listing.

cell_bounds : (m : FlowModel) (c : ℕ) (bs : List Bound) → ((k : ℕ) → k < length bs → IsCellBound m (c + k) (bound_at bs k)) → AreCellBounds m c bs
cell_bounds m c [] h = tt
cell_bounds m c (b ∷ bs) h =
    let P : ℕ → Type 0 = λ i. IsCellBound m i b in
    let here : c + 0 ≡ c = omega arith in (
      subst P here (h 0 (omega arith)),
      cell_bounds m (c + 1) bs (λ k lt.
          let Q : ℕ → Type 0 = λ i. IsCellBound m i (bound_at bs k) in
          let next : c + suc k ≡ (c + 1) + k = omega arith in
          subst Q next (h (suc k) (omega (arith, lt)))),
    )

module _ (limits : Limits) (ds : Decks) (s : ℕ) (at : TimeStep) (old : List Bound) (kind : PairKind) (x : Solved) (decks : AreDecks ds)
    (solves : IsStepBy limits ds s at old kind x) (grid : AreGridHeads ds.first x.heads) where
  cell_bound : (c : ℕ) → c < length x.heads → IsCellBound ds.first (0 + c) (bound_at x.heads c)
  cell_bound c lt =
      let range = grid.range c no_bound lt in
      let P : ℕ → Type 0 = λ i. IsCellBound ds.first i (bound_at x.heads c) in
      let same : c ≡ 0 + c = omega arith in
      subst P same (record { low = range.0; high = range.1; none = λ e. solves.heads.no_flow c (omega (arith, lt, grid.whole)) e })

  is_listed : (b : Budget) (flows : List ZoneFlow) → budget_at x ≡ Ok b → IsListedStep ds.first (record { heads = x.heads; budget = b; zones = flows })
  is_listed b flows is =
      let (into, out) = budget_are x.problem (lower_at x.bounds) (upper_at x.bounds) b is in
      let none = λ (e : has_evt ds.first ≡ false) (k : ℕ) (lt : k < length x.problem).
      AllZip-at NoEvaps x.problem (variable_cells ds.first at.period) k no_entries 0 (decks_no_evaps ds.first ds.second s at old e x.problem decks.first decks.second solves.posed.problem) lt in
      record {
        whole = grid.whole;
        heads = cell_bounds ds.first 0 x.heads cell_bound;
        into = terms_are_listed x.problem (lower_at x.bounds) (upper_at x.bounds) (has_evt ds.first) none In b.into into;
        out = terms_are_listed x.problem (lower_at x.bounds) (upper_at x.bounds) (has_evt ds.first) none Out b.out out;
      }

-- The flows between zones are below 2^126.

above : (z : ℤ) → z ≤ℤ pos (unsigned_abs z)
above (pos n) = omega (arith, ints)
above (negsuc n) = omega (arith, ints)

below : (z : ℤ) → pos 0 ≤ℤ (z +ℤ pos (unsigned_abs z))
below (pos n) = omega (arith, ints)
below (negsuc n) = omega (arith, ints)

module _ (f : TermPair → ℤ) where
  abbrev sizes : List TermPair → ℤ
  sizes xs = total (λ x. pos (unsigned_abs (f x))) xs

  sum_above : (xs : List TermPair) → total f xs ≤ℤ sizes xs
  sum_above [] = omega (arith, ints)
  sum_above (x ∷ xs) = let a = above (f x) in let b = sum_above xs in omega (arith, ints, a, b)

  sum_below : (xs : List TermPair) → pos 0 ≤ℤ (total f xs +ℤ sizes xs)
  sum_below [] = omega (arith, ints)
  sum_below (x ∷ xs) = let a = below (f x) in let b = sum_below xs in omega (arith, ints, a, b)

between : (z y : ℤ) → z ≤ℤ y → pos 0 ≤ℤ (z +ℤ y) → y <ℤ term_limit → nat_abs z < 2 ^ 126
between (pos n) y a b c = omega (arith, ints, a, c)
between (negsuc n) y a b c = omega (arith, ints, b, c)

small_sum : (f : TermPair → ℤ) (xs : List TermPair) (z : ℤ) → z ≡ total f xs → sizes f xs <ℤ term_limit → nat_abs z < 2 ^ 126
small_sum f xs z e h =
    let N : ℤ → Type 0 = λ y. nat_abs y < 2 ^ 126 in
    subst N (sym e) (between (total f xs) (sizes f xs) (sum_above f xs) (sum_below f xs) h)

module _ (fs : List Face) where
  small_flow : (v : ZoneFlow) → IsZoneFlow fs v → IsFlowPair (zone_pair v)
  small_flow v h = record {
    lo = small_sum (λ (x : TermPair). x.lo) (flows_between v.from v.to fs) v.lo h.lo h.small_lo;
    hi = small_sum (λ (x : TermPair). x.hi) (flows_between v.from v.to fs) v.hi h.hi h.small_hi;
  }

flows_small : (p : List Entries) (heads : List Bound) (o : Option (List ℕ)) (vs : List ZoneFlow) → AreFlowsOf p heads o vs → All (λ v. IsFlowPair (zone_pair v)) vs
flows_small p heads None vs are = let P : List ZoneFlow → Type 0 = All (λ v. IsFlowPair (zone_pair v)) in subst P (same_flows p heads None [] vs refl are) (λ i d lt. absurd (omega (arith, lt)))
flows_small p heads (Some zones) vs are = All-weaker (IsZoneFlow (faces_of p heads zones)) (λ (v : ZoneFlow). IsFlowPair (zone_pair v))
    (small_flow (faces_of p heads zones)) vs (flows_of_pairs (faces_of p heads zones) vs are).0

-- All steps of a run.

module _ (fits : HeadsFit) (limits : Limits) (ds : Decks) (s : ℕ) (zones : Option (List ℕ)) (rounds : ℕ) (quick : Bool) (valid : AreDecks ds) (zoned : AreNumbers zones) where
  abbrev task : Task
  task = deck_task limits ds s zones rounds quick

  module _ (at : TimeStep) (old : List Bound) (before : IsBefore ds at old) (v : Step) (is : IsStep task at old v) where
    solved_heads : AreGridHeads ds.first is.solved.heads
    solved_heads = fits limits ds s at old (pairs_of task) is.solved before is.solves

    step_listed : IsListedStep ds.first (as_listed v)
    step_listed =
        let P : List Bound → Type 0 = λ hs. IsListedStep ds.first (record { heads = hs; budget = v.budget; zones = v.zones }) in
        subst P (sym is.heads) (is_listed limits ds s at old (pairs_of task) is.solved valid is.solves solved_heads v.budget v.zones is.budget)

    step_flows : AreFlows (pairs_in ds.first zones at.period) v.zones
    step_flows = record {
      pairs = flows_have_pairs ds s at old is.solved.problem valid is.solves.posed.problem is.solved.heads zones v.zones is.zones;
      small = flows_small is.solved.problem is.solved.heads zones v.zones is.zones;
    }

    next_heads : AreGridHeads ds.first v.heads
    next_heads = subst (AreGridHeads ds.first) (sym is.heads) solved_heads

  all_listed : (old : List Bound) (rest : List TimeStep) (values : List Step) → IsRest (times ds.first) rest → AreGridHeads ds.first old →
      Steps task old rest values Whole → AllZip (IsListedAt ds.first (pairs_in ds.first zones)) rest (map as_listed values)
  all_listed old [] [] r heads h = tt
  all_listed old [] (v ∷ values) r heads h = absurd h
  all_listed old (at ∷ rest) [] r heads h = absurd h
  all_listed old (at ∷ rest) (v ∷ values) r heads (is, h) =
      let before : IsBefore ds at old = record { decks = valid; time = r.each at (first_in at rest); heads = heads } in
      ((step_listed at old before v is, step_flows at old before v is), all_listed v.heads rest values (rest_more (times ds.first) at rest r) (next_heads at old before v is) h)

  pub are_listed : StartHeadsFit → (values : List Step) → AllSteps task values Whole → AreListed ds.first (pairs_in ds.first zones) (map as_listed values)
  are_listed start_fits values h = record {
    steps = all_listed h.start (times ds.first) values (rest_whole (times ds.first)) (start_fits ds h.start valid h.is_start) h.steps;
  }
