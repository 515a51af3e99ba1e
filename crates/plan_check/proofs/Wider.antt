-- A step that holds is a plan's step, and its listed heads, differences and flows are at least as wide as the step's.
use Rattle.plan_check.proofs.Common.{All, List, Option, Some, None, ap, arith, inl, inr, length, refl, subst, sym, ℕ, ℤ, ◌+◌, ◌<◌, ◌∙◌, ◌≡◌, ◌≤ℤ◌, true, ext_get_or, get_or-map, length-map, AllZip}
use Rattle.plan_check.proofs.Common.{Bool, IfSome, false, if◌then◌else◌, EnclosesSigned, Fraction, Bound, Entries, certified, entries_at, lower_at, no_bound, no_entries, settled, upper_at, ExactCell}
use Rattle.plan_check.proofs.Common.{AllZip-at, AllZip-length, Covers, Limits, FlowModel, TimeStep, cell_count, index_of, is_variable, variable_cells, ZonePair, HeadsEnclose, IsActive, bound_at}
use Rattle.plan_check.proofs.Common.{Decks, AreDecks, IsProblemFor, Solved, LiesWithin, AreChecked, CoversFlow, IsConstantCell, id_is, variable_listed, IsDifferenceProblem, PlanHeads, PlanSolved}
use Rattle.plan_check.proofs.Common.{PlanTask, IsPlanStep, IsPlanTask, plan_pairs, base_is, differences_are, planned_is, PlanFlows, EncloseMore, ListedPlanStep, HeadsHold, as_budget, ZoneFlow}
use Rattle.std.proofs.{lemmas.Bool.cases_Bool, lemmas.Bool.true≢false, lemmas.Int.ints}
use Rattle.std.specs.Prelude.{get_or, map}
use Rattle.decimal_input.proofs.FloorLaws.{mul_mono_right}
use Rattle.step_problem.specs.{declared.heads.Side.TheVariants.Low, declared.heads.Side.TheVariants.High, declared.place.Dir.TheVariants.In}
use Rattle.cell_balance.proofs.Deep.{le_trans_z}
use Rattle.model_types.proofs.Ranks.{at_rank, is_at, passing}
use Rattle.flow_equations.proofs.Links.{below_is, index_is}
use Rattle.step_chain.proofs.Assembled.{active_constant, index_below}
use Rattle.check_run.proofs.Passing.{wider}
use Rattle.plan_enclosed.specs.{more_flow}
use Rattle.plan_sources.proofs.Steps.{deck_named}

-- the pairs of a quick task are certificates
pub pairs_are : (k : PlanTask) → k.quick ≡ true → certified ≡ plan_pairs k
pairs_are k quick = sym (ap (λ q. if q then certified else settled) quick)

-- a step that holds is a step of the task
pub holds_step : (k : PlanTask) → k.quick ≡ true → (at : TimeStep) (old : PlanHeads) (x : ListedPlanStep) (v : PlanSolved) → HeadsHold k at old x v → IsPlanStep k at old v
holds_step k quick at old x v h = record {
  base = base_is k at old certified old.base v.base (pairs_are k quick) refl h.base.step;
  planned = planned_is k at old certified old.planned v.planned (pairs_are k quick) refl h.planned.step;
  differences = differences_are k at old certified old.differences (cell_count k.base.first.grid) v.base v.planned v.differences (pairs_are k quick) refl refl
      h.differences.differences;
}

-- a bound is as wide as another one
abbrev pub IsWide : Bound → Bound → Type 0
IsWide listed b = (listed.low ≤ℤ b.low) × (b.high ≤ℤ listed.high)

same_is_wide : (a b : Bound) → b ≡ a → IsWide a b
same_is_wide a b e = subst (IsWide a) (sym e) (omega (arith, ints), omega (arith, ints))

-- Bounds that are as wide at each active cell hold what the narrower ones hold.
module _ (m : FlowModel) (listed heads : List Bound) (wide : (c : ℕ) → IsActive m c → IsWide (bound_at listed c) (bound_at heads c)) where
  pub wider_lies : (d : ℕ) (X : ℕ → ℤ) → LiesWithin m heads d X → LiesWithin m listed d X
  wider_lies d X h = record {
    low = λ c a. le_trans_z _ _ _ (mul_mono_right d (lower_at listed c) (lower_at heads c) (wide c a).0) (h.low c a);
    high = λ c a. le_trans_z _ _ _ (h.high c a) (mul_mono_right d (upper_at heads c) (upper_at listed c) (wide c a).1);
  }

-- the listed heads of one plan's decks are as wide as those of the step
pub heads_wide : (limits : Limits) (d : Decks) (s : ℕ) (at : TimeStep) (old listed : List Bound) (x : Solved) → AreChecked limits d s at old listed x →
    (c : ℕ) → IsActive d.first c → IsWide (bound_at listed c) (bound_at x.heads c)
heads_wide limits d s at old listed x h c a = elim (cases_Bool (is_variable d.first at.period c)) [
  | inl v ↦ same_is_wide (bound_at listed c) (bound_at x.heads c)
      (h.step.heads.variable c a.within v ∙ ap (λ (bs : List Bound). bound_at bs (index_of d.first at.period c)) h.listed ∙ variable_listed d at listed c v a.within)
  | inr v ↦ (let is = active_constant d.first at.period c a.active v in
      let cell : IsConstantCell d at c = record { within = a.within; constant = is } in
      let pair = h.step.heads.constant c a.within is in
      (h.constants c cell Low (bound_at x.heads c) pair, h.constants c cell High (bound_at x.heads c) pair))
]

-- bounds that are as wide enclose what the narrower ones enclose
pub encloses_wider : (m : FlowModel) (listed heads : List Bound) → ((c : ℕ) → IsActive m c → IsWide (bound_at listed c) (bound_at heads c)) → (f : ℕ → Fraction) →
    HeadsEnclose m heads f → HeadsEnclose m listed f
encloses_wider m listed heads wide f h c a =
    wider (lower_at heads c) (upper_at heads c) (lower_at listed c) (upper_at listed c) 9 (f c) (wide c a).0 (wide c a).1 (h c a)

-- The number of the cell of a variable cell's index is the cell's.
number_at : (m : FlowModel) (p c : ℕ) → is_variable m p c ≡ true → c < cell_count m.grid → get_or (variable_cells m p) (index_of m p c) 0 ≡ c
number_at m p c v lt =
    ap (λ cs. get_or cs (index_of m p c) 0) (below_is m p (cell_count m.grid))
    ∙ ap (λ i. get_or (passing (is_variable m p) (cell_count m.grid)) i 0) (index_is m p c)
    ∙ at_rank (is_variable m p) (cell_count m.grid) c v lt

-- The problem of the differences has the cells of the base plan's problem.
pub their_cells : (base planned p : List Entries) (xs ys olds : List Bound) → IsDifferenceProblem base planned xs ys olds p →
    map (λ (e : Entries). e.id) p ≡ map (λ (e : Entries). e.id) base
their_cells base planned p xs ys olds is =
    ext_get_or 0 (map (λ (e : Entries). e.id) p) (map (λ (e : Entries). e.id) base)
    (length-map p (λ (e : Entries). e.id) ∙ is.as_many ∙ sym (length-map base (λ (e : Entries). e.id)))
    (λ c lt.
    let here : c < length p = omega (arith, lt, length-map p (λ (e : Entries). e.id)) in
    let there : c < length base = omega (arith, here, is.as_many) in
    get_or-map (λ (e : Entries). e.id) p c no_entries 0 here ∙ ap (λ (e : Entries). e.id) (is.cells c there)
    ∙ sym (get_or-map (λ (e : Entries). e.id) base c no_entries 0 there))

pub deck_cells : (d : Decks) (s : ℕ) (at : TimeStep) (old : List Bound) (p : List Entries) → AreDecks d → IsProblemFor d s at old p →
    map (λ (e : Entries). e.id) p ≡ variable_cells d.first at.period
deck_cells d s at old p decks is = (deck_named s at old d.first d.second decks.first decks.second p is).cells

module _ (k : PlanTask) (task : IsPlanTask k) (at : TimeStep) (old : PlanHeads) (x : ListedPlanStep) (v : PlanSolved) (h : HeadsHold k at old x v) where
  abbrev p : List Entries
  p = v.differences.problem

  cells : map (λ (e : Entries). e.id) p ≡ variable_cells k.base.first at.period
  cells =
      their_cells v.base.problem v.planned.problem p v.base.bounds v.planned.bounds old.differences h.differences.differences.problem
      ∙ deck_cells k.base k.digits at old.base v.base.problem task.base h.base.step.posed.problem

  -- a variable cell is that of its index
  index_number : (c : ℕ) → is_variable k.base.first at.period c ≡ true → c < cell_count k.base.first.grid → (index_of k.base.first at.period c < length p)
      × ((entries_at p (index_of k.base.first at.period c)).id ≡ c)
  index_number c is lt =
      let i : ℕ = index_of k.base.first at.period c in
      let inside : i < length p = omega (arith, index_below k.base.first at.period c is lt, sym (length-map p (λ (e : Entries). e.id)) ∙ ap length cells) in
      (inside, id_is k.base at x.differences p cells i inside ∙ number_at k.base.first at.period c is lt)

  -- a cell of the problem is variable
  other_cell : (c : ℕ) → is_variable k.base.first at.period c ≡ false → (i : ℕ) → i < length p → c ≡ (entries_at p i).id → ⊥
  other_cell c is i lt same =
      let n : ℕ = cell_count k.base.first.grid in
      let variable : ℕ → Bool = is_variable k.base.first at.period in
      let all : variable_cells k.base.first at.period ≡ passing variable n = below_is k.base.first at.period n in
      let number : (entries_at p i).id ≡ get_or (passing variable n) i 0 = id_is k.base at x.differences p cells i lt ∙ ap (λ cs. get_or cs i 0) all in
      let place = is_at variable n i (omega (arith, lt, sym (length-map p (λ (e : Entries). e.id)) ∙ ap length (cells ∙ all))) in
      true≢false (sym place.passes ∙ ap variable (sym (same ∙ number)) ∙ is)

  -- the listed differences are as wide as those of the step
  pub differences_wide : (c : ℕ) → IsActive k.base.first c → IsWide (bound_at x.differences c) (bound_at v.differences.heads c)
  differences_wide c a = elim (cases_Bool (is_variable k.base.first at.period c)) [
    | inl is ↦ (let i : ℕ = index_of k.base.first at.period c in
        let (inside, number) = index_number c is a.within in
        let P : ℕ → Type 0 = λ j. bound_at v.differences.heads j ≡ bound_at v.differences.bounds i in
        same_is_wide (bound_at x.differences c) (bound_at v.differences.heads c)
        (subst P number (h.differences.differences.heads.variable i inside) ∙ ap (λ (bs : List Bound). bound_at bs i) h.differences.listed_bounds
        ∙ variable_listed k.base at x.differences c is a.within))
    | inr is ↦ (let cell : IsConstantCell k.base at c = record { within = a.within; constant = active_constant k.base.first at.period c a.active is } in
        let none : bound_at v.differences.heads c ≡ no_bound = h.differences.differences.heads.other c (other_cell c is) in
        subst (IsWide (bound_at x.differences c)) (sym none) (h.differences.constants c cell Low, h.differences.constants c cell High))
  ]

-- Listed flows that are as wide as others enclose what these enclose.
all_wider : (n : ℕ) (E : ℕ → ℕ → Fraction) (listed flows : List ZoneFlow) → AllZip CoversFlow listed flows → All (λ v. EnclosesSigned v.lo v.hi n (E v.from v.to)) flows →
    All (λ v. EnclosesSigned v.lo v.hi n (E v.from v.to)) listed
all_wider n E listed flows covers h i d lt =
    let here = AllZip-at CoversFlow listed flows i d d covers lt in
    let inside : i < length flows = omega (arith, lt, AllZip-length CoversFlow listed flows covers) in
    let v = get_or listed i d in
    let w = get_or flows i d in
    let F : ZonePair → Type 0 = λ z. EnclosesSigned w.lo w.hi n (E z.from z.to) in
    wider w.lo w.hi v.lo v.hi n (E v.from v.to) here.lower here.upper (subst F (sym here.zones) (h i d inside))

between_wider : (s : ℕ) (zones : Option (List ℕ)) (E : List ℕ → ℕ → ℕ → Fraction) (listed flows : List ZoneFlow) → AllZip CoversFlow listed flows →
    IfSome zones (λ zs. All (λ v. EnclosesSigned v.lo v.hi (s + 9) (E zs v.from v.to)) flows) →
    IfSome zones (λ zs. All (λ v. EnclosesSigned v.lo v.hi (s + 9) (E zs v.from v.to)) listed)
between_wider s None E listed flows covers h = tt
between_wider s (Some zs) E listed flows covers h = all_wider (s + 9) (E zs) listed flows covers h

pub more_wider : (s : ℕ) (zones : Option (List ℕ)) (e f : List ExactCell) (d : ℕ) (X Y : ℕ → ℤ) (listed flows : PlanFlows) →
    Covers (as_budget listed.sources) (as_budget flows.sources) → AllZip CoversFlow listed.zones flows.zones → EncloseMore s zones e f d X Y flows →
    EncloseMore s zones e f d X Y listed
more_wider s zones e f d X Y listed flows covers wide h = record {
  sources = λ t is. wider _ _ _ _ (s + 9) _ (covers In t).lower (covers In t).upper (h.sources t is);
  between = between_wider s zones (λ zs from to. more_flow zs e f d X Y from to) listed.zones flows.zones wide h.between;
}
