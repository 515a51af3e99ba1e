-- A step of a plan meets the conditions of its flows.
use Rattle.plan_sources.proofs.Common.{AreGridHeads, Bound, Contains, FlowModel, HasCellsOf, IfSome, IsActive, IsCellNamed, IsDifferenceProblem, IsHead, IsModel, IsPlanStep, IsPlanTask, IsProblemBy}
use Rattle.plan_sources.proofs.Common.{IsProblemOf, IsSecond, List, None, Option, PlanHeads, PlanSolved, PlanStepsHaveFlows, PlanTask, Some, TimeStep, All-map, ap, arith, bound_at, difference_cell}
use Rattle.plan_sources.proofs.Common.{drain_branch, edges_by, entries_at, evap_branch, hull_parts, inl, inr, ints, known_branch, length, length-append, length-map, map, plan_pairs, refl, rise}
use Rattle.plan_sources.proofs.Common.{river_branch, subst, sym, ℕ, ◌++◌, ◌+◌, ◌<◌, ◌∙◌, ◌≡◌, ◌⊎◌, neg_ℤ, model_branches}
use Rattle.plan_gains.specs.{HasBranchesOf}
use Rattle.model_types.proofs.Members.{Contains-In, In, map-In}
use Rattle.step_problem.specs.{Entries.Entries, declared.entry.Fixed.Fixed}
use Rattle.problem_builder.proofs.{Members.In-Contains, Members.In-append, Members.named_active, Steps.cells_of, CellEnclosed.ids_are, CellFits.model_has_branches}
use Rattle.deck_problems.proofs.HullFor.{hull_cells}
use Rattle.step_chain.proofs.OneStep.{pair_words}

-- heads that are turned round are heads
turned_head : (b : Bound) → (IsHead b.low × IsHead b.high) → IsHead (neg_ℤ b.high) × IsHead (neg_ℤ b.low)
turned_head b h = (
  record { above = omega (arith, ints, h.1.below); below = omega (arith, ints, h.1.above) },
  record { above = omega (arith, ints, h.0.below); below = omega (arith, ints, h.0.above) },
)

pub rises_fit : (m : FlowModel) (differences heads : List Bound) → heads ≡ map rise differences → AreGridHeads m differences → AreGridHeads m heads
rises_fit m differences heads is fit =
    subst (AreGridHeads m) (sym is) (record {
      whole = length-map differences rise ∙ fit.whole;
      range = All-map (λ b. IsHead b.low × IsHead b.high) rise differences (λ i d lt. turned_head _ (fit.range i d lt));
    })

-- The problem of a step names active cells.
module _ (s : ℕ) (at : TimeStep) (old : List Bound) where
  one_named : (m : FlowModel) → IsModel m → (p : List Entries) → IsProblemOf m s at old p → HasCellsOf m at p
  one_named m valid p e =
      let cells = cells_of m s at old p e in
      record { cells = ids_are m s at old p cells; named = named_active m s at old (model_branches m s at) (model_has_branches m s at valid) valid.grid.size p cells.each }

  pub deck_named : (a : FlowModel) (o : Option FlowModel) → IsModel a → IfSome o (IsSecond a) → (p : List Entries) → IsProblemBy a o s at old p → HasCellsOf a at p
  deck_named a None valid second p e = one_named a valid p e
  deck_named a (Some b) valid second p e =
      let parts = hull_parts a b s at old p valid second.alike e in
      hull_cells a at parts.first parts.second p parts.hull (one_named a valid parts.first parts.is_first)

-- The problem p of differences names the cells that the base plan's problem names.
module _ (base planned p : List Entries) (xs ys olds : List Bound) (is : IsDifferenceProblem base planned xs ys olds p) where
  abbrev cell : ℕ → Entries
  cell k = difference_cell (bound_at xs k) (bound_at ys k) (bound_at olds (entries_at base k).id) (entries_at base k) (entries_at planned k)

  count : (b : Entries) (x y o : Bound) (q : Entries) → length (difference_cell x y o b q).fixed ≡ length b.fixed + length b.rivers + length b.drains + length b.evaps
  count b x y o q = simp (length-append, length-map) (omega arith)

  pub has_branches : HasBranchesOf base p
  has_branches = record {
    as_many = is.as_many;
    branches = λ k lt. ap (λ (e : Entries). length e.fixed) (is.cells k lt)
        ∙ count (entries_at base k) (bound_at xs k) (bound_at ys k) (bound_at olds (entries_at base k).id) (entries_at planned k);
  }

  abbrev Sources : ℕ → ℕ → Type 0
  Sources k c = (c ≡ (entries_at base k).id) ⊎ ((y : Fixed) × Contains (entries_at base k).fixed y × (c ≡ y.source))

  own : {E : Type 0} (k : ℕ) (f : E → Fixed) (es : List E) → ((e : E) → (f e).source ≡ (entries_at base k).id) → (x : Fixed) (c : ℕ) → c ≡ x.source → In (map f es) x → Sources k c
  own k f es own_id x c e i = let (y, j, q) = map-In f es x i in inl (e ∙ ap (λ (z : Fixed). z.source) (sym q) ∙ own_id y)

  source : (k : ℕ) (x : Fixed) (c : ℕ) → c ≡ x.source → In (cell k).fixed x → Sources k c
  source k x c e i =
      let b = entries_at base k in
      let known = map (known_branch (bound_at olds b.id)) b.fixed in
      let rivers = map (river_branch b.id (bound_at xs k) (bound_at ys k)) b.rivers in
      let drains = map (drain_branch b.id (bound_at xs k) (bound_at ys k)) b.drains in
      let evaps = map (evap_branch b.id (bound_at xs k) (bound_at ys k)) b.evaps in
      elim (In-append known (rivers ++ (drains ++ evaps)) x i) [
        | inl j ↦ (let (y, l, q) = map-In (known_branch (bound_at olds b.id)) b.fixed x j in
            inr (y, Contains-In b.fixed y l, e ∙ ap (λ (z : Fixed). z.source) (sym q)))
        | inr j ↦ (elim (In-append rivers (drains ++ evaps) x j) [
          | inl r ↦ own k (river_branch b.id (bound_at xs k) (bound_at ys k)) b.rivers (λ y. refl) x c e r
          | inr r ↦ (elim (In-append drains evaps x r) [
            | inl d ↦ own k (drain_branch b.id (bound_at xs k) (bound_at ys k)) b.drains (λ y. refl) x c e d
            | inr v ↦ own k (evap_branch b.id (bound_at xs k) (bound_at ys k)) b.evaps (λ y. refl) x c e v
          ])
        ])
      ]

  pub names : (c : ℕ) → IsCellNamed p c → IsCellNamed base c
  names c (k, lt, by) =
      let inside : k < length base = omega (arith, lt, is.as_many) in
      let same = is.cells k inside in (
        k,
        inside,
        elim by [
          | inl e ↦ inl (e ∙ ap (λ (z : Entries). z.id) same)
          | inr f ↦ (let (x, has, e) = f in source k x c e (subst (λ (z : Entries). In z.fixed x) same (In-Contains (entries_at p k).fixed x has)))
        ],
      )

-- a step of a plan names active cells
pub named_cells : (k : PlanTask) (at : TimeStep) (old : PlanHeads) (v : PlanSolved) → IsPlanTask k → IsPlanStep k at old v → (c : ℕ) →
    IsCellNamed v.differences.problem c → IsActive k.base.first c
named_cells k at old v task step c n =
    (deck_named k.digits at old.base k.base.first k.base.second task.base.first task.base.second v.base.problem step.base.posed.problem).named c
    (names v.base.problem v.planned.problem v.differences.problem v.base.bounds v.planned.bounds old.differences step.differences.problem c n)

pub steps_have_flows : PlanStepsHaveFlows
steps_have_flows k at old v task time fit step heads = record {
  words = pair_words (plan_pairs k) v.differences.problem (edges_by k.limits step.differences.barrier) v.differences.bounds step.differences.pair;
  branches = has_branches v.base.problem v.planned.problem v.differences.problem v.base.bounds v.planned.bounds old.differences step.differences.problem;
  heads = heads.differences;
  named = named_cells k at old v task step;
}
