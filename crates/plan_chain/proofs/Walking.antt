-- Every pair of histories lies within the steps of a whole listing, by induction on the time steps; and there are such.
use Rattle.plan_chain.proofs.Common.{All, Contains, List, [], ◌∷◌, ap, arith, inl, inr, length, map, pos, replicate, subst, sym, suc, zero, ℕ, ℤ, ◌*ℤ◌, ◌*◌, ◌-ℤ◌, ◌<◌, ◌^◌, ◌∙◌, ◌≡◌, ◌≤ℤ◌}
use Rattle.plan_chain.proofs.Common.{PlannedLieBetween, cases_order, get_or_default, minus, share, EnclosesSigned, Fraction, heads_of, start_head, times, FlowModel, TimeStep, AreGridHeads}
use Rattle.plan_chain.proofs.Common.{HeadsEnclose, HeadsFit, LiesWithin, Solved, IsHead, ints, entries_at, lower_at, no_bound, upper_at, Entries, Bound, edges_by, bound_at, AreByCell, ArePlanHeads}
use Rattle.plan_chain.proofs.Common.{AreStartsOf, BothHaveOne, BoundsPair, BoundsPairs, IsBeforeStep, IsPlanStep, IsPlanTask, PairsLieWithin, PlanStepEncloses, PlanSteps, heads_in, plan_pairs}
use Rattle.plan_chain.proofs.Common.{with_plan, PlanHeads, PlanSolved, PlanTask, cell_count, Decks, length-replicate, ◌⊎◌, encloses_member, StartHeadsEnclose, StartHeadsFit, pair_words, AreSteps}
use Rattle.plan_chain.proofs.Common.{times_same, nothing_apart, SolvesPairsFrom}
use Rattle.cell_relax.specs.{AreWords}
use Rattle.cell_balance.proofs.{Deep.sub_mul, Encloses.share_is, Enclosing.enclosed_over, Scaling.IsOver-minus}
use Rattle.deck_problems.proofs.Starting.{starts_enclose_all, starts_fit_decks}
use Rattle.exact_histories.proofs.{HaveOne.have_one_by, Turns.heads_at, Turns.turns_of}
use Rattle.plan_chain.proofs.{Members.encloses_first, Members.lies_in_first, Members.member_cells, Members.member_starts, ByCell.zeros_are_placed, Enclosing.planned_member, Settling.times_planned}
use Rattle.step_chain.proofs.Histories.{first_in, lies_encloses, next_in}
use Rattle.plan_chain.specs.declared.walk.PlanEnd.TheVariants.{Whole}

-- whether one of the first n cells of a problem has this number
has_number : (p : List Entries) (c n : ℕ) → ((i : ℕ) × (i < n) × (c ≡ (entries_at p i).id)) ⊎ ((i : ℕ) → i < n → c ≡ (entries_at p i).id → ⊥)
has_number p c zero = inr (λ i lt same. absurd (omega (arith, lt)))
has_number p c (suc n) = elim (has_number p c n) [
  | inl (i, lt, same) ↦ inl (i, omega (arith, lt), same)
  | inr none ↦ (elim (cases_order c (entries_at p n).id) [
    | inl same ↦ inl (n, omega arith, same)
    | inr apart ↦ inr (λ i lt same. elim (cases_order i n) [
      | inl here ↦ (let P : ℕ → Type 0 = λ j. c ≡ (entries_at p j).id in elim apart [
        | inl less ↦ (let e = subst P here same in omega (arith, less, e))
        | inr more ↦ (let e = subst P here same in omega (arith, more, e))
      ])
      | inr (inl less) ↦ none i less same
      | inr (inr more) ↦ absurd (omega (arith, lt, more))
    ])
  ])
]

abbrev AreHeads : Bound → Type 0
AreHeads b = IsHead b.low × IsHead b.high

zero_heads : AreHeads no_bound
zero_heads = (record { above = omega (arith, ints); below = omega (arith, ints) }, record { above = omega (arith, ints); below = omega (arith, ints) })

-- bounds that are placed by cell number are in range, where those of the variable cells are
pub placed_fit : (count : ℕ) (p : List Entries) (bounds all : List Bound) → AreWords p bounds → AreByCell count p bounds all → All AreHeads all
placed_fit count p bounds all words h i b lt = subst AreHeads (get_or_default all i no_bound b lt) here
  where
    here : AreHeads (bound_at all i)
    here = elim (has_number p i (length p)) [
      | inl (k, within, same) ↦ (let P : ℕ → Type 0 = λ c. AreHeads (bound_at all c) in subst P (sym same) (subst AreHeads (sym (h.variable k within)) (words.low k within, words.high k within)))
      | inr none ↦ subst AreHeads (sym (h.other i none)) zero_heads
    ]

-- differences of 0 are in range
pub zeros_fit : (count : ℕ) → All AreHeads (replicate count no_bound)
zeros_fit count i b lt = subst AreHeads (get_or_default (replicate count no_bound) i no_bound b lt) (subst AreHeads (sym (zeros_are_placed count i)) zero_heads)

-- the difference of two shares lies within bounds of the difference
pub apart_within : (m : FlowModel) (all : List Bound) (d : ℕ) (X Y : ℕ → ℤ) → 0 < d → LiesWithin m all d (λ c. X c -ℤ Y c) → HeadsEnclose m all (λ c. minus (heads_of d X c) (heads_of d Y c))
apart_within m all d X Y some h c a =
    let n : ℕ = 10 ^ 9 in
    let over = IsOver-minus (d * n) (share d (X c)) (share d (Y c)) (X c *ℤ pos n) (Y c *ℤ pos n) (share_is d n (X c) some) (share_is d n (Y c) some) in
    let same : (X c -ℤ Y c) *ℤ pos n ≡ X c *ℤ pos n -ℤ Y c *ℤ pos n = sub_mul (X c) (Y c) (pos n) in
    let P : ℤ → Type 0 = λ z. (lower_at all c *ℤ pos d) ≤ℤ z in
    let Q : ℤ → Type 0 = λ z. z ≤ℤ (upper_at all c *ℤ pos d) in
    enclosed_over (lower_at all c) (upper_at all c) 9 d (minus (share d (X c)) (share d (Y c))) (X c *ℤ pos n -ℤ Y c *ℤ pos n) some over (subst P same (h.low c a)) (subst Q same (h.high c a))

module _ (step_encloses : PlanStepEncloses) (heads_fit : HeadsFit) (k : PlanTask) (task : IsPlanTask k) where
  abbrev a : FlowModel
  a = k.base.first

  -- the heads and the differences of a step are in range
  pub step_fits : (at : TimeStep) (old : PlanHeads) (v : PlanSolved) → Contains (times a) at → ArePlanHeads k old → IsPlanStep k at old v → ArePlanHeads k (heads_in v)
  step_fits at old v time fit step = record {
    base = heads_fit k.limits k.base k.digits at old.base (plan_pairs k) v.base (record { decks = task.base; time = time; heads = fit.base }) step.base;
    planned = heads_fit k.limits k.planned k.digits at old.planned (plan_pairs k) v.planned (record { decks = task.planned; time = times_planned k task at time; heads = fit.planned }) step.planned;
    differences = record {
      whole = step.differences.heads.whole;
      range = placed_fit (cell_count a.grid) v.differences.problem v.differences.bounds v.differences.heads
          (pair_words (plan_pairs k) v.differences.problem (edges_by k.limits step.differences.barrier) v.differences.bounds step.differences.pair) step.differences.heads;
    };
  }

  all_within : (ats : List TimeStep) (these : (at : TimeStep) → Contains ats at → Contains (times a) at) (old : PlanHeads) (vs : List PlanSolved) (before after : ℕ → Fraction) (d : ℕ)
      (Xs Ys : List (ℕ → ℤ)) → ArePlanHeads k old → IsBeforeStep a old before after → 0 < d → PlanSteps k old ats vs Whole → SolvesPairsFrom k.base k.plan d before after ats Xs Ys →
      BoundsPairs k d vs Xs Ys
  all_within [] these old [] before after d [] [] fit b some steps h = tt
  all_within [] these old [] before after d [] (Y ∷ Ys) fit b some steps h = absurd h
  all_within [] these old [] before after d (X ∷ Xs) Ys fit b some steps h = absurd h
  all_within [] these old (v ∷ vs) before after d Xs Ys fit b some steps h = absurd steps
  all_within (at ∷ ats) these old [] before after d Xs Ys fit b some steps h = absurd steps
  all_within (at ∷ ats) these old (v ∷ vs) before after d [] Ys fit b some steps h = absurd h
  all_within (at ∷ ats) these old (v ∷ vs) before after d (X ∷ Xs) [] fit b some steps h = absurd h
  all_within (at ∷ ats) these old (v ∷ vs) before after d (X ∷ Xs) (Y ∷ Ys) fit b some steps h =
      let m = h.0.model in
      let cells = member_cells k.base m h.0.member in
      let time = these at (first_in at ats) in
      let bounds = step_encloses k at old v task time fit steps.0 m h.0.member before after d X Y (record {
        base = encloses_member a m cells old.base before b.base;
        planned = encloses_member a m cells old.planned after b.planned;
        differences = encloses_member a m cells old.differences (λ c. minus (before c) (after c)) b.differences;
      }) some h.0.base h.0.planned in
      let here : BoundsPair a (heads_in v) d X Y = record {
        base = lies_in_first a m cells v.base.heads d X bounds.base;
        planned = lies_in_first a m cells v.planned.heads d Y bounds.planned;
        differences = lies_in_first a m cells v.differences.heads d (λ c. X c -ℤ Y c) bounds.differences;
      } in (
        here,
        all_within ats (λ u i. these u (next_in at ats u i)) (heads_in v) vs (heads_of d X) (heads_of d Y) d Xs Ys (step_fits at old v time fit steps.0) (record {
          base = lies_encloses a v.base.heads d X some here.base;
          planned = lies_encloses a v.planned.heads d Y some here.planned;
          differences = apart_within a v.differences.heads d X Y some here.differences;
        }) some steps.1 h.1,
      )

-- differences of 0 are differences of all cells
pub zeros_are_heads : (m : FlowModel) (all : List Bound) → all ≡ replicate (cell_count m.grid) no_bound → AreGridHeads m all
zeros_are_heads m all e = subst (λ (xs : List Bound). AreGridHeads m xs) (sym e) (record { whole = length-replicate (cell_count m.grid) no_bound; range = zeros_fit (cell_count m.grid) })

-- the heads before the first step: STRT of both plans
pub starts_are_heads : StartHeadsFit → (k : PlanTask) → IsPlanTask k → (old : PlanHeads) → AreStartsOf k old → ArePlanHeads k old
starts_are_heads starts_fit k task old start = record {
  base = starts_fit k.base old.base task.base start.base;
  planned = starts_fit k.planned old.planned task.planned start.planned;
  differences = zeros_are_heads k.base.first old.differences start.differences;
}

pub pairs_within : StartHeadsFit → StartHeadsEnclose → PlannedLieBetween → PlanStepEncloses → HeadsFit → PairsLieWithin
pairs_within starts_fit starts_enclose lies step_encloses heads_fit k vs task all d Xs Ys h =
    let a = k.base.first in
    let m = h.first in
    let cells = member_cells k.base m h.member in
    let M = with_plan k.plan m in
    let with_wells = planned_member lies k.plan k.base k.planned task.with_wells m h.member in
    let of_base = starts_enclose k.base all.start.base task.base all.is_start.base (start_head m) (member_starts k.base m h.member) in
    let of_planned = encloses_member k.planned.first M (member_cells k.planned M with_wells) all.start.planned (start_head M)
    (starts_enclose k.planned all.start.planned task.planned all.is_start.planned (start_head M) (member_starts k.planned M with_wells)) in
    let none : (c : ℕ) → EnclosesSigned (lower_at all.start.differences c) (upper_at all.start.differences c) 9 (minus (start_head m c) (start_head m c)) = λ c.
    let e : bound_at all.start.differences c ≡ no_bound = ap (λ (xs : List Bound). bound_at xs c) all.is_start.differences ∙ zeros_are_placed (cell_count a.grid) c in
    let P : Bound → Type 0 = λ b. EnclosesSigned b.low b.high 9 (minus (start_head m c) (start_head m c)) in
    subst P (sym e) (nothing_apart (start_head m c)) in
    all_within step_encloses heads_fit k task (times a) (λ at i. i) all.start vs (start_head m) (start_head m) d Xs Ys (starts_are_heads starts_fit k task all.start all.is_start) (record {
      base = of_base;
      planned = encloses_first a m cells all.start.planned (start_head m) (λ c i. of_planned c (record { within = i.within; active = i.active }));
      differences = λ c i. none c;
    }) h.some all.steps h.steps

-- the steps of one of the two plans
module _ (k : PlanTask) where
  base_steps : (ats : List TimeStep) (old : PlanHeads) (vs : List PlanSolved) → PlanSteps k old ats vs Whole →
      AreSteps k.limits k.base k.digits (plan_pairs k) old.base ats (map (λ (v : PlanSolved). v.base) vs)
  base_steps [] old [] h = tt
  base_steps [] old (v ∷ vs) h = absurd h
  base_steps (at ∷ ats) old [] h = absurd h
  base_steps (at ∷ ats) old (v ∷ vs) h = (h.0.base, base_steps ats (heads_in v) vs h.1)

  planned_steps : (ats : List TimeStep) (old : PlanHeads) (vs : List PlanSolved) → PlanSteps k old ats vs Whole →
      AreSteps k.limits k.planned k.digits (plan_pairs k) old.planned ats (map (λ (v : PlanSolved). v.planned) vs)
  planned_steps [] old [] h = tt
  planned_steps [] old (v ∷ vs) h = absurd h
  planned_steps (at ∷ ats) old [] h = absurd h
  planned_steps (at ∷ ats) old (v ∷ vs) h = (h.0.planned, planned_steps ats (heads_in v) vs h.1)

pub both_have_one : BothHaveOne
both_have_one k vs task all =
    let base : List Solved = map (λ (v : PlanSolved). v.base) vs in
    let planned : List Solved = map (λ (v : PlanSolved). v.planned) vs in
    let same : times k.planned.first ≡ times k.base.first = ap (λ (e : Decks). times e.first) task.with_wells ∙ times_same k.base.first k.plan task.long in
    let planned_all = subst (λ (ts : List TimeStep). AreSteps k.limits k.planned k.digits (plan_pairs k) all.start.planned ts planned) (sym same)
    (planned_steps k (times k.base.first) all.start vs all.steps) in (
      have_one_by k.limits k.base.first k.base.second k.digits all.start.base (map heads_at base) (starts_enclose_all k.base all.start.base task.base all.is_start.base)
          (turns_of k.limits k.base k.digits (plan_pairs k) task.base all.start.base (times k.base.first) base (λ at i. i) (starts_fit_decks k.base all.start.base task.base all.is_start.base)
          (base_steps k (times k.base.first) all.start vs all.steps)),
      have_one_by k.limits k.planned.first k.planned.second k.digits all.start.planned (map heads_at planned)
          (starts_enclose_all k.planned all.start.planned task.planned all.is_start.planned)
          (turns_of k.limits k.planned k.digits (plan_pairs k) task.planned all.start.planned (times k.planned.first) planned (λ at i. i)
          (starts_fit_decks k.planned all.start.planned task.planned all.is_start.planned) planned_all),
    )
