-- Every two histories of two plans in one weather lie within a whole listing, by induction on the time steps; and there are such.
use Rattle.plan_run.proofs.Common.{◌∷◌, ◌∙◌, ◌≡◌, ℕ, List, [], ap, subst, sym, times, TimeStep, AllListedSteps, ArePlanHeads, ListingEndsAt, IsPlanTask, ListedPlanStep, PlanHeads, PlanSolved}
use Rattle.plan_run.proofs.Common.{PlanTask, StepsThen, heads_in, heads_listed, listed_of, Contains, ℤ, ◌<◌, ◌-ℤ◌, FlowModel, cell_count, start_head, IsMember, StartHeadsEnclose, StartHeadsFit}
use Rattle.plan_run.proofs.Common.{PlannedLieBetween, with_plan, BothHaveOne, IsBeforeStep, PlanStepEncloses, PlanSteps, AllPlanSteps, Whole, BoundPairs, BoundsPairStep, PlanListingsEnclose, Bound}
use Rattle.plan_run.proofs.Common.{lower_at, no_bound, upper_at, bound_at, HeadsFit, first_in, lies_encloses, next_in, nothing_apart, apart_within, starts_are_heads, step_fits, PlanFlowsEnclose}
use Rattle.plan_run.proofs.Common.{EnclosesSigned, Fraction, heads_of, SolvesPairsFrom, encloses_member, planned_member, encloses_first, lies_in_first, member_cells, member_starts}
use Rattle.cell_balance.specs.{minus}
use Rattle.plan_chain.proofs.ByCell.{zeros_are_placed}
use Rattle.plan_run.proofs.Faces.{listing_lists}

module _ (step_encloses : PlanStepEncloses) (heads_fit : HeadsFit) (flows_enclose : PlanFlowsEnclose) (k : PlanTask) (task : IsPlanTask k) where
  abbrev a : FlowModel
  a = k.base.first

  all_bound : (ats : List TimeStep) (these : (at : TimeStep) → Contains ats at → Contains (times a) at) (old : PlanHeads) (values : List ListedPlanStep)
      (before after : ℕ → Fraction) (d : ℕ) (Xs Ys : List (ℕ → ℤ)) → ArePlanHeads k old → IsBeforeStep a old before after → 0 < d →
      StepsThen k (ListingEndsAt k Whole) old ats values → SolvesPairsFrom k.base k.plan d before after ats Xs Ys → BoundPairs k d before after values Xs Ys
  all_bound [] these old [] before after d [] [] fit b some steps h = tt
  all_bound [] these old [] before after d [] (Y ∷ Ys) fit b some steps h = absurd h
  all_bound [] these old [] before after d (X ∷ Xs) Ys fit b some steps h = absurd h
  all_bound [] these old (x ∷ xs) before after d Xs Ys fit b some steps h = absurd steps
  all_bound (at ∷ ats) these old [] before after d Xs Ys fit b some steps h = absurd steps
  all_bound (at ∷ ats) these old (x ∷ xs) before after d [] Ys fit b some steps h = absurd h
  all_bound (at ∷ ats) these old (x ∷ xs) before after d (X ∷ Xs) [] fit b some steps h = absurd h
  all_bound (at ∷ ats) these old (x ∷ xs) before after d (X ∷ Xs) (Y ∷ Ys) fit b some steps h =
      let step = steps.0.solves in
      let v = steps.0.solved in
      let y = listed_of at v steps.0.flows in
      let time = these at (first_in at ats) in
      let within = λ (m : FlowModel) (member : IsMember k.base m).
      let cells = member_cells k.base m member in
      let all : IsBeforeStep m old before after = record {
        base = encloses_member a m cells old.base before b.base;
        planned = encloses_member a m cells old.planned after b.planned;
        differences = encloses_member a m cells old.differences (λ c. minus (before c) (after c)) b.differences;
      } in
      all in
      let m = h.0.model in
      let cells = member_cells k.base m h.0.member in
      let bounds = step_encloses k at old v task time fit step m h.0.member before after d X Y (within m h.0.member) some h.0.base h.0.planned in
      let here : BoundsPairStep k y before after d X Y = record {
        base = lies_in_first a m cells v.base.heads d X bounds.base;
        planned = lies_in_first a m cells v.planned.heads d Y bounds.planned;
        differences = lies_in_first a m cells v.differences.heads d (λ c. X c -ℤ Y c) bounds.differences;
        flows = λ n member solves with_wells. flows_enclose k at old v steps.0.flows task time fit step steps.0.are n member before after d X Y (within n member)
            some solves with_wells;
      } in
      let B : ListedPlanStep → Type 0 = λ z. BoundsPairStep k z before after d X Y in
      let S : ListedPlanStep → Type 0 = λ z. StepsThen k (ListingEndsAt k Whole) (heads_listed z) ats xs in (
        subst B (sym steps.0.is) here,
        all_bound ats (λ u i. these u (next_in at ats u i)) (heads_in v) xs (heads_of d X) (heads_of d Y) d Xs Ys
            (step_fits step_encloses heads_fit k task at old v time fit step) (record {
              base = lies_encloses a v.base.heads d X some here.base;
              planned = lies_encloses a v.planned.heads d Y some here.planned;
              differences = apart_within a v.differences.heads d X Y some here.differences;
            }) some (subst S steps.0.is steps.1) h.1,
      )

-- the solved steps of a whole listing
solved_steps : (k : PlanTask) (ats : List TimeStep) (old : PlanHeads) (values : List ListedPlanStep) → StepsThen k (ListingEndsAt k Whole) old ats values →
    (vs : List PlanSolved) × PlanSteps k old ats vs Whole
solved_steps k [] old [] h = ([], tt)
solved_steps k [] old (x ∷ xs) h = absurd h
solved_steps k (at ∷ ats) old [] h = absurd h
solved_steps k (at ∷ ats) old (x ∷ xs) (is, h) =
    let S : ListedPlanStep → Type 0 = λ z. StepsThen k (ListingEndsAt k Whole) (heads_listed z) ats xs in
    let rest = solved_steps k ats (heads_in is.solved) xs (subst S is.is h) in
    (is.solved ∷ rest.0, (is.solves, rest.1))

all_solved : (k : PlanTask) (values : List ListedPlanStep) → AllListedSteps k values Whole → (vs : List PlanSolved) × AllPlanSteps k vs Whole
all_solved k values all =
    let s = solved_steps k (times k.base.first) all.start values all.steps in
    (s.0, record { start = all.start; is_start = all.is_start; steps = s.1 })

pub listings_enclose : StartHeadsFit → StartHeadsEnclose → PlannedLieBetween → PlanStepEncloses → HeadsFit → PlanFlowsEnclose → BothHaveOne → PlanListingsEnclose
listings_enclose starts_fit starts_enclose lies step_encloses heads_fit flows_enclose both = record {
  pairs = λ k values task all d Xs Ys h.
      let a = k.base.first in
      let m = h.first in
      let cells = member_cells k.base m h.member in
      let M = with_plan k.plan m in
      let with_wells = planned_member lies k.plan k.base k.planned task.with_wells m h.member in
      let of_base = starts_enclose k.base all.start.base task.base all.is_start.base (start_head m) (member_starts k.base m h.member) in
      let of_planned = encloses_member k.planned.first M (member_cells k.planned M with_wells) all.start.planned (start_head M)
      (starts_enclose k.planned all.start.planned task.planned all.is_start.planned (start_head M) (member_starts k.planned M with_wells)) in
      let none : (c : ℕ) → EnclosesSigned (lower_at all.start.differences c) (upper_at all.start.differences c) 9 (minus (start_head m c) (start_head m c)) = λ c.
      let e : bound_at all.start.differences c ≡ no_bound = ap (λ (xs : List Bound). bound_at xs c) all.is_start.differences ∙ zeros_are_placed (cell_count a.grid) c in
      let P : Bound → Type 0 = λ b. EnclosesSigned b.low b.high 9 (minus (start_head m c) (start_head m c)) in
      subst P (sym e) (nothing_apart (start_head m c)) in
      all_bound step_encloses heads_fit flows_enclose k task (times a) (λ at i. i) all.start values (start_head m) (start_head m) d Xs Ys
      (starts_are_heads starts_fit k task all.start all.is_start) (record {
        base = of_base;
        planned = encloses_first a m cells all.start.planned (start_head m) (λ c i. of_planned c (record { within = i.within; active = i.active }));
        differences = λ c i. none c;
      }) h.some all.steps h.steps;
  between = λ k values task all. listing_lists k task (ListingEndsAt k Whole) values all;
  base = λ k values task all. let s = all_solved k values all in (both k s.0 task s.1).0;
  planned = λ k values task all. let s = all_solved k values all in (both k s.0 task s.1).1;
}
