-- A check of a plan's listing, step by step.
use Rattle.plan_check.proofs.Common.{All, Contains, List, ◌∷◌, [], ap, arith, drop, get_or, inl, inr, length, refl, subst, suc, sym, ℕ, ◌+◌, ◌<◌, ◌≡◌, ◌≤◌, drop_all, drop_more, AllZip, AllZip-length}
use Rattle.plan_check.proofs.Common.{TimeStep, times, pairs_in, PlanHeads, PlanTask, ArePlanHeads, AreStartsOf, IsPlanTask, ListedPlanStep, AreListedPlan, IsListedPlanStep, PlanCheckFault}
use Rattle.plan_check.proofs.Common.{PlanListingVerdict, Certified, Checks, FailsBy, IsPlanVerdict, IsVerdictAt, Passes, StopsAt, heads_before, step_at}
use Rattle.std.proofs.lemmas.List.Elements.{All-contains_itself, All-head, All-tail}
use Rattle.plan_check.proofs.Listed.{listed_fit}
use Rattle.plan_check.specs.declared.fault.PlanCheckFault.TheVariants as fault

module _ (k : PlanTask) (all : List ListedPlanStep) where
  abbrev pub IsListedAt : TimeStep → ListedPlanStep → Type 0
  IsListedAt at x = IsListedPlanStep k.base.first (pairs_in k.base.first k.zones at.period) at x

  -- The check got so far: from the heads and the differences of the last step on, what holds of the rest holds of all. The times left are times of the
  -- decks, and their steps can be listed.
  pub record IsSoFar (old : PlanHeads) (rest : List TimeStep) (steps : List ListedPlanStep) : Type 0 where
    pub fit : ArePlanHeads k old
    pub goes_on : (end : PlanListingVerdict) → Checks k old rest steps end → IsPlanVerdict k all end
    pub left : All (Contains (times k.base.first)) rest
    pub listed : AllZip IsListedAt rest steps

  whole_of : AreListedPlan k.base.first (pairs_in k.base.first k.zones) all → length all ≡ length (times k.base.first)
  whole_of listed = sym (AllZip-length IsListedAt (times k.base.first) all listed.steps)

  pub step_there : (i : ℕ) (items : List TimeStep) → items ≡ times k.base.first → AreListedPlan k.base.first (pairs_in k.base.first k.zones) all → i < length items →
      i < length all
  step_there i items is listed below = omega (arith, below, ap length is, whole_of listed)

  pub at_first : (start : PlanHeads) → AreStartsOf k start → ArePlanHeads k start → AreListedPlan k.base.first (pairs_in k.base.first k.zones) all →
      IsSoFar start (times k.base.first) all
  at_first start is fit listed = record {
    fit = fit;
    goes_on = λ end h. record { start = start; is_start = is; checks = h };
    left = All-contains_itself (times k.base.first);
    listed = listed.steps;
  }

  -- the step at hand is the first of the rest
  pub at_step : (old : PlanHeads) (i : ℕ) (items : List TimeStep) (d : TimeStep) → items ≡ times k.base.first →
      AreListedPlan k.base.first (pairs_in k.base.first k.zones) all → i < length items → IsSoFar old (drop i (times k.base.first)) (drop i all) →
      IsSoFar old (get_or items i d ∷ drop (i + 1) (times k.base.first)) (step_at all i ∷ drop (i + 1) all)
  at_step old i items d is listed below f =
      let P : List TimeStep → Type 0 = λ ts. IsSoFar old ts (step_at all i ∷ drop (i + 1) all) in
      let Q : List ListedPlanStep → Type 0 = λ ws. IsSoFar old (drop i (times k.base.first)) ws in
      let R : List TimeStep → Type 0 = λ ts. IsSoFar old (drop i ts) (step_at all i ∷ drop (i + 1) all) in
      let S : List TimeStep → Type 0 = λ ts. IsSoFar old (get_or items i d ∷ drop (i + 1) ts) (step_at all i ∷ drop (i + 1) all) in
      subst S is (subst P (drop_more items i d below) (subst R (sym is) (subst Q (drop_more all i _ (step_there i items is listed below)) f)))

  -- past the last step there is none
  pub ends_certified : (old : PlanHeads) (i : ℕ) (items : List TimeStep) → items ≡ times k.base.first → AreListedPlan k.base.first (pairs_in k.base.first k.zones) all →
      length items ≤ i → IsSoFar old (drop i (times k.base.first)) (drop i all) → IsPlanVerdict k all Certified
  ends_certified old i items is listed above f =
      let past : length (times k.base.first) ≤ i = omega (arith, above, ap length is) in
      let past_all : length all ≤ i = omega (arith, past, whole_of listed) in
      let Q : List ListedPlanStep → Type 0 = λ ws. IsSoFar old (drop i (times k.base.first)) ws in
      let R : List TimeStep → Type 0 = λ ts. IsSoFar old ts [] in
      (subst R (drop_all i (times k.base.first) past) (subst Q (drop_all i all past_all) f)).goes_on Certified tt

  stops_by : (at : TimeStep) (old : PlanHeads) (x : ListedPlanStep) (f : PlanCheckFault) (v : PlanListingVerdict) → FailsBy k at old x f → IsVerdictAt at f v →
      StopsAt k at old x v
  stops_by at old x (fault.Fails place) v h is = let P : PlanListingVerdict → Type 0 = StopsAt k at old x in subst P (sym is) (refl, h)
  stops_by at old x (fault.Refused part n) v h is = let P : PlanListingVerdict → Type 0 = StopsAt k at old x in subst P (sym is) (refl, h)
  stops_by at old x fault.Memory v h is = absurd is

  -- One step of the loop, from what was lent to the check of the step.
  module _ (start : PlanHeads) (i : ℕ) (items : List TimeStep) (d : TimeStep) (is : items ≡ times k.base.first)
      (listed : AreListedPlan k.base.first (pairs_in k.base.first k.zones) all) (below : i < length items)
      (f : IsSoFar (heads_before start all i) (drop i (times k.base.first)) (drop i all))
      (old : PlanHeads) (x : ListedPlanStep) (old_is : old ≡ heads_before start all i) (x_is : x ≡ step_at all i) where
    here : IsSoFar (heads_before start all i) (get_or items i d ∷ drop (i + 1) (times k.base.first)) (step_at all i ∷ drop (i + 1) all)
    here = at_step (heads_before start all i) i items d is listed below f

    pub time_here : Contains (times k.base.first) (get_or items i d)
    time_here = All-head (Contains (times k.base.first)) (get_or items i d) (drop (i + 1) (times k.base.first)) here.left

    pub fit_here : ArePlanHeads k old
    fit_here = subst (ArePlanHeads k) (sym old_is) f.fit

    pub listed_here : IsListedAt (get_or items i d) x
    listed_here = subst (IsListedAt (get_or items i d)) (sym x_is) here.listed.0

    pub stops_here : (fault : PlanCheckFault) (v : PlanListingVerdict) → FailsBy k (get_or items i d) old x fault → IsVerdictAt (get_or items i d) fault v →
        IsPlanVerdict k all v
    stops_here fault v h verdict =
        let P : PlanHeads → Type 0 = λ o. FailsBy k (get_or items i d) o x fault in
        let Q : ListedPlanStep → Type 0 = λ z. FailsBy k (get_or items i d) (heads_before start all i) z fault in
        here.goes_on v (inr (stops_by (get_or items i d) (heads_before start all i) (step_at all i) fault v (subst Q x_is (subst P old_is h)) verdict))

    pub goes_here : IsPlanTask k → Passes k (get_or items i d) old x → IsSoFar (heads_before start all (i + 1)) (drop (i + 1) (times k.base.first)) (drop (i + 1) all)
    goes_here task passes =
        let P : PlanHeads → Type 0 = λ o. Passes k (get_or items i d) o x in
        let Q : ListedPlanStep → Type 0 = λ z. Passes k (get_or items i d) (heads_before start all i) z in
        let passed = subst Q x_is (subst P old_is passes) in
        let next : suc i ≡ i + 1 = omega arith in
        let R : ℕ → Type 0 = λ n. IsSoFar (heads_before start all n) (drop (i + 1) (times k.base.first)) (drop (i + 1) all) in
        subst R next (record {
          fit = listed_fit k task (get_or items i d) (step_at all i) _ here.listed.0;
          goes_on = λ end h. here.goes_on end (inl (passed, h));
          left = All-tail (Contains (times k.base.first)) (get_or items i d) (drop (i + 1) (times k.base.first)) here.left;
          listed = here.listed.1;
        })
