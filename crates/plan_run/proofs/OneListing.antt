-- A plan has one listing without --quick: one listed step at each time, or one refusal.
use Rattle.plan_run.proofs.Common.{List, Ok, Err, Result, [], ap, inl, inr, refl, subst, sym, ◌∙◌, ◌∷◌, ◌≡◌, ◌⊎◌, Contains, false, NoBound, SettledPairIsOne, TimeStep, times, BarrierExcludesRefusal}
use Rattle.plan_run.proofs.Common.{CutBarrierExcludesRefusal, CutBarrierIsOne, CutRefusalIsOne, CertificateExcludesRefusal, RangeRefusalIsOne, ProblemFits, StartHeadsAreOne, StartHeadsFit, HeadsFit}
use Rattle.plan_run.proofs.Common.{RefusalIsOne, StepExcludesRefusal, StepIsOne, first_in, next_in, PlanHeads, PlanPart, Base, Planned, Differences, PlanSolved, PlanTask, PlanEnd, Whole, Unfinished}
use Rattle.plan_run.proofs.Common.{ArePlanHeads, AreStartsOf, HasNoBoundAt, IsPlanStep, IsPlanTask, PlanStepEncloses, starts_are_heads, step_fits, PlanFlows, ListedPlanStep, IsDefinedEnd}
use Rattle.plan_run.proofs.Common.{IsListedStep, HasRefusal, ListingEndsAt, PlanListingIsOne, StepsThen, heads_listed, listed_of}
use Rattle.barrier_vector.specs.{RefusalIsOne as BarrierRefusalIsOne}
use Rattle.plan_chain.specs.declared.walk.PlanEnd.TheVariants.{NoBound as IsNoBound}
use Rattle.plan_run.specs.{flows_of}
use Rattle.plan_run.proofs.{Decided.PairLaws, OneStep.StepLaws, OneStep.refusal_one, OneStep.step_apart, OneStep.step_one}

abbrev flows_or : PlanFlows → Result PlanFlows NoBound → PlanFlows
flows_or d (Ok x) = x
flows_or d (Err n) = d

abbrev fault_or : NoBound → Result PlanFlows NoBound → NoBound
fault_or d (Ok x) = d
fault_or d (Err n) = n

module _ (pairs : PairLaws) (steps : StepLaws) (problem_fits : ProblemFits) (k : PlanTask) (task : IsPlanTask k) (plain : k.quick ≡ false) where
  -- a time of the task
  module _ (at : TimeStep) (time : Contains (times k.base.first) at) (old : PlanHeads) (fit : ArePlanHeads k old) where
    one_step : (v w : PlanSolved) → IsPlanStep k at old v → IsPlanStep k at old w → v ≡ w
    one_step = step_one pairs steps problem_fits k task plain at time old fit

    no_step : (v : PlanSolved) (part : PlanPart) (n : NoBound) → IsPlanStep k at old v → HasNoBoundAt k at old part n → ⊥
    no_step = step_apart pairs steps problem_fits k task plain at time old fit

    -- the flows of its step are too large
    abbrev HasLargeFlows : NoBound → Type 0
    HasLargeFlows n = (v : PlanSolved) × IsPlanStep k at old v × (flows_of k v ≡ Err n)

    -- its refusal is one of the heads, or of the flows
    by_cause : (part : PlanPart) (n : NoBound) → HasRefusal k at old part n → HasNoBoundAt k at old part n ⊎ ((part ≡ Differences) × HasLargeFlows n)
    by_cause Base n h = inl h
    by_cause Planned n h = inl h
    by_cause Differences n (inl h) = inl h
    by_cause Differences n (inr h) = inr (refl, h)

    large_one : (n m : NoBound) → HasLargeFlows n → HasLargeFlows m → n ≡ m
    large_one n m (v, is, e) (w, also, f) =
        let P : PlanSolved → Type 0 = λ x. flows_of k x ≡ Err m in
        ap (fault_or n) (sym e ∙ subst P (one_step w v also is) f)

    one_refusal : (p q : PlanPart) (n m : NoBound) → HasRefusal k at old p n → HasRefusal k at old q m → (p ≡ q) × (n ≡ m)
    one_refusal p q n m a b = both (by_cause p n a) (by_cause q m b)
      where
        both : HasNoBoundAt k at old p n ⊎ ((p ≡ Differences) × HasLargeFlows n) → HasNoBoundAt k at old q m ⊎ ((q ≡ Differences) × HasLargeFlows m) → (p ≡ q) × (n ≡ m)
        both (inl x) (inl y) = refusal_one pairs steps problem_fits k task plain at time old fit p q n m x y
        both (inl x) (inr (is, (w, solves, f))) = absurd (no_step w p n solves x)
        both (inr (is, (v, solves, e))) (inl y) = absurd (no_step v q m solves y)
        both (inr (is, x)) (inr (also, y)) = (is ∙ sym also, large_one n m x y)

    one_listed : (x y : ListedPlanStep) → IsListedStep k at old x → IsListedStep k at old y → x ≡ y
    one_listed x y h g =
        let solved = one_step h.solved g.solved h.solves g.solves in
        let P : PlanSolved → Type 0 = λ v. flows_of k v ≡ Ok g.flows in
        let flows : h.flows ≡ g.flows = ap (flows_or h.flows) (sym h.are ∙ subst P (sym solved) g.are) in
        h.is ∙ (λ i. listed_of at (solved i) (flows i)) ∙ sym g.is

    not_refused : (x : ListedPlanStep) (part : PlanPart) (n : NoBound) → IsListedStep k at old x → HasRefusal k at old part n → ⊥
    not_refused x part n h r = elim (by_cause part n r) [
      | inl none ↦ no_step h.solved part n h.solves none
      | inr large ↦ (let (v, is, e) = large.1 in
          let P : PlanSolved → Type 0 = λ w. flows_of k w ≡ Err n in
          let bad : Path (Result PlanFlows NoBound) (Ok h.flows) (Err n) = sym h.are ∙ subst P (one_step v h.solved is h.solves) e in
          cc)
    ]

    -- a listing that goes on here doesn't end here
    goes_on : (x : ListedPlanStep) (ats : List TimeStep) (last : PlanEnd) → IsListedStep k at old x → ListingEndsAt k last old (at ∷ ats) → IsDefinedEnd last → ⊥
    goes_on x ats Whole h ends certain = ends
    goes_on x ats (IsNoBound t part n) h ends certain = not_refused x part n h ends.1
    goes_on x ats (Unfinished t part) h ends certain = certain

    -- and it ends here in one way
    refused_once : (ats : List TimeStep) (last other : PlanEnd) → ListingEndsAt k last old (at ∷ ats) → ListingEndsAt k other old (at ∷ ats) → IsDefinedEnd last →
        IsDefinedEnd other → other ≡ last
    refused_once ats Whole other h g c d = absurd h
    refused_once ats (Unfinished t part) other h g c d = absurd c
    refused_once ats (IsNoBound s p n) Whole h g c d = absurd g
    refused_once ats (IsNoBound s p n) (Unfinished t q) h g c d = absurd d
    refused_once ats (IsNoBound s p n) (IsNoBound t q m) h g c d =
        let same = one_refusal q p m n g.1 h.1 in
        λ i. IsNoBound ((g.0 ∙ sym h.0) i) (same.0 i) (same.1 i)

  ends_once : (old : PlanHeads) (last other : PlanEnd) → ListingEndsAt k last old [] → ListingEndsAt k other old [] → other ≡ last
  ends_once old Whole Whole h g = refl
  ends_once old Whole (IsNoBound t q m) h g = absurd g
  ends_once old Whole (Unfinished t q) h g = absurd g
  ends_once old (IsNoBound t p n) other h g = absurd h
  ends_once old (Unfinished t p) other h g = absurd h

  module _ (step_encloses : PlanStepEncloses) (heads_fit : HeadsFit) (last other : PlanEnd) (certain : IsDefinedEnd last) (also : IsDefinedEnd other) where
    listing_once : (ats : List TimeStep) (these : (at : TimeStep) → Contains ats at → Contains (times k.base.first) at) (old : PlanHeads) (values others : List ListedPlanStep) →
        ArePlanHeads k old → StepsThen k (ListingEndsAt k last) old ats values → StepsThen k (ListingEndsAt k other) old ats others → (others ≡ values) × (other ≡ last)
    listing_once [] these old [] [] fit h g = (refl, ends_once old last other h g)
    listing_once [] these old (x ∷ xs) others fit h g = absurd h
    listing_once [] these old [] (y ∷ ys) fit h g = absurd g
    listing_once (at ∷ ats) these old [] [] fit h g = (refl, refused_once at (these at (first_in at ats)) old fit ats last other h g certain also)
    listing_once (at ∷ ats) these old [] (y ∷ ys) fit h g = absurd (goes_on at (these at (first_in at ats)) old fit y ats last g.0 h certain)
    listing_once (at ∷ ats) these old (x ∷ xs) [] fit h g = absurd (goes_on at (these at (first_in at ats)) old fit x ats other h.0 g also)
    listing_once (at ∷ ats) these old (x ∷ xs) (y ∷ ys) fit h g =
        let time = these at (first_in at ats) in
        let same = one_listed at time old fit y x g.0 h.0 in
        let P : ListedPlanStep → Type 0 = λ z. StepsThen k (ListingEndsAt k other) (heads_listed z) ats ys in
        let Q : ListedPlanStep → Type 0 = λ z. ArePlanHeads k (heads_listed z) in
        let v = h.0.solved in
        let next = subst Q (sym h.0.is) (step_fits step_encloses heads_fit k task at old v time fit h.0.solves) in
        let rest = listing_once ats (λ u i. these u (next_in at ats u i)) (heads_listed x) xs ys next h.1 (subst P same g.1) in
        ((λ i. same i ∷ rest.0 i), rest.1)

-- the heads and the differences before the first step are one
pub starts_once : StartHeadsAreOne → (k : PlanTask) → IsPlanTask k → (a b : PlanHeads) → AreStartsOf k a → AreStartsOf k b → a ≡ b
starts_once one k task a b h g =
    let bases = one k.base a.base b.base task.base h.base g.base in
    let plans = one k.planned a.planned b.planned task.planned h.planned g.planned in
    let apart = h.differences ∙ sym g.differences in
    λ i. record { base = bases i; planned = plans i; differences = apart i }

pub one_plan_listing : SettledPairIsOne → CutBarrierIsOne → BarrierExcludesRefusal → CutBarrierExcludesRefusal → BarrierRefusalIsOne → CutRefusalIsOne →
    CertificateExcludesRefusal → RangeRefusalIsOne → StepIsOne → StepExcludesRefusal → RefusalIsOne → ProblemFits → StartHeadsAreOne → StartHeadsFit → HeadsFit →
    PlanStepEncloses → PlanListingIsOne
one_plan_listing pair_one barrier_one plain_excludes cut_excludes plain_refusal cut_refusal certificate range_one one excludes refusal problem_fits start_one start_fits
    heads_fit step_encloses k values others last other task plain h g certain also =
    let pairs : PairLaws = record {
      pair_one = pair_one;
      barrier_one = barrier_one;
      plain_excludes = plain_excludes;
      cut_excludes = cut_excludes;
      plain_refusal = plain_refusal;
      cut_refusal = cut_refusal;
      certificate = certificate;
      range_one = range_one;
    } in
    let steps : StepLaws = record { one = one; excludes = excludes; refusal = refusal } in
    let P : PlanHeads → Type 0 = λ start. StepsThen k (ListingEndsAt k other) start (times k.base.first) others in
    listing_once pairs steps problem_fits k task plain step_encloses heads_fit last other certain also (times k.base.first) (λ at i. i) h.start values others
    (starts_are_heads start_fits k task h.start h.is_start) h.steps (subst P (starts_once start_one k task g.start h.start g.is_start h.is_start) g.steps)
