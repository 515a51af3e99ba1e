-- The steps so far, from one to the next, and the end of a listing after them.
use Rattle.plan_run.proofs.Common.{◌≡◌, ◌∙◌, ◌+◌, ◌<◌, ◌∷◌, ◌++◌, ℕ, List, [], ap, arith, drop, length, refl, subst, sym, TimeStep, times, AreStartsOf, ListingEndsAt, FirstSteps, IsAtFirst}
use Rattle.plan_run.proofs.Common.{IsCutPlanListing, IsListedStep, IsNext, IsNextText, IsPlanListing, IsPlanStep, IsPlanWalk, ListedPlanStep, PlanEnd, PlanHeads, PlanSolved, PlanTask, PlanWalk}
use Rattle.plan_run.proofs.Common.{StepsThen, Text, first_pieces, heads_listed, last_line, plan_listing, status_of, times_left}
use Rattle.listing_run.proofs.UnderWay.{first_same}

module _ (k : PlanTask) where
  -- these heads and times are left
  abbrev pub AreLeft : PlanHeads → List TimeStep → PlanHeads → List TimeStep → Type 0
  AreLeft old rest heads ats = (heads ≡ old) × (ats ≡ rest)

  -- the steps so far
  abbrev pub IsSolved : PlanHeads → List TimeStep → List ListedPlanStep → Type 0
  IsSolved old rest values = FirstSteps k (AreLeft old rest) values

  solved_at_first : (start : PlanHeads) → AreStartsOf k start → IsSolved start (times k.base.first) []
  solved_at_first start is = record { start = start; is_start = is; steps = (refl, refl) }

  -- one step more
  step_then : (old : PlanHeads) (at : TimeStep) (rest : List TimeStep) (x : ListedPlanStep) (heads : PlanHeads) → IsListedStep k at old x →
      heads ≡ heads_listed x → (start : PlanHeads) (all : List TimeStep) (values : List ListedPlanStep) →
      StepsThen k (AreLeft old (at ∷ rest)) start all values → StepsThen k (AreLeft heads rest) start all (values ++ (x ∷ []))
  step_then old at rest x heads is same start all [] (here, left) =
      let P : List TimeStep → Type 0 = λ ts. StepsThen k (AreLeft heads rest) start ts (x ∷ []) in
      let Q : PlanHeads → Type 0 = λ hs. IsListedStep k at hs x × AreLeft heads rest (heads_listed x) rest in
      subst P (sym left) (subst Q (sym here) (is, (sym same, refl)))
  step_then old at rest x heads is same start (t ∷ all) (w ∷ values) (y, h) = (y, step_then old at rest x heads is same (heads_listed w) all values h)
  step_then old at rest x heads is same start [] (w ∷ values) h = absurd h

  solved_more : (old : PlanHeads) (at : TimeStep) (rest : List TimeStep) (values : List ListedPlanStep) (x : ListedPlanStep) (heads : PlanHeads) →
      IsSolved old (at ∷ rest) values → IsListedStep k at old x → heads ≡ heads_listed x → IsSolved heads rest (values ++ (x ∷ []))
  solved_more old at rest values x heads s is same =
      record { start = s.start; is_start = s.is_start; steps = step_then old at rest x heads is same s.start (times k.base.first) values s.steps }

  -- what holds of the heads and times that are left
  then_also : (P Q : PlanHeads → List TimeStep → Type 0) → ((heads : PlanHeads) (ats : List TimeStep) → P heads ats → Q heads ats) →
      (old : PlanHeads) (rest : List TimeStep) (values : List ListedPlanStep) → StepsThen k P old rest values → StepsThen k Q old rest values
  then_also P Q takes old rest [] h = takes old rest h
  then_also P Q takes old (at ∷ rest) (x ∷ values) (is, h) = (is, then_also P Q takes (heads_listed x) rest values h)
  then_also P Q takes old [] (x ∷ values) h = absurd h

  steps_end : (Q : PlanHeads → List TimeStep → Type 0) (old : PlanHeads) (rest : List TimeStep) (values : List ListedPlanStep) → IsSolved old rest values →
      Q old rest → FirstSteps k Q values
  steps_end Q old rest values s h =
      let takes = λ (heads : PlanHeads) (ats : List TimeStep) (left : AreLeft old rest heads ats).
      let P : PlanHeads → Type 0 = λ hs. Q hs ats in
      let R : List TimeStep → Type 0 = λ ts. Q old ts in
      subst P (sym left.0) (subst R (sym left.1) h) in
      record { start = s.start; is_start = s.is_start; steps = then_also (AreLeft old rest) Q takes s.start (times k.base.first) values s.steps }

  pub cut_listing : (old : PlanHeads) (rest : List TimeStep) (values : List ListedPlanStep) → IsSolved old rest values → IsCutPlanListing k (first_pieces k values)
  cut_listing old rest values s = record { values = values; steps = steps_end (λ heads ats. Unit {0}) old rest values s tt; are = refl }

  pub is_listing : (old : PlanHeads) (rest : List TimeStep) (values : List ListedPlanStep) (last : PlanEnd) → IsSolved old rest values → ListingEndsAt k last old rest →
      IsPlanListing k (status_of last) (plan_listing k values (last_line k.base.first.grid last))
  is_listing old rest values last s h = record { last = last; status = refl; values = values; steps = steps_end (ListingEndsAt k last) old rest values s h; are = refl }

  pub none_solved : (w : PlanWalk) → IsPlanWalk k w → IsAtFirst k w → IsSolved w.heads (times_left w) []
  none_solved w is first =
      let P : List TimeStep → Type 0 = λ ts. IsSolved w.heads ts [] in
      subst P (sym (ap (λ (n : ℕ). drop n w.times) first.done ∙ is.times)) (solved_at_first w.heads first.start)

  pub one_more_solved : (s t : PlanWalk) (text : Text) (values : List ListedPlanStep) → IsSolved s.heads (times_left s) values → (n : IsNextText k s t text) →
      IsSolved t.heads (times_left t) (values ++ (n.value ∷ []))
  one_more_solved s t text values so n =
      let P : List TimeStep → Type 0 = λ ts. IsSolved s.heads ts values in
      solved_more s.heads n.at (times_left t) values n.value t.heads (subst P n.time so) n.is n.heads

-- each step leaves one time less
pub fewer_left : (k : PlanTask) (s t : PlanWalk) (text : Text) → IsNextText k s t text → length (times_left t) < length (times_left s)
fewer_left k s t text n = let left = ap (λ (ts : List TimeStep). length ts) n.time in omega (arith, left)

-- The step at hand of a walk: of its time.
module _ (k : PlanTask) (s : PlanWalk) (at : TimeStep) (left : times_left s ≡ at ∷ drop (s.done + 1) s.times) (v : PlanSolved) (n : IsNext k s v) where
  same_time : n.at ≡ at
  same_time = first_same n.at at (drop (s.done + 1) s.times) (drop (s.done + 1) s.times) (sym n.time ∙ left)

  pub step_at : IsPlanStep k at s.heads v
  step_at = let P : TimeStep → Type 0 = λ t. IsPlanStep k t s.heads v in subst P same_time n.is
