-- A check of a listing, step by step.
use Rattle.gentle_run.proofs.Common.{All, List, Option, [], ◌∷◌, inl, inr, ℕ, ◌≡◌, ◌+◌, ◌<◌, ◌≤◌, subst, sym, ap, refl, arith, drop, length, get_or, All-contains_itself, All-head, All-tail, AllZip}
use Rattle.gentle_run.proofs.Common.{Contains, Bound, FlowModel, TimeStep, IsModel, times, AreGridHeads, AreStartHeads, starts_fit, AreFlows, AreListed, IsListedAt, ListedStep, step_in, pairs_in}
use Rattle.gentle_run.proofs.Common.{ConvertibleLayers, Certified, Checks, GentleFault, GentleVerdict, IsVerdict, IsVerdictAt, Passes, StepFailsBy, StopsAt, grid_of}
use Rattle.std.proofs.lemmas.List.{drop_all, drop_more}
use Rattle.cell_balance.proofs.Zips.{AllZip-length}
use Rattle.gentle_steps.specs.declared.fault.GentleFault.TheVariants as fault

module _ (m : FlowModel) (w : ConvertibleLayers) (s : ℕ) (zones : Option (List ℕ)) (all : List ListedStep) where
  -- The check got so far: from the heads of the last step on, what holds of the rest holds of all.
  pub record IsSoFar (old : List Bound) (rest : List TimeStep) (steps : List ListedStep) : Type 0 where
    pub grid : AreGridHeads m old
    pub goes_on : (end : GentleVerdict) → Checks m w s zones old rest steps end → IsVerdict m w s zones all end
    pub left : All (Contains (times m)) rest
    pub listed : AllZip (IsListedAt m (pairs_in m zones)) rest steps

  pub at_first : (start : List Bound) → IsModel m → AreStartHeads m start → AreListed m (pairs_in m zones) all → IsSoFar start (times m) all
  at_first start valid is listed = record {
    grid = starts_fit m start valid is;
    goes_on = λ end h. record { start = start; is_start = is; checks = h };
    left = All-contains_itself (times m);
    listed = listed.steps;
  }

  module _ (items : List TimeStep) (is : items ≡ times m) (listed : AreListed m (pairs_in m zones) all) (old : List Bound) (i : ℕ)
      (f : IsSoFar old (drop i (times m)) (drop i all)) where
    whole : length all ≡ length (times m)
    whole = sym (AllZip-length (IsListedAt m (pairs_in m zones)) (times m) all listed.steps)

    pub step_there : i < length items → i < length all
    step_there below = omega (arith, below, ap length is, whole)

    -- past the last step there is none
    pub ends : length items ≤ i → IsVerdict m w s zones all Certified
    ends above =
        let past : length (times m) ≤ i = omega (arith, above, ap length is) in
        let past_all : length all ≤ i = omega (arith, past, whole) in
        let Q : List ListedStep → Type 0 = λ xs. IsSoFar old (drop i (times m)) xs in
        let R : List TimeStep → Type 0 = λ ts. IsSoFar old ts [] in
        (subst R (drop_all i (times m) past) (subst Q (drop_all i all past_all) f)).goes_on Certified tt

    module _ (d : TimeStep) (below : i < length items) where
      abbrev at : TimeStep
      at = get_or items i d

      -- the step at hand is the first of the rest
      pub at_step : IsSoFar old (at ∷ drop (i + 1) (times m)) (step_in all i ∷ drop (i + 1) all)
      at_step =
          let P : List TimeStep → Type 0 = λ ts. IsSoFar old ts (step_in all i ∷ drop (i + 1) all) in
          let Q : List ListedStep → Type 0 = λ xs. IsSoFar old (drop i (times m)) xs in
          let R : List TimeStep → Type 0 = λ ts. IsSoFar old (drop i ts) (step_in all i ∷ drop (i + 1) all) in
          let S : List TimeStep → Type 0 = λ ts. IsSoFar old (get_or items i d ∷ drop (i + 1) ts) (step_in all i ∷ drop (i + 1) all) in
          subst S is (subst P (drop_more items i d below) (subst R (sym is) (subst Q (drop_more all i _ (step_there below)) f)))

      pub grid_here : AreGridHeads m (step_in all i).heads
      grid_here = grid_of m (step_in all i) at_step.listed.0.0

      pub flows_here : AreFlows (pairs_in m zones at.period) (step_in all i).zones
      flows_here = at_step.listed.0.1

      pub time_here : Contains (times m) at
      time_here = All-head (Contains (times m)) at (drop (i + 1) (times m)) at_step.left

      pub goes_here : Passes m w s zones at old (step_in all i) → IsSoFar (step_in all i).heads (drop (i + 1) (times m)) (drop (i + 1) all)
      goes_here passes = record {
        grid = grid_here;
        goes_on = λ end h. at_step.goes_on end (inl (passes, h));
        left = All-tail (Contains (times m)) at (drop (i + 1) (times m)) at_step.left;
        listed = at_step.listed.1;
      }

      stops_by : (e : GentleFault) (v : GentleVerdict) → StepFailsBy m w s zones at old (step_in all i) e → IsVerdictAt at e v → StopsAt m w s zones at old (step_in all i) v
      stops_by (fault.Steep c) v h is_v = let P : GentleVerdict → Type 0 = StopsAt m w s zones at old (step_in all i) in subst P (sym is_v) (refl, h)
      stops_by (fault.Fails place) v h is_v = let P : GentleVerdict → Type 0 = StopsAt m w s zones at old (step_in all i) in subst P (sym is_v) (refl, h)
      stops_by (fault.Refused n) v h is_v = let P : GentleVerdict → Type 0 = StopsAt m w s zones at old (step_in all i) in subst P (sym is_v) (refl, h)
      stops_by fault.Memory v h is_v = absurd is_v

      pub stops_here : (e : GentleFault) (v : GentleVerdict) → StepFailsBy m w s zones at old (step_in all i) e → IsVerdictAt at e v → IsVerdict m w s zones all v
      stops_here e v h is_v = at_step.goes_on v (inr (stops_by e v h is_v))
