-- A check, step by step.
use Rattle.check_run.proofs.Common.{Limits, All, Contains, ◌≡◌, ℕ, suc, List, [], ◌∷◌, ◌+◌, ◌<◌, ◌≤◌, subst, sym, ap, refl, arith, ◌∙◌, inl, inr, drop, length, get_or, Option, AllZip, All-head}
use Rattle.check_run.proofs.Common.{All-tail, All-contains_itself, drop_more, drop_all, Bound, ZoneFlow, TimeStep, times, AreGridHeads, pairs_in, ListedStep, AreFlows, IsListedAt, AreListed}
use Rattle.check_run.proofs.Common.{AllZip-length, IsListedStep, step_in, BoundsMoves, CheckFault, ListingVerdict, Certified, Fails, Refused, FailsBy, IsVerdictAt, heads_before, Passes, Checks}
use Rattle.check_run.proofs.Common.{StopsAt, IsVerdict, ListingEncloses, checked_task, step_of, steps_of, Decks, AreDecks, EnclosesStarts, HaveOneHistory, histories_bound, AreStartHeadsFor}
use Rattle.check_run.proofs.{Passed.ArePassed, Passed.all_move, Passed.have_one, RunText.grid_of}
use Rattle.check_run.specs.declared.listing.CheckFault.TheVariants as fault

-- what holds of the heads before a step and of the step, as they were lent
pub lent_step : (P : List Bound → ListedStep → Type 0) (old olds heads : List Bound) (flows : List ZoneFlow) (w x : ListedStep) → old ≡ olds → w ≡ x → heads ≡ w.heads → flows ≡ w.zones →
    P old (record { heads = heads; budget = w.budget; zones = flows }) → P olds x
lent_step P old olds heads flows w x is same is_heads are_flows h = grind (arith)

-- a step for each time
steps_many : (ats : List TimeStep) (ws : List ListedStep) → length ws ≡ length ats → length ats ≡ length (steps_of ats ws)
steps_many [] ws e = refl
steps_many (at ∷ ats) [] e = absurd (omega (arith, e))
steps_many (at ∷ ats) (w ∷ ws) e = let rest = steps_many ats ws (omega (arith, e)) in omega (arith, rest)

module _ (limits : Limits) (ds : Decks) (s : ℕ) (zones : Option (List ℕ)) (all : List ListedStep) where
  -- The check got so far: from the heads of the last step on, what holds of the rest holds of all. The times left are times of
  -- the decks, and their steps can be listed.
  pub record IsSoFar (old : List Bound) (rest : List TimeStep) (steps : List ListedStep) : Type 0 where
    pub grid : AreGridHeads ds.first old
    pub goes_on : (end : ListingVerdict) → Checks limits ds s zones old rest steps end → IsVerdict limits ds s zones all end
    pub start : List Bound
    pub starts : EnclosesStarts ds start
    pub passed : ArePassed limits ds s zones old rest steps → ArePassed limits ds s zones start (times ds.first) all
    pub left : All (Contains (times ds.first)) rest
    pub listed : AllZip (IsListedAt ds.first (pairs_in ds.first zones)) rest steps

  whole_of : AreListed ds.first (pairs_in ds.first zones) all → length all ≡ length (times ds.first)
  whole_of listed = sym (AllZip-length (IsListedAt ds.first (pairs_in ds.first zones)) (times ds.first) all listed.steps)

  pub step_there : (i : ℕ) (items : List TimeStep) → items ≡ times ds.first → AreListed ds.first (pairs_in ds.first zones) all → i < length items → i < length all
  step_there i items is listed below = omega (arith, below, ap length is, whole_of listed)

  pub at_first : (start : List Bound) → AreStartHeadsFor ds start → AreGridHeads ds.first start → EnclosesStarts ds start →
      AreListed ds.first (pairs_in ds.first zones) all → IsSoFar start (times ds.first) all
  at_first start is grid encloses listed = record {
    grid = grid;
    goes_on = λ end h. record { start = start; is_start = is; checks = h };
    start = start;
    starts = encloses;
    passed = λ h. h;
    left = All-contains_itself (times ds.first);
    listed = listed.steps;
  }

  pub one_more : (old : List Bound) (at : TimeStep) (rest : List TimeStep) (w : ListedStep) (steps : List ListedStep) → IsSoFar old (at ∷ rest) (w ∷ steps) →
      AreGridHeads ds.first w.heads → Passes limits ds s zones at old w → BoundsMoves (checked_task ds s zones) at old (step_of at w) →
      IsSoFar w.heads rest steps
  one_more old at rest w steps f grid passes moves = record {
    grid = grid;
    goes_on = λ end h. f.goes_on end (inl (passes, h));
    start = f.start;
    starts = f.starts;
    passed = λ h. f.passed (record { time = All-head (Contains (times ds.first)) at rest f.left; grid = f.grid; passes = passes; moves = moves }, h);
    left = All-tail (Contains (times ds.first)) at rest f.left;
    listed = f.listed.1;
  }

  -- the step at hand is the first of the rest
  pub at_step : (old : List Bound) (i : ℕ) (items : List TimeStep) (d : TimeStep) → items ≡ times ds.first → AreListed ds.first (pairs_in ds.first zones) all →
      i < length items → IsSoFar old (drop i (times ds.first)) (drop i all) →
      IsSoFar old (get_or items i d ∷ drop (i + 1) (times ds.first)) (step_in all i ∷ drop (i + 1) all)
  at_step old i items d is listed below f =
      let P : List TimeStep → Type 0 = λ ts. IsSoFar old ts (step_in all i ∷ drop (i + 1) all) in
      let Q : List ListedStep → Type 0 = λ ws. IsSoFar old (drop i (times ds.first)) ws in
      let R : List TimeStep → Type 0 = λ ts. IsSoFar old (drop i ts) (step_in all i ∷ drop (i + 1) all) in
      let S : List TimeStep → Type 0 = λ ts. IsSoFar old (get_or items i d ∷ drop (i + 1) ts) (step_in all i ∷ drop (i + 1) all) in
      subst S is (subst P (drop_more items i d below) (subst R (sym is) (subst Q (drop_more all i _ (step_there i items is listed below)) f)))

  -- past the last step there is none
  at_end : (old : List Bound) (i : ℕ) (items : List TimeStep) → items ≡ times ds.first → AreListed ds.first (pairs_in ds.first zones) all → length items ≤ i →
      IsSoFar old (drop i (times ds.first)) (drop i all) → IsSoFar old [] []
  at_end old i items is listed above f =
      let past : length (times ds.first) ≤ i = omega (arith, above, ap length is) in
      let past_all : length all ≤ i = omega (arith, past, whole_of listed) in
      let Q : List ListedStep → Type 0 = λ ws. IsSoFar old (drop i (times ds.first)) ws in
      let R : List TimeStep → Type 0 = λ ts. IsSoFar old ts [] in
      subst R (drop_all i (times ds.first) past) (subst Q (drop_all i all past_all) f)

  pub ends_certified : (old : List Bound) (i : ℕ) (items : List TimeStep) → items ≡ times ds.first → AreListed ds.first (pairs_in ds.first zones) all →
      length items ≤ i → IsSoFar old (drop i (times ds.first)) (drop i all) → IsVerdict limits ds s zones all Certified
  ends_certified old i items is listed above f = (at_end old i items is listed above f).goes_on Certified tt

  pub ends_enclosed : (old : List Bound) (i : ℕ) (items : List TimeStep) → items ≡ times ds.first → AreListed ds.first (pairs_in ds.first zones) all →
      length items ≤ i → IsSoFar old (drop i (times ds.first)) (drop i all) → ListingEncloses ds s zones all
  ends_enclosed old i items is listed above f =
      let end = at_end old i items is listed above f in
      histories_bound (checked_task ds s zones) ds.first ds.second end.start (steps_of (times ds.first) all) (steps_many (times ds.first) all (whole_of listed))
      (all_move limits ds s zones end.start (times ds.first) all (end.passed tt)) end.starts

  pub ends_history : AreDecks ds → (old : List Bound) (i : ℕ) (items : List TimeStep) → items ≡ times ds.first →
      AreListed ds.first (pairs_in ds.first zones) all → length items ≤ i → IsSoFar old (drop i (times ds.first)) (drop i all) → HaveOneHistory ds
  ends_history valid old i items is listed above f =
      let end = at_end old i items is listed above f in
      have_one limits ds.first ds.second s zones valid end.start all end.starts (end.passed tt)

  stops_by : (at : TimeStep) (old : List Bound) (w : ListedStep) (f : CheckFault) (v : ListingVerdict) → FailsBy limits ds s zones at old w f →
      IsVerdictAt at f v → StopsAt limits ds s zones at old w v
  stops_by at old w (fault.Fails place) v h is = let P : ListingVerdict → Type 0 = StopsAt limits ds s zones at old w in subst P (sym is) (refl, h)
  stops_by at old w (fault.Refused n) v h is = let P : ListingVerdict → Type 0 = StopsAt limits ds s zones at old w in subst P (sym is) (refl, h)
  stops_by at old w fault.Memory v h is = absurd is

  pub ends_by : (old : List Bound) (at : TimeStep) (rest : List TimeStep) (w : ListedStep) (steps : List ListedStep) (f : CheckFault) (v : ListingVerdict) →
      IsSoFar old (at ∷ rest) (w ∷ steps) → FailsBy limits ds s zones at old w f → IsVerdictAt at f v → IsVerdict limits ds s zones all v
  ends_by old at rest w steps f v so_far h is = so_far.goes_on v (inr (stops_by at old w f v h is))

  -- One step of the loop, from what was lent to the check of the step.
  module _ (start : List Bound) (i : ℕ) (items : List TimeStep) (d : TimeStep) (is : items ≡ times ds.first)
      (listed : AreListed ds.first (pairs_in ds.first zones) all) (below : i < length items)
      (f : IsSoFar (heads_before start all i) (drop i (times ds.first)) (drop i all))
      (n : ℕ) (digits : n ≡ s) (old : List Bound) (w : ListedStep) (heads : List Bound) (flows : List ZoneFlow) (old_is : old ≡ heads_before start all i)
      (w_is : w ≡ step_in all i) (heads_are : heads ≡ w.heads) (flows_are : flows ≡ w.zones) where
    pub listed_at : IsListedStep ds.first (step_in all i)
    listed_at = (at_step (heads_before start all i) i items d is listed below f).listed.0.0

    pub flows_here : AreFlows (pairs_in ds.first zones (get_or items i d).period) flows
    flows_here =
        let F : List ZoneFlow → Type 0 = AreFlows (pairs_in ds.first zones (get_or items i d).period) in
        subst F (sym (flows_are ∙ ap (λ (x : ListedStep). x.zones) w_is)) (at_step (heads_before start all i) i items d is listed below f).listed.0.1

    pub stops_here : (fault : CheckFault) (v : ListingVerdict) →
        FailsBy limits ds n zones (get_or items i d) old (record { heads = heads; budget = w.budget; zones = flows }) fault →
        IsVerdictAt (get_or items i d) fault v → IsVerdict limits ds s zones all v
    stops_here fault v h verdict =
        let D : ℕ → Type 0 = λ k. FailsBy limits ds k zones (get_or items i d) old (record { heads = heads; budget = w.budget; zones = flows }) fault in
        let P : List Bound → ListedStep → Type 0 = λ o x. FailsBy limits ds s zones (get_or items i d) o x fault in
        ends_by (heads_before start all i) (get_or items i d) (drop (i + 1) (times ds.first)) (step_in all i) (drop (i + 1) all) fault v
        (at_step (heads_before start all i) i items d is listed below f)
        (lent_step P old (heads_before start all i) heads flows w (step_in all i) old_is w_is heads_are flows_are (subst D digits h)) verdict

    pub goes_here : Passes limits ds n zones (get_or items i d) old (record { heads = heads; budget = w.budget; zones = flows }) →
        BoundsMoves (checked_task ds n zones) (get_or items i d) old (step_of (get_or items i d) (record { heads = heads; budget = w.budget; zones = flows })) →
        IsSoFar (heads_before start all (i + 1)) (drop (i + 1) (times ds.first)) (drop (i + 1) all)
    goes_here passes moves =
        let D : ℕ → Type 0 = λ k. Passes limits ds k zones (get_or items i d) old (record { heads = heads; budget = w.budget; zones = flows }) ×
        BoundsMoves (checked_task ds k zones) (get_or items i d) old
        (step_of (get_or items i d) (record { heads = heads; budget = w.budget; zones = flows })) in
        let P : List Bound → ListedStep → Type 0 = λ o x. Passes limits ds s zones (get_or items i d) o x × BoundsMoves (checked_task ds s zones) (get_or items i d) o (step_of (get_or items i d) x) in
        let h = lent_step P old (heads_before start all i) heads flows w (step_in all i) old_is w_is heads_are flows_are (subst D digits (passes, moves)) in
        let Q : ℕ → Type 0 = λ k. IsSoFar (heads_before start all k) (drop (i + 1) (times ds.first)) (drop (i + 1) all) in
        let next : suc i ≡ i + 1 = omega arith in
        subst Q next (one_more (heads_before start all i) (get_or items i d) (drop (i + 1) (times ds.first)) (step_in all i) (drop (i + 1) all)
        (at_step (heads_before start all i) i items d is listed below f) (grid_of ds.first (step_in all i) listed_at) h.0 h.1)

-- a fault makes no verdict that all is certified
pub not_certified : (at : TimeStep) (f : CheckFault) (v : ListingVerdict) → IsVerdictAt at f v → v ≡ Certified → ⊥
not_certified at (fault.Fails place) v is e = let bad : Fails at place ≡ Certified = sym is ∙ e in cc
not_certified at (fault.Refused n) v is e = let bad : Refused at n ≡ Certified = sym is ∙ e in cc
not_certified at fault.Memory v is e = is
