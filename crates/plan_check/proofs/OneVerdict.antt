-- A plan's listing has one verdict.
use Rattle.plan_check.proofs.Common.{List, [], ◌∷◌, Ok, Err, Result, Contains, ap, inl, inr, refl, subst, sym, ℕ, ◌∙◌, ◌≡◌, ◌≢◌, ◌⊎◌, AllZip, Bound, Side, Entries, Edges, IsCertificate, IsProblem}
use Rattle.plan_check.proofs.Common.{lower_at, upper_at, Covers, IsFirstUncovered, Limits, TimeStep, cell_count, times, ConstantPairIsOne, IsBefore, Solved, HasNoBarrier, HasNoPose, IsBarrierBy}
use Rattle.plan_check.proofs.Common.{first_in, cut_by, pairs_in, CoversFlow, FailAt, IsFirstNarrow, a_problem, cells_fail_once, certified_never_fail, checked_never_fails, checked_never_refused}
use Rattle.plan_check.proofs.Common.{checked_one, fails_never_refused, fails_one, refusals_one, PlanHeads, PlanSolved, PlanTask, AreByCell, ArePlanHeads, IsPlanTask, IsTheirProblem, times_planned}
use Rattle.plan_check.proofs.Common.{starts_are_heads, PlanFlows, ListedPlanStep, IsListedPlanStep, heads_listed, PlanListingVerdict, Certified, Fails, Refused, ArePosed, BaseHolds, Checks}
use Rattle.plan_check.proofs.Common.{DifferenceFailsAt, DifferencesHold, FailsAt, FlowFailsAt, HaveNoBarrier, HeadsHold, IsRefused, Passes, PlanVerdictIsOne, PlannedHolds, ReachesZero, StopsAt}
use Rattle.plan_check.proofs.Common.{as_budget, at_source, at_zones, in_base, in_differences, in_flows, in_planned, of_base, of_differences, of_flows, of_planned, place_in}
use Rattle.step_problem.specs.{declared.place.Dir.Dir, declared.place.NoBound.NoBound, declared.place.Place.Place, declared.place.Term.Term}
use Rattle.model_types.specs.declared.limits.Limits.TheVariants.{Plain, Wide}
use Rattle.listing_run.proofs.Unique.{IsRest, rest_more, rest_whole}
use Rattle.check_run.proofs.{Firsts.narrow_one, Firsts.never_narrow, Firsts.term_one, OneVerdict.Laws}
use Rattle.plan_run.proofs.{OneListing.starts_once, OneStep.by_cell_one, OneStep.one_problem, OneStep.their_problem_fits}
use Rattle.plan_chain.specs.declared.step.PlanPart.{PlanPart}
use Rattle.plan_listing.specs.declared.last_lines.PlanPlace.{PlanPlace}
use Rattle.plan_check.proofs.Listed.{listed_fit}
use Rattle.plan_chain.specs.declared.step.PlanPart.TheVariants as parts
unfoldable use Rattle.plan_sources.specs.{flows_of}
use Rattle.plan_listing.specs.declared.last_lines.PlanPlace.TheVariants as places

-- what the check of one step says
data Said : Type 0 where
  passed : Said
  failed : PlanPlace → Said
  refused : PlanPart → NoBound → Said

-- A part of a step has a refusal, or fails at a cell, or holds.
module _ (R : NoBound → Type 0) (F : ℕ → Side → Type 0) (H : Solved → Type 0) where
  -- one of the three, and one such
  record AreApart : Type 0 where
    one_refusal : (a b : NoBound) → R a → R b → b ≡ a
    one_cell : (c d : ℕ) (x y : Side) → F c x → F d y → (d ≡ c) × (y ≡ x)
    one_step : (x y : Solved) → H x → H y → y ≡ x
    no_cell : (c : ℕ) (side : Side) (n : NoBound) → F c side → R n → ⊥
    no_step : (x : Solved) (n : NoBound) → H x → R n → ⊥
    holds : (x : Solved) (c : ℕ) (side : Side) → H x → F c side → ⊥

  -- what is said of a step by this part; where it holds, by the parts after it
  module _ (part : PlanPart) (C : Solved → Said → Type 0) where
    abbrev ByPart : Said → Type 0
    ByPart o =
        ((n : NoBound) × R n × (o ≡ refused part n))
        ⊎ (((c : ℕ) × (side : Side) × F c side × (o ≡ failed (places.Cell part c side))) ⊎ ((x : Solved) × H x × C x o))

    part_one : AreApart → ((x : Solved) → H x → (o q : Said) → C x o → C x q → o ≡ q) → (o q : Said) → ByPart o → ByPart q → o ≡ q
    part_one a go_on o q (inl (n, r, e)) (inl (m, s, f)) = e ∙ ap (refused part) (a.one_refusal m n s r) ∙ sym f
    part_one a go_on o q (inl (n, r, e)) (inr (inl (c, side, f, g))) = absurd (a.no_cell c side n f r)
    part_one a go_on o q (inl (n, r, e)) (inr (inr (x, h, k))) = absurd (a.no_step x n h r)
    part_one a go_on o q (inr (inl (c, side, f, e))) (inl (n, r, g)) = absurd (a.no_cell c side n f r)
    part_one a go_on o q (inr (inl (c, side, f, e))) (inr (inl (d, other, g, h))) =
        let (cells, sides) = a.one_cell d c other side g f in
        e ∙ ap (λ i. failed (places.Cell part i side)) cells ∙ ap (λ z. failed (places.Cell part d z)) sides ∙ sym h
    part_one a go_on o q (inr (inl (c, side, f, e))) (inr (inr (y, h, k))) = absurd (a.holds y c side h f)
    part_one a go_on o q (inr (inr (x, h, k))) (inl (n, r, e)) = absurd (a.no_step x n h r)
    part_one a go_on o q (inr (inr (x, h, k))) (inr (inl (c, side, f, e))) = absurd (a.holds x c side h f)
    part_one a go_on o q (inr (inr (x, h, k))) (inr (inr (y, j, l))) =
        let P : Solved → Type 0 = λ z. C z o in
        go_on y j o q (subst P (sym (a.one_step x y h j)) k) l

-- a problem with a barrier by limits has no refusal by them, and at most one
barrier_apart : Laws → (limits : Limits) (p : List Entries) (b : Edges) (n : NoBound) → IsProblem p → IsBarrierBy limits p b → HasNoBarrier limits p n → ⊥
barrier_apart laws Plain p b n = laws.barrier_excludes p b n
barrier_apart laws Wide p b n = laws.cut_excludes p b n

barrier_refusal : Laws → (limits : Limits) (p : List Entries) (a b : NoBound) → HasNoBarrier limits p a → HasNoBarrier limits p b → a ≡ b
barrier_refusal laws Plain p a b = laws.barrier_refusal_one p a b
barrier_refusal laws Wide p a b = laws.cut_refusal_one p a b

-- The differences of two plans' steps are refused, or fail, or hold.
module _ (laws : Laws) (k : PlanTask) (at : TimeStep) (x y : Solved) (olds listed : List Bound)
    (fits : (p : List Entries) → IsTheirProblem k.limits x y olds p → IsProblem p) where
  same : (p q : List Entries) → IsTheirProblem k.limits x y olds p → IsTheirProblem k.limits x y olds q → q ≡ p
  same p q h g = one_problem x.problem y.problem x.bounds y.bounds olds q p g h

  posed_one : (p q : List Entries) (b c : Edges) → ArePosed k at x y olds listed p b → ArePosed k at x y olds listed q c → (q ≡ p) × (c ≡ b)
  posed_one p q b c h g =
      let problems : q ≡ p = same p q h.problem g.problem in
      let B : List Entries → Type 0 = λ z. IsBarrierBy k.limits z c in
      (problems, laws.barrier_one p c b (fits p h.problem) (cut_by k.limits p c (subst B problems g.barrier)) (cut_by k.limits p b h.barrier))

  -- the problem of the one has the barrier, that of the other none
  refused_apart : (p q : List Entries) (b : Edges) (n : NoBound) → ArePosed k at x y olds listed p b → IsTheirProblem k.limits x y olds q → HasNoBarrier k.limits q n → ⊥
  refused_apart p q b n h is none =
      let R : List Entries → Type 0 = λ z. HasNoBarrier k.limits z n in
      barrier_apart laws k.limits p b n (fits p h.problem) h.barrier (subst R (same p q h.problem is) none)

  one_refusal : (a b : NoBound) → HaveNoBarrier k at x y olds listed a → HaveNoBarrier k at x y olds listed b → b ≡ a
  one_refusal a b (p, is, r) (q, also, s) =
      let R : List Entries → Type 0 = λ z. HasNoBarrier k.limits z b in
      barrier_refusal laws k.limits p b a (subst R (same p q is also) s) r

  no_cell : (c : ℕ) (side : Side) (n : NoBound) → DifferenceFailsAt k at x y olds listed c side → HaveNoBarrier k at x y olds listed n → ⊥
  no_cell c side n f (q, is, r) =
      let (p, b, posed) = a_problem k.base at listed (ReachesZero listed) (ArePosed k at x y olds listed) posed_one c side f in
      refused_apart p q b n posed is r

  is_posed : (v : Solved) (h : DifferencesHold k at x y olds listed v) → ArePosed k at x y olds listed v.problem h.differences.barrier
  is_posed v h = record { problem = h.differences.problem; barrier = h.differences.of_problem }

  no_step : (v : Solved) (n : NoBound) → DifferencesHold k at x y olds listed v → HaveNoBarrier k at x y olds listed n → ⊥
  no_step v n h (q, is, r) = refused_apart v.problem q h.differences.barrier n (is_posed v h) is r

  holds : (v : Solved) (c : ℕ) (side : Side) → DifferencesHold k at x y olds listed v → DifferenceFailsAt k at x y olds listed c side → ⊥
  holds v c side h f =
      let R : List Bound → Type 0 = λ bs. IsCertificate v.problem h.differences.barrier (lower_at bs) (upper_at bs) in
      certified_never_fail k.base at listed (ReachesZero listed) (ArePosed k at x y olds listed) posed_one v.problem h.differences.barrier (is_posed v h) h.constants
      (subst R h.listed_bounds h.differences.certificate) c side f

  one_step : (v w : Solved) → DifferencesHold k at x y olds listed v → DifferencesHold k at x y olds listed w → w ≡ v
  one_step v w h g =
      let problems : w.problem ≡ v.problem = same v.problem w.problem h.differences.problem g.differences.problem in
      let bounds : w.bounds ≡ v.bounds = g.listed_bounds ∙ sym h.listed_bounds in
      let P : List Entries → Type 0 = λ p. AreByCell (cell_count k.base.first.grid) p w.bounds w.heads in
      let Q : List Bound → Type 0 = λ bs. AreByCell (cell_count k.base.first.grid) v.problem bs w.heads in
      let heads : w.heads ≡ v.heads =
      by_cell_one (cell_count k.base.first.grid) v.problem v.bounds w.heads v.heads (subst Q bounds (subst P problems g.differences.heads)) h.differences.heads in
      λ i. record { problem = problems i; bounds = bounds i; heads = heads i }

  differences_apart : AreApart (HaveNoBarrier k at x y olds listed) (DifferenceFailsAt k at x y olds listed) (DifferencesHold k at x y olds listed)
  differences_apart = record {
    one_refusal = one_refusal;
    one_cell = cells_fail_once k.base at listed (ReachesZero listed) (ArePosed k at x y olds listed) posed_one;
    one_step = one_step;
    no_cell = no_cell;
    no_step = no_step;
    holds = holds;
  }

-- a result is one of the two, and one such
abbrev the_flows : PlanFlows → Result PlanFlows NoBound → PlanFlows
the_flows f (Ok x) = x
the_flows f (Err n) = f

abbrev the_refusal : NoBound → Result PlanFlows NoBound → NoBound
the_refusal n (Ok x) = n
the_refusal n (Err m) = m

flows_one : (a b : PlanFlows) → Path (Result PlanFlows NoBound) (Ok a) (Ok b) → a ≡ b
flows_one a b e = ap (the_flows a) e

refusal_one : (a b : NoBound) → Path (Result PlanFlows NoBound) (Err a) (Err b) → a ≡ b
refusal_one a b e = ap (the_refusal a) e

flows_apart : (a : PlanFlows) (n : NoBound) → Path (Result PlanFlows NoBound) (Ok a) (Err n) → ⊥
flows_apart a n e = cc

module _ (k : PlanTask) (at : TimeStep) (old : PlanHeads) (x : ListedPlanStep) where
  -- The tests of a step's flows in turn, each by its first failure or what holds of the rest.

  abbrev ByZones : PlanFlows → Said → Type 0
  ByZones f o = ((a : ℕ) × (b : ℕ) × IsFirstNarrow x.flows.zones f.zones a b × (o ≡ failed (places.Zone a b))) ⊎ (AllZip CoversFlow x.flows.zones f.zones × (o ≡ passed))

  abbrev BySources : PlanFlows → Said → Type 0
  BySources f o =
      ((dir : Dir) × (t : Term) × IsFirstUncovered (as_budget x.flows.sources) (as_budget f.sources) dir t × (o ≡ failed (places.Source t)))
      ⊎ (Covers (as_budget x.flows.sources) (as_budget f.sources) × ByZones f o)

  abbrev ByFlows : PlanSolved → Said → Type 0
  ByFlows v o =
      ((n : NoBound) × (flows_of v k.zones ≡ Err n) × (o ≡ refused parts.Differences n)) ⊎ ((f : PlanFlows) × (flows_of v k.zones ≡ Ok f) × BySources f o)

  zones_one : (f : PlanFlows) (o q : Said) → ByZones f o → ByZones f q → o ≡ q
  zones_one f o q (inl (a, b, i, e)) (inl (c, d, j, h)) =
      let same = narrow_one x.flows.zones f.zones a b c d i j in
      e ∙ ap (λ z. failed (places.Zone z b)) same.0 ∙ ap (λ z. failed (places.Zone c z)) same.1 ∙ sym h
  zones_one f o q (inl (a, b, i, e)) (inr (wide, h)) = absurd (never_narrow x.flows.zones f.zones a b i wide)
  zones_one f o q (inr (wide, e)) (inl (a, b, i, h)) = absurd (never_narrow x.flows.zones f.zones a b i wide)
  zones_one f o q (inr (wide, e)) (inr (also, h)) = e ∙ sym h

  sources_one : (f : PlanFlows) (o q : Said) → BySources f o → BySources f q → o ≡ q
  sources_one f o q (inl (d, t, i, e)) (inl (c, u, j, h)) =
      e ∙ ap (λ (p : Place). failed (place_in parts.Differences p)) (term_one (as_budget x.flows.sources) (as_budget f.sources) d c t u i j) ∙ sym h
  sources_one f o q (inl (d, t, i, e)) (inr (covers, h)) = absurd (i.short (covers d t))
  sources_one f o q (inr (covers, e)) (inl (d, t, i, h)) = absurd (i.short (covers d t))
  sources_one f o q (inr (covers, e)) (inr (also, h)) = zones_one f o q e h

  by_flows_one : (v : PlanSolved) (o q : Said) → ByFlows v o → ByFlows v q → o ≡ q
  by_flows_one v o q (inl (n, r, e)) (inl (m, s, h)) = e ∙ ap (refused parts.Differences) (refusal_one n m (sym r ∙ s)) ∙ sym h
  by_flows_one v o q (inl (n, r, e)) (inr (f, s, h)) = absurd (flows_apart f n (sym s ∙ r))
  by_flows_one v o q (inr (f, r, e)) (inl (n, s, h)) = absurd (flows_apart f n (sym r ∙ s))
  by_flows_one v o q (inr (f, r, e)) (inr (g, s, h)) = let P : PlanFlows → Type 0 = λ z. BySources z o in sources_one g o q (subst P (flows_one f g (sym r ∙ s)) e) h

  -- The three parts of a step.

  abbrev ByDifferences : Solved → Solved → Said → Type 0
  ByDifferences b p =
      ByPart (HaveNoBarrier k at b p old.differences x.differences) (DifferenceFailsAt k at b p old.differences x.differences)
      (DifferencesHold k at b p old.differences x.differences) parts.Differences (λ v. ByFlows (record { base = b; planned = p; differences = v }))

  abbrev ByPlanned : Solved → Said → Type 0
  ByPlanned b =
      ByPart (HasNoPose k.limits k.planned k.digits at old.planned) (FailAt k.limits k.planned k.digits at old.planned x.planned) (PlannedHolds k at old x)
      parts.Planned (λ p. ByDifferences b p)

  abbrev Says : Said → Type 0
  Says =
      ByPart (HasNoPose k.limits k.base k.digits at old.base) (FailAt k.limits k.base k.digits at old.base x.base) (BaseHolds k at old x)
      parts.Base ByPlanned

  -- What is defined of a step is said of it.

  holding : (v : PlanSolved) (o : Said) → HeadsHold k at old x v → ByFlows v o → Says o
  holding v o h f = inr (inr (v.base, h.base, inr (inr (v.planned, h.planned, inr (inr (v.differences, h.differences, f))))))

  passes_said : Passes k at old x → Says passed
  passes_said h = holding h.solved passed h.heads (inr (h.flows.flows, h.flows.sources.are, inr (h.flows.sources.covers, inr (h.flows.wide, refl))))

  flow_said : (v : PlanSolved) (place : PlanPlace) → FlowFailsAt k v x.flows place → ByFlows v (failed place)
  flow_said v place (at_source f dir t are i e) = inr (f, are, inl (dir, t, i, ap failed e))
  flow_said v place (at_zones f a b s i e) = inr (f, s.are, inr (s.covers, inl (a, b, i, ap failed e)))

  fails_said : (place : PlanPlace) → FailsAt k at old x place → Says (failed place)
  fails_said place (in_base c side f e) = inr (inl (c, side, f, ap failed e))
  fails_said place (in_planned b c side h f e) = inr (inr (b, h, inr (inl (c, side, f, ap failed e))))
  fails_said place (in_differences b p c side h j f e) = inr (inr (b, h, inr (inr (p, j, inr (inl (c, side, f, ap failed e))))))
  fails_said place (in_flows v h f) = holding v (failed place) h (flow_said v place f)

  refused_said : (part : PlanPart) (n : NoBound) → IsRefused k at old x part n → Says (refused part n)
  refused_said part n (of_base r e) = inl (n, r, ap (λ z. refused z n) e)
  refused_said part n (of_planned b h r e) = inr (inr (b, h, inl (n, r, ap (λ z. refused z n) e)))
  refused_said part n (of_differences b p h j r e) = inr (inr (b, h, inr (inr (p, j, inl (n, r, ap (λ z. refused z n) e)))))
  refused_said part n (of_flows v h r e) = holding v (refused part n) h (inl (n, r, ap (λ z. refused z n) e))

  -- One thing is said of a step.
  module _ (laws : Laws) (pair_one : ConstantPairIsOne) (task : IsPlanTask k) (time : Contains (times k.base.first) at) (fit : ArePlanHeads k old) where
    base_before : IsBefore k.base at old.base
    base_before = record { decks = task.base; time = time; heads = fit.base }

    planned_before : IsBefore k.planned at old.planned
    planned_before = record { decks = task.planned; time = times_planned k task at time; heads = fit.planned }

    base_apart : AreApart (HasNoPose k.limits k.base k.digits at old.base) (FailAt k.limits k.base k.digits at old.base x.base) (BaseHolds k at old x)
    base_apart = record {
      one_refusal = refusals_one k.limits k.base k.digits at old.base x.base laws base_before;
      one_cell = fails_one k.limits k.base k.digits at old.base x.base laws base_before;
      one_step = checked_one k.limits k.base k.digits at old.base x.base laws base_before pair_one;
      no_cell = fails_never_refused k.limits k.base k.digits at old.base x.base laws base_before;
      no_step = checked_never_refused k.limits k.base k.digits at old.base x.base laws base_before;
      holds = checked_never_fails k.limits k.base k.digits at old.base x.base laws base_before;
    }

    planned_apart : AreApart (HasNoPose k.limits k.planned k.digits at old.planned) (FailAt k.limits k.planned k.digits at old.planned x.planned)
        (PlannedHolds k at old x)
    planned_apart = record {
      one_refusal = refusals_one k.limits k.planned k.digits at old.planned x.planned laws planned_before;
      one_cell = fails_one k.limits k.planned k.digits at old.planned x.planned laws planned_before;
      one_step = checked_one k.limits k.planned k.digits at old.planned x.planned laws planned_before pair_one;
      no_cell = fails_never_refused k.limits k.planned k.digits at old.planned x.planned laws planned_before;
      no_step = checked_never_refused k.limits k.planned k.digits at old.planned x.planned laws planned_before;
      holds = checked_never_fails k.limits k.planned k.digits at old.planned x.planned laws planned_before;
    }

    fits : (b p : Solved) → BaseHolds k at old x b → PlannedHolds k at old x p → (q : List Entries) → IsTheirProblem k.limits b p old.differences q → IsProblem q
    fits b p h j q is =
        their_problem_fits laws.problem_fits k task at time old fit b.problem p.problem b.bounds p.bounds q h.step.posed.problem j.step.posed.problem is

    differences_one : (b p : Solved) → BaseHolds k at old x b → PlannedHolds k at old x p → (o q : Said) → ByDifferences b p o → ByDifferences b p q → o ≡ q
    differences_one b p h j o q =
        part_one (HaveNoBarrier k at b p old.differences x.differences) (DifferenceFailsAt k at b p old.differences x.differences)
        (DifferencesHold k at b p old.differences x.differences) parts.Differences (λ v. ByFlows (record { base = b; planned = p; differences = v }))
        (differences_apart laws k at b p old.differences x.differences (fits b p h j))
        (λ v held o q f g. by_flows_one (record { base = b; planned = p; differences = v }) o q f g) o q

    planned_one : (b : Solved) → BaseHolds k at old x b → (o q : Said) → ByPlanned b o → ByPlanned b q → o ≡ q
    planned_one b h o q =
        part_one (HasNoPose k.limits k.planned k.digits at old.planned) (FailAt k.limits k.planned k.digits at old.planned x.planned) (PlannedHolds k at old x)
        parts.Planned (λ p. ByDifferences b p) planned_apart (λ p j o q f g. differences_one b p h j o q f g) o q

    said_one : (o q : Said) → Says o → Says q → o ≡ q
    said_one o q =
        part_one (HasNoPose k.limits k.base k.digits at old.base) (FailAt k.limits k.base k.digits at old.base x.base) (BaseHolds k at old x) parts.Base ByPlanned
        base_apart (λ b h o q f g. planned_one b h o q f g) o q

  -- what a verdict at this step says
  abbrev told : Said → PlanListingVerdict
  told passed = Certified
  told (failed place) = Fails at place
  told (refused part n) = Refused at part n

  record Stopped (v : PlanListingVerdict) : Type 0 where
    said : Said
    says : Says said
    is : v ≡ told said
    stops : said ≢ passed

  stopped : (v : PlanListingVerdict) → StopsAt k at old x v → Stopped v
  stopped Certified h = absurd h
  stopped (Fails t place) (same, f) = record { said = failed place; says = fails_said place f; is = ap (λ z. Fails z place) same; stops = λ e. cc }
  stopped (Refused t part n) (same, r) = record { said = refused part n; says = refused_said part n r; is = ap (λ z. Refused z part n) same; stops = λ e. cc }

  module _ (laws : Laws) (pair_one : ConstantPairIsOne) (task : IsPlanTask k) (time : Contains (times k.base.first) at) (fit : ArePlanHeads k old) where
    stops_one : (a b : PlanListingVerdict) → StopsAt k at old x a → StopsAt k at old x b → a ≡ b
    stops_one a b h j =
        let y = stopped a h in
        let z = stopped b j in
        y.is ∙ ap told (said_one laws pair_one task time fit y.said z.said y.says z.says) ∙ sym z.is

    passes_excludes : (v : PlanListingVerdict) → Passes k at old x → StopsAt k at old x v → ⊥
    passes_excludes v h j = let y = stopped v j in y.stops (said_one laws pair_one task time fit y.said passed y.says (passes_said h))

module _ (laws : Laws) (pair_one : ConstantPairIsOne) (k : PlanTask) (task : IsPlanTask k) where
  checks_one : (old : PlanHeads) (rest : List TimeStep) (steps : List ListedPlanStep) (a b : PlanListingVerdict) → IsRest (times k.base.first) rest →
      ArePlanHeads k old → AllZip (λ at x. IsListedPlanStep k.base.first (pairs_in k.base.first k.zones at.period) at x) rest steps → Checks k old rest steps a →
      Checks k old rest steps b → a ≡ b
  checks_one old [] [] Certified Certified r fit l h j = refl
  checks_one old [] [] Certified (Fails t place) r fit l h j = absurd j
  checks_one old [] [] Certified (Refused t part n) r fit l h j = absurd j
  checks_one old [] [] (Fails t place) b r fit l h j = absurd h
  checks_one old [] [] (Refused t part n) b r fit l h j = absurd h
  checks_one old [] (x ∷ steps) a b r fit l h j = absurd h
  checks_one old (at ∷ rest) [] a b r fit l h j = absurd h
  checks_one old (at ∷ rest) (x ∷ steps) a b r fit l (inl (p, h)) (inl (q, j)) =
      checks_one (heads_listed x) rest steps a b (rest_more (times k.base.first) at rest r) (listed_fit k task at x _ l.0) l.1 h j
  checks_one old (at ∷ rest) (x ∷ steps) a b r fit l (inl (p, h)) (inr j) = absurd (passes_excludes k at old x laws pair_one task (r.each at (first_in at rest)) fit b p j)
  checks_one old (at ∷ rest) (x ∷ steps) a b r fit l (inr h) (inl (q, j)) = absurd (passes_excludes k at old x laws pair_one task (r.each at (first_in at rest)) fit a q h)
  checks_one old (at ∷ rest) (x ∷ steps) a b r fit l (inr h) (inr j) = stops_one k at old x laws pair_one task (r.each at (first_in at rest)) fit a b h j

pub verdicts_one : Laws → ConstantPairIsOne → PlanVerdictIsOne
verdicts_one laws pair_one k steps a b task quick listed x y =
    let P : PlanHeads → Type 0 = λ start. Checks k start (times k.base.first) steps b in
    checks_one laws pair_one k task x.start (times k.base.first) steps a b (rest_whole (times k.base.first))
    (starts_are_heads laws.start_fits k task x.start x.is_start) listed.steps x.checks
    (subst P (starts_once laws.start_one k task y.start x.start y.is_start x.is_start) y.checks)
