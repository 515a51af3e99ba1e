-- A plan's listing has what flows more between each two zones that share a face: the problem of the differences has the faces of the base plan's problem.
use Rattle.plan_run.proofs.Common.{List, Ok, [], ap, arith, inl, inr, length, map, refl, subst, suc, sym, ℕ, ℤ, ◌++◌, ◌<◌, ◌∙◌, ◌∷◌, ◌≡◌, Option, None, Some, get_or, cases_lt, All-cons, All-nil}
use Rattle.plan_run.proofs.Common.{append-nil, get_or_past, All, Bound, Entries, entries_at, no_entries, TimeStep, times, IsDifferenceProblem, difference_cell, drain_branch, evap_branch, known_branch}
use Rattle.plan_run.proofs.Common.{river_branch, PlanHeads, PlanSolved, PlanTask, IsPlanStep, IsPlanTask, PlanFlows, rise, sources_of, zones_of, flows_of, ListedPlanStep, FirstSteps, IsListedStep}
use Rattle.plan_run.proofs.Common.{ListsMore, StepsThen, heads_listed, flat_map}
use Rattle.std.proofs.lemmas.Grind.{flat_map-append}
use Rattle.step_problem.specs.{declared.entry.Fixed.Fixed, declared.entry.FixedKind.FixedKind, declared.entry.FixedKind.TheVariants.General, declared.entry.Link.Link, declared.place.ZoneFlow.ZoneFlow}
use Rattle.zone_flows.specs.{faces_by_kind, fixed_faces, link_faces, cell_faces, face_from, faces, zone_flows}
use Rattle.zone_pairs.specs.{pairs_in, zones_of_flow}
use Rattle.listing_run.specs.{flows_or_large}
use Rattle.check_run.proofs.FlowPairs.{flows_have_pairs}
use Rattle.plan_step.specs.{bound_at}
use Rattle.plan_gains.proofs.Values.{ok_or, then_is}

-- lists of images, item by item
images_same : {X Y : Type 0} (d : X) (f g : X → List Y) (xs ys : List X) → length xs ≡ length ys → ((i : ℕ) → i < length xs → f (get_or xs i d) ≡ g (get_or ys i d)) →
    flat_map f xs ≡ flat_map g ys
images_same d f g [] [] many each = refl
images_same d f g [] (y ∷ ys) many each = absurd (omega (arith, many))
images_same d f g (x ∷ xs) [] many each = absurd (omega (arith, many))
images_same d f g (x ∷ xs) (y ∷ ys) many each =
    let here = each 0 (omega arith) in
    let rest = images_same d f g xs ys (omega (arith, many)) (λ i lt. each (suc i) (omega (arith, lt))) in
    λ i. here i ++ rest i

module _ (zones : List ℕ) (l u : ℕ → ℤ) where
  -- a branch to a general head has no face
  no_face : (c : Entries) (x : Fixed) → x.kind ≡ General → fixed_faces zones l u c x ≡ []
  no_face c x general = ap (λ (k : FixedKind). faces_by_kind zones l u k c.id x.source x.lo x.hi) general

  no_faces : {R : Type 0} (c : Entries) (f : R → Fixed) → ((r : R) → (f r).kind ≡ General) → (rs : List R) → flat_map (fixed_faces zones l u c) (map f rs) ≡ []
  no_faces c f general [] = refl
  no_faces c f general (r ∷ rs) = rw (no_face c (f r) (general r), no_faces c f general rs) refl

  known_faces : (b c : Entries) (old : Bound) → c.id ≡ b.id → (xs : List Fixed) → flat_map (fixed_faces zones l u c) (map (known_branch old) xs) ≡
      flat_map (fixed_faces zones l u b) xs
  known_faces b c old same [] = refl
  known_faces b c old same (x ∷ xs) =
      let here = ap (λ (n : ℕ). faces_by_kind zones l u x.kind n x.source x.lo x.hi) same in
      let rest = known_faces b c old same xs in
      λ i. here i ++ rest i

  module _ (base planned : List Entries) (xs ys olds : List Bound) (p : List Entries) (is : IsDifferenceProblem base planned xs ys olds p) where
    ids_same : (c : ℕ) → (entries_at p c).id ≡ (entries_at base c).id
    ids_same c = elim (cases_lt c (length base)) [
      | inl inside ↦ ap (λ (x : Entries). x.id) (is.cells c inside)
      | inr past ↦ ap (λ (x : Entries). x.id) (get_or_past p c no_entries (omega (arith, past, is.as_many)) ∙ sym (get_or_past base c no_entries past))
    ]

    fixed_same : (x y old : Bound) (b q : Entries) → flat_map (fixed_faces zones l u (difference_cell x y old b q)) (difference_cell x y old b q).fixed ≡
        flat_map (fixed_faces zones l u b) b.fixed
    fixed_same x y old b q =
        let c = difference_cell x y old b q in
        let f = fixed_faces zones l u c in
        let known = map (known_branch old) b.fixed in
        let rivers = map (river_branch b.id x y) b.rivers in
        let drains = map (drain_branch b.id x y) b.drains in
        let evaps = map (evap_branch b.id x y) b.evaps in
        flat_map-append f known (rivers ++ (drains ++ evaps)) ∙ rw (
          flat_map-append f rivers (drains ++ evaps),
          flat_map-append f drains evaps,
          no_faces c (river_branch b.id x y) (λ r. refl) b.rivers,
          no_faces c (drain_branch b.id x y) (λ r. refl) b.drains,
          no_faces c (evap_branch b.id x y) (λ r. refl) b.evaps,
        ) (append-nil (flat_map f known)) ∙ known_faces b c old refl b.fixed

    cell_same : (c : ℕ) → c < length p → cell_faces zones l u p (entries_at p c) ≡ cell_faces zones l u base (entries_at base c)
    unfolding cell_faces
    cell_same c lt =
        let b = entries_at base c in
        let x = bound_at xs c in
        let y = bound_at ys c in
        let old = bound_at olds b.id in
        let q = entries_at planned c in
        let links : flat_map (link_faces zones l u p (difference_cell x y old b q)) b.links ≡ flat_map (link_faces zones l u base b) b.links = λ i.
        flat_map (λ (z : Link). face_from zones l u b.id (ids_same z.cell i) z.lo z.hi) b.links in
        let fixed = fixed_same x y old b q in
        ap (cell_faces zones l u p) (is.cells c (omega (arith, lt, is.as_many))) ∙ (λ i. links i ++ fixed i)

    pub faces_same : faces zones l u p ≡ faces zones l u base
    unfolding faces
    faces_same = images_same no_entries (cell_faces zones l u p) (cell_faces zones l u base) p base is.as_many cell_same

module _ (k : PlanTask) (task : IsPlanTask k) (at : TimeStep) (old : PlanHeads) (v : PlanSolved) (step : IsPlanStep k at old v) where
  abbrev heads : List Bound
  heads = map rise v.differences.heads

  flows_same : (zones : Option (List ℕ)) → flows_or_large v.differences.problem heads zones ≡ flows_or_large v.base.problem heads zones
  flows_same None = refl
  flows_same (Some zones) =
      ap zone_flows (faces_same zones _ _ v.base.problem v.planned.problem v.base.bounds v.planned.bounds old.differences v.differences.problem step.differences.problem)

  zones_listed : (flows : List ZoneFlow) → zones_of v k.zones ≡ Ok flows → map zones_of_flow flows ≡ pairs_in k.base.first k.zones at.period
  zones_listed flows are =
      flows_have_pairs k.base k.digits at old.base v.base.problem task.base step.base.posed.problem heads k.zones flows (sym (flows_same k.zones) ∙ are)

  pub flows_listed : (x : PlanFlows) → flows_of v k.zones ≡ Ok x → map zones_of_flow x.zones ≡ pairs_in k.base.first k.zones at.period
  unfolding flows_of
  flows_listed x is =
      let (terms, rest, are) = then_is (sources_of v) (λ ts. Rattle.budget_bounds.specs.◌>>=◌ (zones_of v k.zones) (λ vs. Ok (record { sources = record { terms = ts }; zones = vs }))) x is in
      let (vs, whole, zone_flows_are) = then_is (zones_of v k.zones) (λ vs. Ok (record { sources = record { terms = terms }; zones = vs })) x rest in
      let P : PlanFlows → Type 0 = λ y. map zones_of_flow y.zones ≡ pairs_in k.base.first k.zones at.period in
      subst P (ap (ok_or x) whole) (zones_listed vs zone_flows_are)

module _ (k : PlanTask) (task : IsPlanTask k) where
  abbrev Lists : ListedPlanStep → Type 0
  Lists = ListsMore k.base.first k.zones

  step_lists : (at : TimeStep) (old : PlanHeads) (x : ListedPlanStep) → IsListedStep k at old x → Lists x
  step_lists at old x h = subst Lists (sym h.is) (flows_listed k task at old h.solved h.solves h.flows h.are)

  steps_list : (Then : PlanHeads → List TimeStep → Type 0) (old : PlanHeads) (ats : List TimeStep) (values : List ListedPlanStep) → StepsThen k Then old ats values →
      All Lists values
  steps_list Then old ats [] h = All-nil Lists
  steps_list Then old [] (x ∷ xs) h = absurd h
  steps_list Then old (at ∷ ats) (x ∷ xs) h = All-cons Lists x xs (step_lists at old x h.0) (steps_list Then (heads_listed x) ats xs h.1)

  pub listing_lists : (Then : PlanHeads → List TimeStep → Type 0) (values : List ListedPlanStep) → FirstSteps k Then values → All Lists values
  listing_lists Then values all = steps_list Then all.start (times k.base.first) values all.steps
