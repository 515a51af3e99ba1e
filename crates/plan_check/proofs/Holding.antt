-- What holds, or fails, of a step, by what the calls of its check gave.
use Rattle.plan_check.proofs.Common.{List, map, refl, subst, sym, ap, ℕ, ◌∙◌, ◌≡◌, Bound, Side, Entries, Edges, IsCertificate, entries_at, lower_at, upper_at, AreWords, TimeStep, cell_count}
use Rattle.plan_check.proofs.Common.{variable_cells, bound_at, Solved, IsBarrierBy, IsBarrierFault, AllReach, HeadsFailBy, IsFirstUnreached, failing, short, variable_bounds, edges_certify, bounds_are}
use Rattle.plan_check.proofs.Common.{IsDifferenceProblem, PlanHeads, PlanSolved, PlanTask, AreByCell, ListedPlanStep, PlanCheckFault, ArePosed, BaseHolds, DifferencesFailBy, DifferencesHold, FailsBy}
use Rattle.plan_check.proofs.Common.{FlowsFailBy, HeadsHold, PlannedHolds, ReachesZero, in_base, in_differences, in_flows, in_planned, of_base, of_bound, of_check, of_differences, of_flows}
use Rattle.plan_check.proofs.Common.{of_planned, place_in, AllZip, ZoneFlow, AllReach, CoversFlow, HeadsFailBy, IsFirstNarrow, IsFirstUnreached, failing, short, variable_bounds, edges_certify}
use Rattle.plan_check.proofs.Common.{bounds_are, IsDifferenceProblem, PlanHeads, PlanFlows, ArePosed, AreWide, BaseHolds, DifferencesFailBy, DifferencesHold, FailsBy, FlowsFailBy, HeadsHold}
use Rattle.plan_check.proofs.Common.{PlannedHolds, ReachesZero, SourcesHold, at_zones, in_base, in_differences, in_flows, in_planned, of_base, of_bound, of_check, of_differences, of_flows, of_planned}
use Rattle.plan_check.proofs.Common.{place_in}
use Rattle.step_problem.specs.declared.refusal.BoundFault.{BoundFault}
use Rattle.certificate_check.specs.{IsFirstFailing}
use Rattle.check_run.specs.declared.listing.CheckFault.{CheckFault}
use Rattle.step_problem.specs.declared.place.Place.TheVariants as place
use Rattle.step_problem.specs.declared.refusal.BoundFault.TheVariants as bound
use Rattle.check_run.specs.declared.listing.CheckFault.TheVariants as check
use Rattle.plan_chain.specs.declared.step.PlanPart.TheVariants as parts
use Rattle.plan_listing.specs.declared.last_lines.PlanPlace.TheVariants as places
use Rattle.plan_check.specs.declared.fault.PlanCheckFault.TheVariants as fault

-- The differences of two plans' steps, whose problem p has the barrier b.
module _ (k : PlanTask) (at : TimeStep) (x y : Solved) (olds listed : List Bound) (p : List Entries) (b : Edges)
    (is : IsDifferenceProblem x.problem y.problem x.bounds y.bounds olds p) (of_p : IsBarrierBy k.limits p b)
    (cells : map (λ (e : Entries). e.id) p ≡ variable_cells k.base.first at.period) where
  posed : ArePosed k at x y olds listed p b
  posed = record { problem = is; barrier = of_p }

  pub apart_fails : (c : ℕ) (side : Side) → IsFirstUnreached k.base at (ReachesZero listed) c side →
      DifferencesFailBy k at x y olds listed (fault.Fails (places.Cell parts.Differences c side))
  apart_fails c side f = (c, side, short p b posed f, refl)

  module _ (reach : AllReach k.base at (ReachesZero listed)) (bs lent : List Bound) (lent_is : lent ≡ bs) (are : bs ≡ map (λ (e : Entries). bound_at listed e.id) p) where
    same : lent ≡ variable_bounds k.base at listed
    same = lent_is ∙ are ∙ bounds_are k.base at listed p cells

    pub unheld_fails : (e : CheckFault) → (i : ℕ) × (side : Side) × IsFirstFailing p b lent i side × (e ≡ check.Fails (place.Cell (entries_at p i).id side)) →
        DifferencesFailBy k at x y olds listed (of_check parts.Differences e)
    unheld_fails e (i, side, f, this) =
        let F : List Bound → Type 0 = λ v. IsFirstFailing p b v i side in
        let P : CheckFault → Type 0 = λ z. DifferencesFailBy k at x y olds listed (of_check parts.Differences z) in
        subst P (sym this) ((entries_at p i).id, side, failing p b i posed reach (subst F same f) refl, refl)

    pub differences_hold : AreWords p lent → IsCertificate p b (lower_at lent) (upper_at lent) → (all : List Bound) → AreByCell (cell_count k.base.first.grid) p bs all →
        DifferencesHold k at x y olds listed (record { problem = p; bounds = bs; heads = all })
    differences_hold words certificate all placed =
        let C : List Bound → Type 0 = λ v. AreWords p v × IsCertificate p b (lower_at v) (upper_at v) in
        let h = subst C lent_is (words, certificate) in
        record {
          differences = record {
            barrier = b;
            problem = is;
            of_problem = of_p;
            pair = record { whole = h.0.whole; low = h.0.low; high = h.0.high; certificate = edges_certify k.limits p b bs h.0 h.1 };
            certificate = h.1;
            heads = placed;
          };
          listed_bounds = sym lent_is ∙ same;
          constants = reach;
        }

-- their problem has no barrier
pub unbarred_fails : (k : PlanTask) (at : TimeStep) (x y : Solved) (olds listed : List Bound) (p : List Entries) →
    IsDifferenceProblem x.problem y.problem x.bounds y.bounds olds p → (f : BoundFault) → IsBarrierFault k.limits p f → DifferencesFailBy k at x y olds listed (of_bound f)
unbarred_fails k at x y olds listed p is (bound.NoBound n) h = ((p, is, h), refl)
unbarred_fails k at x y olds listed p is bound.Memory h = tt

-- A fault of a part of a step is one of the step.
module _ (k : PlanTask) (at : TimeStep) (old : PlanHeads) (x : ListedPlanStep) where
  pub base_fails : (f : CheckFault) → HeadsFailBy k.limits k.base k.digits at old.base x.base f → FailsBy k at old x (of_check parts.Base f)
  base_fails (check.Fails p) (c, side, f, e) = in_base c side f (ap (place_in parts.Base) e)
  base_fails (check.Refused n) h = of_base h refl
  base_fails check.Memory h = tt

  pub planned_fails : (b : Solved) → BaseHolds k at old x b → (f : CheckFault) → HeadsFailBy k.limits k.planned k.digits at old.planned x.planned f →
      FailsBy k at old x (of_check parts.Planned f)
  planned_fails b h (check.Fails p) (c, side, f, e) = in_planned b c side h f (ap (place_in parts.Planned) e)
  planned_fails b h (check.Refused n) none = of_planned b h none refl
  planned_fails b h check.Memory none = tt

  pub differences_fail : (b p : Solved) → BaseHolds k at old x b → PlannedHolds k at old x p → (f : PlanCheckFault) →
      DifferencesFailBy k at b p old.differences x.differences f → FailsBy k at old x f
  differences_fail b p h j (fault.Fails place) (c, side, f, e) = in_differences b p c side h j f e
  differences_fail b p h j (fault.Refused part n) (none, e) = of_differences b p h j none e
  differences_fail b p h j fault.Memory none = tt

  pub flows_fail : (v : PlanSolved) → HeadsHold k at old x v → (f : PlanCheckFault) → FlowsFailBy k v x.flows f → FailsBy k at old x f
  flows_fail v h (fault.Fails place) f = in_flows v h f
  flows_fail v h (fault.Refused part n) (large, e) = of_flows v h large e
  flows_fail v h fault.Memory f = tt

-- The flows of a solved step that has these, where the listed flows between zones were lent with the computed ones.
module _ (k : PlanTask) (v : PlanSolved) (listed flows : PlanFlows) (s : SourcesHold k v listed flows) (xs ys : List ZoneFlow) (xs_are : xs ≡ listed.zones)
    (ys_are : ys ≡ flows.zones) where
  pub zones_fail : (e : PlanCheckFault) → (from : ℕ) × (to : ℕ) × IsFirstNarrow xs ys from to × (e ≡ fault.Fails (places.Zone from to)) → FlowsFailBy k v listed e
  zones_fail e (from, to, first, is) =
      let P : List ZoneFlow → Type 0 = λ zs. IsFirstNarrow zs ys from to in
      let Q : List ZoneFlow → Type 0 = λ zs. IsFirstNarrow listed.zones zs from to in
      subst (FlowsFailBy k v listed) (sym is) (at_zones flows from to s (subst Q ys_are (subst P xs_are first)) refl)

  pub zones_hold : AllZip CoversFlow xs ys → AreWide k v listed
  zones_hold wide =
      let P : List ZoneFlow → Type 0 = λ zs. AllZip CoversFlow zs ys in
      let Q : List ZoneFlow → Type 0 = λ zs. AllZip CoversFlow listed.zones zs in
      record { flows = flows; sources = s; wide = subst Q ys_are (subst P xs_are wide) }
