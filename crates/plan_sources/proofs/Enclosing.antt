-- The flows of a plan's step enclose what each term, and each flow between zones, has more.
use Rattle.plan_sources.proofs.Common.{All, ArePlanHeads, Bound, Contains, FlowModel, IsPlanStep, IsPlanTask, List, None, Option, PlanHeads, PlanSolved, PlanTask, Some, TimeStep, get_or, IsActive}
use Rattle.plan_sources.proofs.Common.{IsCellNamed, IfSome, ap, arith, heads_in, ints, length, map, neg_ℤ, refl, rise, subst, sym, times, ℕ, ℤ, ◌+◌, ◌-ℤ◌, ◌<◌, ◌≡◌, [], ◌∷◌, suc, true, zero}
use Rattle.plan_sources.proofs.Common.{All-weaker, Ok, AreLinked, ExactCell, share, EnclosesSigned, Fraction, cell_of_member, IsMember, ProblemFits, SolvesAt, exact_step, variable_heads, BoundsPair}
use Rattle.plan_sources.proofs.Common.{IsBeforeStep, PlanStepEncloses, AreOneNetwork, AreTwoSolutions, SourcesEnclose, ZonesEnclose, is_listed, more_flow, more_net, MembersKeepWellsApart}
use Rattle.plan_sources.proofs.Common.{PlannedSteps, plan_flows, EncloseMore, PlanFlowsEnclose, sources_of, zones_of, flows_of, SolutionsBoundPlans, IsWell, PlannedLieBetween, with_plan, HeadsEnclose}
use Rattle.plan_sources.proofs.Common.{StepEncloses, IsProblem, lower_at, no_bound, upper_at}
use Rattle.budget_bounds.specs.{declared.pair.TermPair.TermPair, no_pair, place_of}
use Rattle.cell_balance.proofs.Enclosed.{entries_are_linked}
use Rattle.certificate_check.specs.{CertificateEncloses}
use Rattle.decimal_input.proofs.FloorLaws.{negated_enclosed}
use Rattle.listing_run.proofs.Moves.{heads_named}
use Rattle.listing_run.specs.{flows_or_large}
use Rattle.plan_chain.proofs.Enclosing.{base_before, base_move, differences_between, differences_fit, member_has_cells, plan_is_long, two_plans}
use Rattle.plan_gains.proofs.Values.{ok_or, sources_are, then_is}
use Rattle.plan_sources.specs.declared.flows.PlanFlows.{PlanFlows}
use Rattle.step_chain.proofs.Histories.{lies_encloses}
use Rattle.step_problem.specs.{declared.place.Term.Term, declared.place.ZoneFlow.ZoneFlow}
use Rattle.zone_flows.proofs.{Enclosed.sums_enclose, ListedFlows.IsZoneFlow, ListedFlows.flows_of_pairs}
use Rattle.zone_flows.specs.{EncloseEveryStep, exact_flow, exact_faces, faces, zone_flows}
use Rattle.plan_sources.proofs.{Networks.one_network, Steps.named_cells}

-- the heads' rises, by cell number
rise_at : (xs : List Bound) (c : ℕ) → get_or (map rise xs) c no_bound ≡ rise (get_or xs c no_bound)
rise_at [] c = refl
rise_at (x ∷ xs) zero = refl
rise_at (x ∷ xs) (suc c) = rise_at xs c

turned_share : (lo hi : ℤ) (d : ℕ) (x y : ℤ) → EnclosesSigned lo hi 9 (share d (x -ℤ y)) → EnclosesSigned (neg_ℤ hi) (neg_ℤ lo) 9 (share d (y -ℤ x))
turned_share lo hi d x y h =
    let same : neg_ℤ (x -ℤ y) ≡ y -ℤ x = omega (arith, ints) in
    subst (λ (z : ℤ). EnclosesSigned (neg_ℤ hi) (neg_ℤ lo) 9 (share d z)) same (negated_enclosed lo hi 9 (share d (x -ℤ y)) h)

rises_enclose : (m : FlowModel) (differences : List Bound) (d : ℕ) (X Y : ℕ → ℤ) → HeadsEnclose m differences (λ c. share d (X c -ℤ Y c)) →
    HeadsEnclose m (map rise differences) (λ c. share d (Y c -ℤ X c))
rises_enclose m ds d X Y h c active =
    subst (λ (b : Bound). EnclosesSigned b.low b.high 9 (share d (Y c -ℤ X c))) (sym (rise_at ds c))
    (turned_share (lower_at ds c) (upper_at ds c) d (X c) (Y c) (h c active))

-- flows between zones that are all below the limit enclose those of every step
module _ (p : List (Rattle.step_problem.specs.Entries.Entries)) (heads : List Bound) (ok : IsProblem p) where
  every_step : (zones : List ℕ) (vs : List ZoneFlow) → zone_flows (faces zones (lower_at heads) (upper_at heads) p) ≡ Ok vs →
      EncloseEveryStep p zones (lower_at heads) (upper_at heads) vs
  every_step zones vs is = λ s e h encloses named.
      All-weaker (IsZoneFlow (faces zones (lower_at heads) (upper_at heads) p)) (λ z. EnclosesSigned z.lo z.hi (s + 9) (exact_flow z.from z.to (exact_faces zones h e)))
      (λ v f. rw (f.lo, f.hi) (sums_enclose p zones (lower_at heads) (upper_at heads) ok s e h encloses named v.from v.to)) vs
      (flows_of_pairs (faces zones (lower_at heads) (upper_at heads) p) vs is).0

module _ (problem_fits : ProblemFits) (step_encloses : StepEncloses) (certificate_encloses : CertificateEncloses) (lies : PlannedLieBetween) (planned_steps : PlannedSteps)
    (apart : MembersKeepWellsApart) (solutions_bound : SolutionsBoundPlans) (pairs : PlanStepEncloses) (sources : SourcesEnclose) (zones_law : ZonesEnclose) (k : PlanTask)
    (at : TimeStep) (old : PlanHeads) (v : PlanSolved) (task : IsPlanTask k) (time : Contains (times k.base.first) at) (fit : ArePlanHeads k old) (step : IsPlanStep k at old v)
    (m : FlowModel) (member : IsMember k.base m) (before after : ℕ → Fraction) (d : ℕ) (X Y : ℕ → ℤ) (b : IsBeforeStep m old before after) (some : 0 < d)
    (base : SolvesAt m at before d X) (planned : SolvesAt (with_plan k.plan m) at after d Y)
  where
    abbrev e : List ExactCell
    e = exact_step m at.period at.step before

    abbrev f : List ExactCell
    f = exact_step (with_plan k.plan m) at.period at.step after

    long_plan : length k.plan ≡ length m.periods
    long_plan =
        plan_is_long problem_fits step_encloses certificate_encloses lies planned_steps apart solutions_bound k at old v task time fit step m member before after d X Y b some base planned

    ok : IsProblem v.differences.problem
    ok = differences_fit problem_fits step_encloses certificate_encloses lies planned_steps apart solutions_bound k at old v task time fit step m member before after d X Y b some base planned

    network : AreOneNetwork e f
    network =
        one_network m k.plan long_plan at.period at.step before after
        (subst (λ (n : ℕ). All (All (IsWell n)) k.plan) (sym (member_has_cells problem_fits step_encloses certificate_encloses lies planned_steps apart solutions_bound k at old v task time
        fit step m member before after d X Y b some base planned).count) task.wells) (apart k.base m at.period task.apart member)

    linked : AreLinked e
    linked =
        entries_are_linked k.digits v.base.problem e
        (problem_fits k.base k.digits at old.base v.base.problem
        (base_before problem_fits step_encloses certificate_encloses lies planned_steps apart solutions_bound k at old v task time fit step) step.base.posed.problem)
        (base_move problem_fits step_encloses certificate_encloses lies planned_steps apart solutions_bound k at old v task time fit step m member before after d X Y b some base
        planned).step

    both : AreTwoSolutions k.digits v.base.problem v.planned.problem v.base.bounds v.planned.bounds old.differences (plan_flows m k.plan at.period at.step before) e f d
        (variable_heads e X) (variable_heads f Y)
    both = record {
      plans =
          two_plans problem_fits step_encloses certificate_encloses lies planned_steps apart solutions_bound k at old v task time fit step m member before after d X Y b some base
          planned;
      network = network;
      linked = linked;
      base_solved = base.balances;
      planned_solved = planned.balances;
    }

    term_within : (terms : List TermPair) → sources_of v ≡ Ok terms → (t : Term) → is_listed t ≡ true →
        EnclosesSigned (get_or terms (place_of t) no_pair).lo (get_or terms (place_of t) no_pair).hi (k.digits + 9) (more_net e f d (variable_heads e X) (variable_heads f Y) t)
    term_within terms is t listed =
        subst (λ (x : TermPair). EnclosesSigned x.lo x.hi (k.digits + 9) (more_net e f d (variable_heads e X) (variable_heads f Y) t))
        (sym (sources_are v.base.problem v.differences.problem (lower_at v.differences.bounds) (upper_at v.differences.bounds) terms is t))
        (sources k.digits v.base.problem v.planned.problem v.differences.problem v.base.bounds v.planned.bounds old.differences (plan_flows m k.plan at.period at.step before) e f d
        (variable_heads e X) (variable_heads f Y) (lower_at v.differences.bounds) (upper_at v.differences.bounds) step.differences.problem both
        (differences_between problem_fits step_encloses certificate_encloses lies planned_steps apart solutions_bound k at old v task time fit step m member before after d X Y b some base
        planned) t listed)

    bounds : BoundsPair m (heads_in v) d X Y
    bounds = pairs k at old v task time fit step m member before after d X Y b some base planned

    named : (c : ℕ) → IsCellNamed v.differences.problem c → IsActive m c
    named c n =
        cell_of_member k.base.first m
        (member_has_cells problem_fits step_encloses certificate_encloses lies planned_steps apart solutions_bound k at old v task time fit step m member before after d X Y b some base planned) c
        (named_cells k at old v task step c n)

    zones_within : (zones : Option (List ℕ)) (vs : List ZoneFlow) → flows_or_large v.differences.problem (map rise v.differences.heads) zones ≡ Ok vs →
        IfSome zones (λ zs. All (λ z. EnclosesSigned z.lo z.hi (k.digits + 9) (more_flow zs e f d X Y z.from z.to)) vs)
    zones_within None vs is = tt
    zones_within (Some zs) vs is =
        zones_law k.digits v.base.problem v.planned.problem v.differences.problem v.base.bounds v.planned.bounds old.differences (plan_flows m k.plan at.period at.step before) e f d X Y
        zs (lower_at (map rise v.differences.heads)) (upper_at (map rise v.differences.heads)) vs step.differences.problem both
        (every_step v.differences.problem (map rise v.differences.heads) ok zs vs is)
        (heads_named m v.differences.problem named (map rise v.differences.heads) (λ c. share d (Y c -ℤ X c))
        (rises_enclose m v.differences.heads d X Y (lies_encloses m v.differences.heads d (λ c. X c -ℤ Y c) some bounds.differences)))

    pub flows_within : (x : PlanFlows) → flows_of v k.zones ≡ Ok x → EncloseMore k.digits k.zones e f d X Y x
    unfolding flows_of
    flows_within x is =
        let (terms, rest, are) = then_is (sources_of v) (λ ts. Rattle.budget_bounds.specs.◌>>=◌ (zones_of v k.zones) (λ vs. Ok (record { sources = record { terms = ts }; zones = vs }))) x is in
        let (vs, whole, zone_flows_are) = then_is (zones_of v k.zones) (λ vs. Ok (record { sources = record { terms = terms }; zones = vs })) x rest in
        subst (λ (y : PlanFlows). EncloseMore k.digits k.zones e f d X Y y) (ap (ok_or x) whole)
        (record { sources = term_within terms are; between = zones_within k.zones vs zone_flows_are })

pub flows_enclose : ProblemFits → StepEncloses → CertificateEncloses → PlannedLieBetween → PlannedSteps → MembersKeepWellsApart → SolutionsBoundPlans → PlanStepEncloses →
    SourcesEnclose → ZonesEnclose → PlanFlowsEnclose
flows_enclose problem_fits step_encloses certificate_encloses lies planned_steps apart solutions_bound pairs sources zones_law k at old v x task time fit step is m member before after
    d X Y b some base planned =
    flows_within problem_fits step_encloses certificate_encloses lies planned_steps apart solutions_bound pairs sources zones_law k at old v task time fit step m member before after
    d X Y b some base planned x is
