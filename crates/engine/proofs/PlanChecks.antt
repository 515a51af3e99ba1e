-- What a check of a plan's listing that ended Ok says, and that it has one end.
use Rattle.engine.proofs.Common.{◌≡◌, ◌∙◌, ℕ, List, [], ◌∷◌, Ok, Option, ap, concat, refl, subst, sym, true, AreReadAs, AskedCheck, AskedPlan, Decks, FileSet, PlanParts, PlanTask, Status, Text}
use Rattle.engine.proofs.Common.{certified_line, file_at, is_some, pairs_in, parts_read, plan_task, planned_task, Appends, IsPlanCheck, PlanVerdict, as_plan, plan_steps_read, plan_verdict_line}
use Rattle.engine.proofs.Common.{plan_verdict_status, place_of_plan, IsPlanTask, PlanListingVerdict, IsPlanVerdict, PlanVerdictIsOne, AreListedPlan, ListedPlanStep, histories_give_weathers}
use Rattle.engine.proofs.Common.{weathers_enclosed, EnclosesWeathers, WeathersHaveOne}
use Rattle.plan_check.specs.declared.verdict.PlanListingVerdict.TheVariants.{Refused, Certified as Holds, Fails}
use Rattle.engine.proofs.{Certifying.IsFault, Plans.parts_are, Readings.named_read}
use Rattle.run_puts.specs.declared.puts.Status.TheVariants as status

-- a check whose status is Ok has certified the listing
plan_certified : (v : PlanListingVerdict) → status.Ok ≡ plan_verdict_status v → v ≡ Holds
plan_certified Holds e = refl
plan_certified (Fails at p) e = absurd (let bad : status.Ok ≡ status.NotCertified at.period at.step (place_of_plan p) = e in cc)
plan_certified (Refused at part n) e = absurd (let bad : status.Ok ≡ status.NoBound at.period at.step n = e in cc)

verdict_is_no_fault : (v : PlanListingVerdict) → IsFault (plan_verdict_status v) → ⊥
verdict_is_no_fault Holds h = h
verdict_is_no_fault other h = h

module _ (k : PlanTask) (steps : List ListedPlanStep) where
  pub plan_check_is_no_fault : (end : Status) (pieces : List Text) → IsPlanCheck k steps end pieces → IsFault end → ⊥
  plan_check_is_no_fault end pieces c h = verdict_is_no_fault c.verdict (subst IsFault c.status h)

  module _ (law : PlanVerdictIsOne) (task : IsPlanTask k) (quick : k.quick ≡ true) (listed : AreListedPlan k.base.first (pairs_in k.base.first k.zones) steps) where
    pub one_plan_end : (meant end : Status) (p q : List Text) → IsPlanCheck k steps meant p → IsPlanCheck k steps end q → end ≡ meant
    one_plan_end meant end p q x y = y.status ∙ ap plan_verdict_status (law k steps y.verdict x.verdict task quick listed y.is x.is) ∙ sym x.status

    -- where the verdict is that the listing is certified, its end is Ok
    pub plan_certifies : IsPlanVerdict k steps Holds → (end : Status) (q : List Text) → IsPlanCheck k steps end q → end ≡ status.Ok
    plan_certifies verdict end q y = y.status ∙ ap plan_verdict_status (law k steps y.verdict Holds task quick listed y.is verdict)

module _ (files : FileSet) (asked : AskedCheck) (name : Text) (to : Option Text) (d : Decks) (p : PlanParts) where
  abbrev plan : AskedPlan
  plan = as_plan asked name

  abbrev task : PlanTask
  task = planned_task plan d p

  -- what is said of a certified listing of a task
  record IsCertified (k : PlanTask) (steps : List ListedPlanStep) : Type 0 where
    pub listed : plan_steps_read (is_some to) files asked.listing k ≡ Ok steps
    pub encloses : EnclosesWeathers k steps
    pub one : WeathersHaveOne k.base k.plan
    pub verdict : IsPlanVerdict k steps Holds

  same_task : IsPlanTask task → task ≡ plan_task plan d p.wells.plan p.zones
  same_task valid = ap (λ (e : Decks). planned_task plan d (record { wells = record { plan = p.wells.plan; decks = e }; zones = p.zones })) valid.with_wells

  pub plan_checked : AreReadAs asked.limits files asked.name to d → parts_read files plan d ≡ Ok p → IsPlanTask task → (steps : List ListedPlanStep) →
      plan_steps_read (is_some to) files asked.listing task ≡ Ok steps → (pieces : List Text) → IsPlanCheck task steps status.Ok pieces →
      (old new : Option (List ℕ)) → ((all : List Text) → pieces ≡ all → Appends old new (concat all)) → PlanVerdict asked name to files old new
  plan_checked read was valid steps listed pieces c old new appended =
      let parts = parts_are files plan d p was in
      let holds = plan_certified c.verdict c.status in
      let L : PlanListingVerdict → Type 0 = λ v. pieces ≡ plan_verdict_line d.first.grid v ∷ [] in
      let V : PlanListingVerdict → Type 0 = λ v. IsPlanVerdict task steps v in
      let W : PlanTask → Type 0 = λ k. IsCertified k steps in
      let h = subst W (same_task valid) (record {
        listed = listed;
        encloses = weathers_enclosed task steps (c.encloses holds);
        one = histories_give_weathers task valid (c.base holds) (c.planned holds);
        verdict = subst V holds c.is;
      }) in
      record {
        certified = record {
          decks = d;
          read = read;
          bytes = parts.bytes;
          read_wells = named_read name (file_at files) parts.bytes parts.read;
          plan = p.wells.plan;
          wells = parts.plan;
          zones = p.zones;
          zoned = parts.zoned;
          steps = steps;
          listed = h.listed;
          written = appended (certified_line ∷ []) (subst L holds c.are);
          encloses = h.encloses;
          one = h.one;
        };
        verdict = h.verdict;
      }
