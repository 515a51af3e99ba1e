-- What a run with a plan that ended Ok says.
use Rattle.engine.proofs.Common.{[], ◌≡◌, ◌∷◌, ◌∙◌, ℕ, Err, List, None, Ok, Option, Result, Some, ap, map, refl, subst, Appends, FileSet, FlowModel, AllListedSteps, AreDecks, AreReadAs, AskedPlan}
use Rattle.engine.proofs.Common.{Decks, IsPlanListing, OnePlan, PlanListingsEnclose, PlanParts, PlanTask, PlannedDecks, Refusal, Second, Status, Text, TimeStep, concat, end_line, file_at, one_deck}
use Rattle.engine.proofs.Common.{parts_read, plan_listing, plan_task, planned_in, planned_task, read_by_name, reads, second_in, times, two, wells_read, zones_read, ◌>>=◌, Agree, inl, inr, sym}
use Rattle.engine.proofs.Common.{ListingEndsAt, StepsThen, decks_planned, heads_listed, PlanGoesThrough, All, false, IsDefinedEnd, ListsMore, PlanListingIsOne, IsPlanTask, ListedPlanStep}
use Rattle.engine.proofs.Common.{histories_give_weathers, weathers_enclosed, EnclosesWeathers, WeathersHaveOne}
use Rattle.std.specs.Prelude.{length}
use Rattle.model_types.specs.declared.entry.Entry.{Entry}
use Rattle.plan_wells.specs.{plan_of}
use Rattle.plan_chain.specs.{declared.step.PlanHeads.PlanHeads, declared.walk.PlanEnd.PlanEnd, declared.walk.PlanEnd.TheVariants.Whole, declared.walk.PlanEnd.TheVariants.NoBound}
use Rattle.plan_chain.specs.{declared.walk.PlanEnd.TheVariants.Unfinished}
use Rattle.plan_run.specs.{last_line, status_of}
use Rattle.engine.proofs.{Certifying.IsFault, Readings.named_read, Readings.second_parts}
use Rattle.run_puts.specs.declared.puts.Status.TheVariants as status

-- no listing of a plan ends with a fault outside or for lack of memory
last_is_no_fault : (last : PlanEnd) → IsFault (status_of last) → ⊥
last_is_no_fault Whole h = h
last_is_no_fault other h = h

pub plan_is_no_fault : (k : PlanTask) (end : Status) (pieces : List Text) → IsPlanListing k end pieces → IsFault end → ⊥
plan_is_no_fault k end pieces l h = last_is_no_fault l.last (subst IsFault l.status h)

-- where no step has a refusal, and the rounds leave none open, no other end comes
pub plan_goes_through : (k : PlanTask) → PlanGoesThrough k → (end : Status) (pieces : List Text) → IsPlanListing k end pieces → end ≡ status.Ok
plan_goes_through k goes end pieces l = l.status ∙ all_done l.last l.steps
  where
    all_done : (last : PlanEnd) → AllListedSteps k l.values last → status_of last ≡ status.Ok
    all_done Whole steps = refl
    all_done (NoBound at part n) steps = absurd (goes.no_refusal l.values at part n steps)
    all_done (Unfinished at part) steps = absurd (goes.none_open l.values at part steps)

-- without --quick two ends of a plan's listing agree
module _ (one : PlanListingIsOne) (k : PlanTask) (valid : IsPlanTask k) (plain : k.quick ≡ false) where
  same_end : (last other : PlanEnd) (values others : List ListedPlanStep) → AllListedSteps k values last → AllListedSteps k others other → IsDefinedEnd last →
      IsDefinedEnd other → Agree (status_of last) (status_of other)
  same_end last other values others x y defined also = inr (inl (ap status_of (one k values others last other valid plain x y defined also).1))

  ends_agree : (last other : PlanEnd) (values others : List ListedPlanStep) → AllListedSteps k values last → AllListedSteps k others other →
      Agree (status_of last) (status_of other)
  ends_agree (Unfinished at part) other values others x y = inl tt
  ends_agree Whole Whole values others x y = inr (inl refl)
  ends_agree Whole (NoBound at part n) values others x y = same_end Whole (NoBound at part n) values others x y tt tt
  ends_agree Whole (Unfinished at part) values others x y = inr (inr tt)
  ends_agree (NoBound at part n) Whole values others x y = same_end (NoBound at part n) Whole values others x y tt tt
  ends_agree (NoBound at part n) (NoBound t other m) values others x y = same_end (NoBound at part n) (NoBound t other m) values others x y tt tt
  ends_agree (NoBound at part n) (Unfinished t other) values others x y = inr (inr tt)

  pub plans_agree : (meant end : Status) (p q : List Text) → IsPlanListing k meant p → IsPlanListing k end q → Agree meant end
  plans_agree meant end p q x y =
      let P : Status → Type 0 = λ s. Agree s end in
      let Q : Status → Type 0 = λ s. Agree (status_of x.last) s in
      subst P (sym x.status) (subst Q (sym y.status) (ends_agree x.last y.last x.values y.values x.steps y.steps))

-- one that ended Ok is whole
is_whole : (last : PlanEnd) → status.Ok ≡ status_of last → last ≡ Whole
is_whole Whole e = refl
is_whole (NoBound at part n) e = absurd (let bad : status.Ok ≡ status.NoBound at.period at.step n = e in cc)
is_whole (Unfinished at part) e = absurd (let bad : status.Ok ≡ status.Unfinished at.period at.step = e in cc)

-- each step of a whole listing has its own time
steps_at : (k : PlanTask) (old : PlanHeads) (ats : List TimeStep) (values : List ListedPlanStep) → StepsThen k (ListingEndsAt k Whole) old ats values →
    map (λ v. v.at) values ≡ ats
steps_at k old [] [] h = refl
steps_at k old [] (x ∷ xs) h = absurd h
steps_at k old (at ∷ ats) [] h = absurd h
steps_at k old (at ∷ ats) (x ∷ xs) (is, h) =
    let here : x.at ≡ at = ap (λ (z : ListedPlanStep). z.at) is.is in
    let later = steps_at k (heads_listed x) ats xs h in
    cc

-- what two readings in a row gave
after_ok : {T U : Type 0} (r : Result T Refusal) (f : T → Result U Refusal) (y : U) → (r >>= f) ≡ Ok y → (x : T) × (r ≡ Ok x) × (f x ≡ Ok y)
after_ok (Ok x) f y e = (x, refl, e)
after_ok {T} {U} (Err refusal) f y e = absurd (let bad : Path (Result U Refusal) (Err refusal) (Ok y) = e in cc)

same_wells : (x y : PlannedDecks) → Path (Result PlannedDecks Refusal) (Ok x) (Ok y) → x ≡ y
same_wells x y h = cc

same_parts : (x y : PlanParts) → Path (Result PlanParts Refusal) (Ok x) (Ok y) → x ≡ y
same_parts x y h = cc

-- the plan of wells that were read
plan_was : (plan : Result (List (List Entry)) Refusal) (decks : List (List Entry) → Result Decks Refusal) (w : PlannedDecks) →
    (plan >>= λ x. decks x >>= λ e. Ok (record { plan = x; decks = e })) ≡ Ok w → plan ≡ Ok w.plan
plan_was (Err refusal) decks w h = absurd (let bad : Path (Result PlannedDecks Refusal) (Err refusal) (Ok w) = h in cc)
plan_was (Ok x) decks w h = by_decks (decks x) h
  where
    by_decks : (r : Result Decks Refusal) → (r >>= λ e. Ok (record { plan = x; decks = e })) ≡ Ok w → Path (Result (List (List Entry)) Refusal) (Ok x) (Ok w.plan)
    by_decks (Err refusal) k = absurd (let bad : Path (Result PlannedDecks Refusal) (Err refusal) (Ok w) = k in cc)
    by_decks (Ok e) k = ap (λ (v : PlannedDecks). Ok v.plan) (same_wells (record { plan = x; decks = e }) w k)

-- what the parts of a plan are
parts_were : (w : Result PlannedDecks Refusal) (z : Result (Option (List ℕ)) Refusal) (p : PlanParts) →
    (w >>= λ wells. z >>= λ zones. Ok (record { wells = wells; zones = zones })) ≡ Ok p → (w ≡ Ok p.wells) × (z ≡ Ok p.zones)
parts_were (Err refusal) z p h = absurd (let bad : Path (Result PlanParts Refusal) (Err refusal) (Ok p) = h in cc)
parts_were (Ok wells) (Err refusal) p h = absurd (let bad : Path (Result PlanParts Refusal) (Err refusal) (Ok p) = h in cc)
parts_were (Ok wells) (Ok zones) p h =
    let same = same_parts (record { wells = wells; zones = zones }) p h in
    (ap (λ (x : PlanParts). Ok x.wells) same, ap (λ (x : PlanParts). Ok x.zones) same)

module _ (files : FileSet) (asked : AskedPlan) where
  -- what the parts of a plan were read from
  pub record HasParts (d : Decks) (p : PlanParts) : Type 0 where
    pub bytes : List ℕ
    pub read : read_by_name asked.wells (file_at files) ≡ Ok bytes
    pub plan : plan_of asked.limits asked.wells bytes d.first.grid (length d.first.periods) ≡ Ok p.wells.plan
    pub zoned : zones_read files asked.zones d.first ≡ Ok p.zones

  pub parts_are : (d : Decks) (p : PlanParts) → parts_read files asked d ≡ Ok p → HasParts d p
  parts_are d p e =
      let both = parts_were (wells_read files asked.limits asked.wells d) (zones_read files asked.zones d.first) p e in
      let text = after_ok (read_by_name asked.wells (file_at files)) (planned_in asked.limits asked.wells d) p.wells both.0 in
      record {
        bytes = text.0;
        read = text.1;
        plan = plan_was (plan_of asked.limits asked.wells text.0 d.first.grid (length d.first.periods)) (λ plan. decks_planned plan asked.wells d) p.wells text.2;
        zoned = both.1;
      }

  -- decks that were read
  pub one_read_as : (m : FlowModel) → read_by_name asked.name (reads asked.limits files) ≡ Ok m → AreDecks (one_deck m) → AreReadAs asked.limits files asked.name None (one_deck m)
  one_read_as m read valid = record { read = named_read asked.name (reads asked.limits files) m read; read_to = refl; valid = valid }

  pub two_read_as : (to : Text) (a : FlowModel) (b : Second) → read_by_name asked.name (reads asked.limits files) ≡ Ok a →
      read_by_name to (second_in asked.limits files) ≡ Ok b → AreDecks (two a b.model) → AreReadAs asked.limits files asked.name (Some to) (two a b.model)
  two_read_as to a b first second valid = record {
    read = named_read asked.name (reads asked.limits files) a first;
    read_to = ap (λ (r : Result FlowModel Refusal). Some r) (second_parts asked.limits files to b (named_read to (second_in asked.limits files) b second));
    valid = valid;
  }

-- all that is said of a whole listing
record IsWholePlan (k : PlanTask) (pieces : List Text) (values : List ListedPlanStep) : Type 0 where
  pub steps : AllListedSteps k values Whole
  pub only : k.quick ≡ false → (others : List ListedPlanStep) → AllListedSteps k others Whole → others ≡ values
  pub encloses : EnclosesWeathers k values
  pub pairs : All (ListsMore k.base.first k.zones) values
  pub one : WeathersHaveOne k.base k.plan
  pub are : pieces ≡ plan_listing k values end_line

module _ (laws : PlanListingsEnclose) (one : PlanListingIsOne) (files : FileSet) (asked : AskedPlan) (to : Option Text) (d : Decks) (p : PlanParts) where
  abbrev k : PlanTask
  k = planned_task asked d p

  whole_plan : IsPlanTask k → (pieces : List Text) (l : IsPlanListing k status.Ok pieces) → IsWholePlan k pieces l.values
  whole_plan valid pieces l =
      let whole = is_whole l.last l.status in
      let S : PlanEnd → Type 0 = λ last. AllListedSteps k l.values last in
      let T : PlanEnd → Type 0 = λ last. pieces ≡ plan_listing k l.values (last_line k.base.first.grid last) in
      let steps = subst S whole l.steps in
      record {
        steps = steps;
        only = λ plain others also. (one k l.values others Whole Whole valid plain steps also tt tt).0;
        encloses = weathers_enclosed k l.values (laws.pairs k l.values valid steps);
        pairs = laws.between k l.values valid steps;
        one = histories_give_weathers k valid (laws.base k l.values valid steps) (laws.planned k l.values valid steps);
        are = subst T whole l.are;
      }

  same_task : IsPlanTask k → k ≡ plan_task asked d p.wells.plan p.zones
  same_task valid = ap (λ (e : Decks). planned_task asked d (record { wells = record { plan = p.wells.plan; decks = e }; zones = p.zones })) valid.with_wells

  pub plan_listed : AreReadAs asked.limits files asked.name to d → parts_read files asked d ≡ Ok p → IsPlanTask k → (pieces : List Text) →
      IsPlanListing k status.Ok pieces → (old new : Option (List ℕ)) → ((all : List Text) → pieces ≡ all → Appends old new (concat all)) →
      OnePlan asked to files old new
  plan_listed read was valid pieces l old new appended =
      let parts = parts_are files asked d p was in
      let W : PlanTask → Type 0 = λ j. IsWholePlan j pieces l.values in
      let w = subst W (same_task valid) (whole_plan valid pieces l) in
      record {
        headline = record {
          decks = d;
          read = read;
          bytes = parts.bytes;
          read_wells = named_read asked.wells (file_at files) parts.bytes parts.read;
          plan = p.wells.plan;
          wells = parts.plan;
          zones = p.zones;
          zoned = parts.zoned;
          values = l.values;
          written = appended (plan_listing (plan_task asked d p.wells.plan p.zones) l.values end_line) w.are;
          at = steps_at (plan_task asked d p.wells.plan p.zones) w.steps.start (times d.first) l.values w.steps.steps;
          pairs = w.pairs;
          encloses = w.encloses;
          one = w.one;
        };
        steps = w.steps;
        only = w.only;
      }
