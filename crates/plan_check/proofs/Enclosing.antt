-- Every two histories of two plans in one weather lie within a certified listing, by induction on the time steps; and there are such.
use Rattle.plan_check.proofs.Common.{Contains, List, [], ◌∷◌, ap, inl, inr, map, subst, sym, ℕ, ℤ, ◌-ℤ◌, ◌<◌, ◌∙◌, ◌≡◌, true, AllZip, EnclosesSigned, Fraction, minus, Bound, certified, lower_at}
use Rattle.plan_check.proofs.Common.{no_bound, upper_at, Limits, FlowModel, TimeStep, cell_count, start_head, times, IsActive, bound_at, Decks, IsBefore, IsMember, StartHeadsEnclose, StartHeadsFit}
use Rattle.plan_check.proofs.Common.{Solved, first_in, lies_encloses, next_in, pairs_in, AreChecked, PlanHeads, PlanSolved, PlanTask, ArePlanHeads, BoundsPair, IsBeforeStep, IsPlanTask}
use Rattle.plan_check.proofs.Common.{PlanStepEncloses, heads_in, times_planned, apart_within, starts_are_heads, PlanFlowsEnclose, ListedPlanStep, IsListedPlanStep, BoundPairs, BoundsPairStep}
use Rattle.plan_check.proofs.Common.{heads_listed, Certified, CertifiedPlansEnclose, Checks, Passes}
use Rattle.flow_equations.specs.{SolvesAt, heads_of}
use Rattle.deck_problems.proofs.{OneProblem.encloses_member, Starting.starts_enclose_all}
use Rattle.exact_histories.proofs.{OneTurn.IsTurn, OneTurn.turn_of, Turns.AreTurns, HaveOne.have_one_by}
use Rattle.plan_wells.specs.{PlannedLieBetween, with_plan}
use Rattle.plan_histories.specs.{SolvesPairsFrom}
use Rattle.plan_histories.proofs.{Pairs.times_same, PlannedSteps.nothing_apart}
use Rattle.plan_chain.proofs.{ByCell.zeros_are_placed, Enclosing.planned_member, Members.encloses_first, Members.lies_in_first, Members.member_cells, Members.member_starts}
use Rattle.plan_check.proofs.{Listed.listed_fit, Wider.IsWide, Wider.differences_wide, Wider.encloses_wider, Wider.heads_wide, Wider.holds_step, Wider.more_wider, Wider.wider_lies}

-- One step that passed.
module _ (k : PlanTask) (task : IsPlanTask k) (quick : k.quick ≡ true) (at : TimeStep) (time : Contains (times k.base.first) at) (old : PlanHeads) (fit : ArePlanHeads k old)
    (x : ListedPlanStep) (passes : Passes k at old x) where
  abbrev a : FlowModel
  a = k.base.first

  abbrev v : PlanSolved
  v = passes.solved

  base_wide : (c : ℕ) → IsActive a c → IsWide (bound_at x.base c) (bound_at v.base.heads c)
  base_wide = heads_wide k.limits k.base k.digits at old.base x.base v.base passes.heads.base

  -- the decks with the plan's wells have the same active cells
  planned_wide : (c : ℕ) → IsActive a c → IsWide (bound_at x.planned c) (bound_at v.planned.heads c)
  planned_wide c i =
      heads_wide k.limits k.planned k.digits at old.planned x.planned v.planned passes.heads.planned c
      (subst (λ (d : Decks). IsActive d.first c) (sym task.with_wells) (record { within = i.within; active = i.active }))

  -- exact heads before the step lie within those of each member of the decks
  within : (before after : ℕ → Fraction) → IsBeforeStep a old before after → (m : FlowModel) → IsMember k.base m → IsBeforeStep m old before after
  within before after b m member =
      let cells = member_cells k.base m member in
      record {
        base = encloses_member a m cells old.base before b.base;
        planned = encloses_member a m cells old.planned after b.planned;
        differences = encloses_member a m cells old.differences (λ c. minus (before c) (after c)) b.differences;
      }

  pub bounds_here : PlanStepEncloses → PlanFlowsEnclose → x.at ≡ at → (m : FlowModel) → IsMember k.base m → (before after : ℕ → Fraction) (d : ℕ) (X Y : ℕ → ℤ) →
      IsBeforeStep a old before after → 0 < d → SolvesAt m at before d X → SolvesAt (with_plan k.plan m) at after d Y → BoundsPairStep k x before after d X Y
  bounds_here step_encloses flows_enclose same m member before after d X Y b some base planned =
      let step = holds_step k quick at old x v passes.heads in
      let cells = member_cells k.base m member in
      let bounds : BoundsPair m (heads_in v) d X Y = step_encloses k at old v task time fit step m member before after d X Y (within before after b m member) some base planned in
      let moved : ListedPlanStep = record { at = at; base = x.base; planned = x.planned; differences = x.differences; flows = x.flows } in
      let is : moved ≡ x = λ i. record { at = sym same i; base = x.base; planned = x.planned; differences = x.differences; flows = x.flows } in
      let here : BoundsPairStep k moved before after d X Y = record {
        base = wider_lies a x.base v.base.heads base_wide d X (lies_in_first a m cells v.base.heads d X bounds.base);
        planned = wider_lies a x.planned v.planned.heads planned_wide d Y (lies_in_first a m cells v.planned.heads d Y bounds.planned);
        differences = wider_lies a x.differences v.differences.heads (differences_wide k task at old x v passes.heads) d (λ c. X c -ℤ Y c)
            (lies_in_first a m cells v.differences.heads d (λ c. X c -ℤ Y c) bounds.differences);
        flows = λ n other solves with_wells.
            more_wider k.digits k.zones _ _ d X Y x.flows passes.flows.flows passes.flows.sources.covers passes.flows.wide
            (flows_enclose k at old v passes.flows.flows task time fit step passes.flows.sources.are n other before after d X Y (within before after b n other) some
            solves with_wells);
      } in
      subst (λ (z : ListedPlanStep). BoundsPairStep k z before after d X Y) is here

-- a step of decks whose listed heads hold is a turn to them
turn_to : (limits : Limits) (d : Decks) (s : ℕ) (at : TimeStep) (old listed : List Bound) (x : Solved) → IsBefore d at old → AreChecked limits d s at old listed x →
    IsTurn limits d s at old listed
turn_to limits d s at old listed x before h =
    let turn = turn_of limits d s at old certified x before h.step in
    record {
      start = before;
      problem = turn.problem;
      barrier = turn.barrier;
      posed = turn.posed;
      lands = λ y chosen exact n X olds some solves.
          encloses_wider d.first listed x.heads (heads_wide limits d s at old listed x h) (heads_of n X) (turn.lands y chosen exact n X olds some solves);
    }

module _ (k : PlanTask) (task : IsPlanTask k) (quick : k.quick ≡ true) where
  abbrev first : FlowModel
  first = k.base.first

  abbrev AreListedAt : List TimeStep → List ListedPlanStep → Type 0
  AreListedAt ats steps = AllZip (λ at x. IsListedPlanStep first (pairs_in first k.zones at.period) at x) ats steps

  all_bound : PlanStepEncloses → PlanFlowsEnclose → (ats : List TimeStep) (these : (at : TimeStep) → Contains ats at → Contains (times first) at) (old : PlanHeads)
      (steps : List ListedPlanStep) (before after : ℕ → Fraction) (d : ℕ) (Xs Ys : List (ℕ → ℤ)) → ArePlanHeads k old → IsBeforeStep first old before after → 0 < d →
      AreListedAt ats steps → Checks k old ats steps Certified → SolvesPairsFrom k.base k.plan d before after ats Xs Ys → BoundPairs k d before after steps Xs Ys
  all_bound se fe [] these old [] before after d [] [] fit b some l checks h = tt
  all_bound se fe [] these old [] before after d [] (Y ∷ Ys) fit b some l checks h = absurd h
  all_bound se fe [] these old [] before after d (X ∷ Xs) Ys fit b some l checks h = absurd h
  all_bound se fe [] these old (x ∷ xs) before after d Xs Ys fit b some l checks h = absurd l
  all_bound se fe (at ∷ ats) these old [] before after d Xs Ys fit b some l checks h = absurd l
  all_bound se fe (at ∷ ats) these old (x ∷ xs) before after d [] Ys fit b some l checks h = absurd h
  all_bound se fe (at ∷ ats) these old (x ∷ xs) before after d (X ∷ Xs) [] fit b some l checks h = absurd h
  all_bound se fe (at ∷ ats) these old (x ∷ xs) before after d (X ∷ Xs) (Y ∷ Ys) fit b some l (inr stops) h = absurd stops
  all_bound se fe (at ∷ ats) these old (x ∷ xs) before after d (X ∷ Xs) (Y ∷ Ys) fit b some l (inl (passes, rest)) h =
      let time = these at (first_in at ats) in
      let here = bounds_here k task quick at time old fit x passes se fe l.0.time h.0.model h.0.member before after d X Y b some h.0.base h.0.planned in (
        here,
        all_bound se fe ats (λ u i. these u (next_in at ats u i)) (heads_listed x) xs (heads_of d X) (heads_of d Y) d Xs Ys (listed_fit k task at x _ l.0) (record {
          base = lies_encloses first x.base d X some here.base;
          planned = lies_encloses first x.planned d Y some here.planned;
          differences = apart_within first x.differences d X Y some here.differences;
        }) some l.1 rest h.1,
      )

  -- the steps of both plans are turns
  abbrev base_at : ListedPlanStep → List Bound
  base_at x = x.base

  abbrev planned_at : ListedPlanStep → List Bound
  planned_at x = x.planned

  both_turn : (ats : List TimeStep) (these : (at : TimeStep) → Contains ats at → Contains (times first) at) (old : PlanHeads) (steps : List ListedPlanStep) →
      ArePlanHeads k old → AreListedAt ats steps → Checks k old ats steps Certified → AreTurns k.limits k.base k.digits old.base ats (map base_at steps)
      × AreTurns k.limits k.planned k.digits old.planned ats (map planned_at steps)
  both_turn [] these old [] fit l checks = (tt, tt)
  both_turn [] these old (x ∷ xs) fit l checks = absurd l
  both_turn (at ∷ ats) these old [] fit l checks = absurd l
  both_turn (at ∷ ats) these old (x ∷ xs) fit l (inr stops) = absurd stops
  both_turn (at ∷ ats) these old (x ∷ xs) fit l (inl (passes, rest)) =
      let time = these at (first_in at ats) in
      let (bases, plans) = both_turn ats (λ u i. these u (next_in at ats u i)) (heads_listed x) xs (listed_fit k task at x _ l.0) l.1 rest in
      let base_before : IsBefore k.base at old.base = record { decks = task.base; time = time; heads = fit.base } in
      let planned_before : IsBefore k.planned at old.planned = record { decks = task.planned; time = times_planned k task at time; heads = fit.planned } in (
        (turn_to k.limits k.base k.digits at old.base x.base passes.solved.base base_before passes.heads.base, bases),
        (turn_to k.limits k.planned k.digits at old.planned x.planned passes.solved.planned planned_before passes.heads.planned, plans),
      )

pub plans_enclose : StartHeadsFit → StartHeadsEnclose → PlannedLieBetween → PlanStepEncloses → PlanFlowsEnclose → CertifiedPlansEnclose
plans_enclose starts_fit starts_enclose lies step_encloses flows_enclose = record {
  pairs = λ k steps task quick listed verdict d Xs Ys h.
      let a = k.base.first in
      let m = h.first in
      let start = verdict.start in
      let cells = member_cells k.base m h.member in
      let M = with_plan k.plan m in
      let with_wells = planned_member lies k.plan k.base k.planned task.with_wells m h.member in
      let of_base = starts_enclose k.base start.base task.base verdict.is_start.base (start_head m) (member_starts k.base m h.member) in
      let of_planned = encloses_member k.planned.first M (member_cells k.planned M with_wells) start.planned (start_head M)
      (starts_enclose k.planned start.planned task.planned verdict.is_start.planned (start_head M) (member_starts k.planned M with_wells)) in
      let none : (c : ℕ) → EnclosesSigned (lower_at start.differences c) (upper_at start.differences c) 9 (minus (start_head m c) (start_head m c)) = λ c.
      let e : bound_at start.differences c ≡ no_bound = ap (λ (xs : List Bound). bound_at xs c) verdict.is_start.differences ∙ zeros_are_placed (cell_count a.grid) c in
      let P : Bound → Type 0 = λ b. EnclosesSigned b.low b.high 9 (minus (start_head m c) (start_head m c)) in
      subst P (sym e) (nothing_apart (start_head m c)) in
      all_bound k task quick step_encloses flows_enclose (times a) (λ at i. i) start steps (start_head m) (start_head m) d Xs Ys
      (starts_are_heads starts_fit k task start verdict.is_start) (record {
        base = of_base;
        planned = encloses_first a m cells start.planned (start_head m) (λ c i. of_planned c (record { within = i.within; active = i.active }));
        differences = λ c i. none c;
      }) h.some listed.steps verdict.checks h.steps;
  base = λ k steps task quick listed verdict.
      let fit = starts_are_heads starts_fit k task verdict.start verdict.is_start in
      have_one_by k.limits k.base.first k.base.second k.digits verdict.start.base _ (starts_enclose_all k.base verdict.start.base task.base verdict.is_start.base)
      (both_turn k task quick (times k.base.first) (λ at i. i) verdict.start steps fit listed.steps verdict.checks).0;
  planned = λ k steps task quick listed verdict.
      let fit = starts_are_heads starts_fit k task verdict.start verdict.is_start in
      let same : times k.planned.first ≡ times k.base.first = ap (λ (e : Decks). times e.first) task.with_wells ∙ times_same k.base.first k.plan task.long in
      let turns = (both_turn k task quick (times k.base.first) (λ at i. i) verdict.start steps fit listed.steps verdict.checks).1 in
      have_one_by k.limits k.planned.first k.planned.second k.digits verdict.start.planned (map (planned_at k task quick) steps)
      (starts_enclose_all k.planned verdict.start.planned task.planned verdict.is_start.planned)
      (subst (λ (ts : List TimeStep). AreTurns k.limits k.planned k.digits verdict.start.planned ts (map (planned_at k task quick) steps)) (sym same) turns);
}
