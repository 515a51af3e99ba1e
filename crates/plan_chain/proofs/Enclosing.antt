-- A step of two plans encloses both plans' heads, and their differences, in each weather.
use Rattle.plan_chain.proofs.Common.{All, Contains, List, None, Option, Some, ap, arith, get_or, inl, inr, length, pos, refl, subst, sym, true, ℕ, ℤ, ◌*ℤ◌, ◌-ℤ◌, ◌<◌, ◌^◌, ◌∙◌, ◌≡◌, ◌≤ℤ◌, cases_Bool}
use Rattle.plan_chain.proofs.Common.{true≢false, ints, get_or-map, get_or_default, CellEncloses, EnclosesSolutions, ExactCell, LiesBetween, cell_at, no_cell, Fraction, IsOver, IsBefore, IsMember}
use Rattle.plan_chain.proofs.Common.{IsOf, Decks, SolvesAt, exact_step, variable_heads, cell_count, constant_head, index_of, is_active, is_constant, is_variable, times, variable_cells, FlowModel}
use Rattle.plan_chain.proofs.Common.{TimeStep, IsActive, bound_at, StepEncloses, edges_by, IsProblem, entries_at, lower_at, no_bound, no_entries, upper_at, Entries, Bound, IsWell, PlannedLieBetween}
use Rattle.plan_chain.proofs.Common.{with_plan, MembersKeepWellsApart, PlannedSteps, plan_flows, ArePlanHeads, BoundsPair, IsBeforeStep, IsPlanStep, IsPlanTask, PlanStepEncloses, decks_with, heads_in}
use Rattle.plan_chain.proofs.Common.{plan_pairs, PlanHeads, PlanSolved, PlanTask, not, option_map, ◌&&◌, ProblemFits, HasCellsOf, pair_words, cells_same, head_same, variable_same, IsPeriodBetween}
use Rattle.model_types.specs.declared.entry.Entry.{Entry}
use Rattle.std.proofs.Math.IntN.{zero-*ℤ}
use Rattle.cell_balance.proofs.Zips.{AllZip-at, AllZip-length}
use Rattle.certificate_check.specs.{CertificateEncloses}
use Rattle.decimal_input.proofs.FloorLaws.{cancel_right}
use Rattle.decimal_input.specs.Fractions.{den}
use Rattle.deck_span.proofs.ThreeLists.{three_lengths}
use Rattle.flow_equations.proofs.Links.{ids_are}
use Rattle.problem_builder.proofs.Members.{In-Contains, variable-In, variable_active}
use Rattle.step_chain.proofs.{Assembled.active_constant, Assembled.constant_not_variable, Assembled.count_of, Assembled.index_below, Assembled.number_of, Limits.held_by, Limits.uncut_by}
use Rattle.plan_step.proofs.Fits.{is_problem}
use Rattle.plan_chain.proofs.{Members.MemberMove, Members.member_cells, Members.member_move, Settling.times_planned}
use Rattle.plan_step.specs.{IsPlannedStep, SolutionsBoundPlans, AreTwoPlans}

-- a member of the decks, with the plan's wells, is a member of the decks with them
module _ (lies : PlannedLieBetween) (plan : List (List Entry)) where
  by_second : (a : FlowModel) (o : Option FlowModel) (m : FlowModel) → IsOf a o m → IsOf (with_plan plan a) (option_map (with_plan plan) o) (with_plan plan m)
  by_second a None m h = ap (with_plan plan) h
  by_second a (Some b) m h = lies plan a m b h

  pub planned_member : (d e : Decks) → e ≡ decks_with plan d → (m : FlowModel) → IsMember d m → IsMember e (with_plan plan m)
  planned_member d e same m h = subst (λ (x : Decks). IsMember x (with_plan plan m)) (sym same) (by_second d.first d.second m h)

same_periods : (a : FlowModel) (o : Option FlowModel) (m : FlowModel) → IsOf a o m → length m.periods ≡ length a.periods
same_periods a None m h = ap (λ (x : FlowModel). length x.periods) h
same_periods a (Some b) m h = (three_lengths IsPeriodBetween a.periods m.periods b.periods h.periods).0

-- a head over d within a bound
record Holds (b : Bound) (d : ℕ) (x : ℤ) : Type 0 where
  low : (b.low *ℤ pos d) ≤ℤ (x *ℤ pos (10 ^ 9))
  high : (x *ℤ pos (10 ^ 9)) ≤ℤ (b.high *ℤ pos d)

-- no head times a denominator
none_below : (d n : ℕ) → (pos 0 *ℤ pos d) ≤ℤ (pos 0 *ℤ pos n)
none_below d n = rw (zero-*ℤ (pos d), zero-*ℤ (pos n)) (omega (arith, ints))

-- the same head twice
none_apart : (d : ℕ) (x y : ℤ) → x ≡ y → Holds no_bound d (x -ℤ y)
none_apart d x y same =
    let none : x -ℤ y ≡ pos 0 = omega (arith, ints, same) in
    let H : ℤ → Type 0 = λ z. Holds no_bound d z in
    subst H (sym none) (record { low = none_below d (10 ^ 9); high = none_below (10 ^ 9) d })

-- two numbers over one denominator of the same fraction
one_over : (d : ℕ) (f g : Fraction) (x y : ℤ) → g ≡ f → IsOver d f x → IsOver d g y → x ≡ y
one_over d f g x y same p q =
    let here : x *ℤ pos (den f) ≡ y *ℤ pos (den f) = sym p.is ∙ (subst (λ (h : Fraction). h.num *ℤ pos d ≡ y *ℤ pos (den h)) same q.is) in
    let P : ℤ → Type 0 = λ z. (x *ℤ pos (den f)) ≤ℤ z in
    let Q : ℤ → Type 0 = λ z. z ≤ℤ (x *ℤ pos (den f)) in
    let below : x ≤ℤ y = cancel_right (den f) x y (omega arith) (subst P here (omega (arith, ints))) in
    let above : y ≤ℤ x = cancel_right (den f) y x (omega arith) (subst Q here (omega (arith, ints))) in
    omega (arith, ints, below, above)

module _ (problem_fits : ProblemFits) (step_encloses : StepEncloses) (certificate_encloses : CertificateEncloses) (lies : PlannedLieBetween) (planned_steps : PlannedSteps)
    (apart : MembersKeepWellsApart) (solutions_bound : SolutionsBoundPlans) (k : PlanTask) (at : TimeStep) (old : PlanHeads) (v : PlanSolved) (task : IsPlanTask k)
    (time : Contains (times k.base.first) at) (fit : ArePlanHeads k old) (step : IsPlanStep k at old v) where
  pub base_before : IsBefore k.base at old.base
  base_before = record { decks = task.base; time = time; heads = fit.base }

  planned_before : IsBefore k.planned at old.planned
  planned_before = record {
    decks = task.planned;
    time = times_planned k task at time;
    heads = fit.planned;
  }

  module _ (m : FlowModel) (member : IsMember k.base m) (before after : ℕ → Fraction) (d : ℕ) (X Y : ℕ → ℤ) (b : IsBeforeStep m old before after) (some : 0 < d)
      (base : SolvesAt m at before d X) (planned : SolvesAt (with_plan k.plan m) at after d Y) where
    abbrev M : FlowModel
    M = with_plan k.plan m

    abbrev p : ℕ
    p = at.period

    abbrev e : List ExactCell
    e = exact_step m p at.step before

    abbrev f : List ExactCell
    f = exact_step M p at.step after

    pub member_has_cells : HasCellsOf k.base.first m
    member_has_cells = member_cells k.base m member

    pub plan_is_long : length k.plan ≡ length m.periods
    plan_is_long = task.long ∙ sym (same_periods k.base.first k.base.second m member)

    of_planned : (c : ℕ) → IsActive M c → IsActive m c
    of_planned c a = record { within = a.within; active = a.active }

    to_planned : (c : ℕ) → IsActive m c → IsActive M c
    to_planned c a = record { within = a.within; active = a.active }

    pub base_move : MemberMove m k.digits at v.base before d X
    base_move =
        member_move step_encloses k.limits k.base k.digits at old.base (plan_pairs k) v.base base_before step.base m member before d X b.base some base

    planned_move : MemberMove M k.digits at v.planned after d Y
    planned_move =
        member_move step_encloses k.limits k.planned k.digits at old.planned (plan_pairs k) v.planned planned_before step.planned M
        (planned_member lies k.plan k.base k.planned task.with_wells m member) after d Y (λ c a. b.planned c (of_planned c a)) some planned

    apart_by : IsPlannedStep old.differences (plan_flows m k.plan p at.step before) e f
    apart_by =
        planned_steps m k.plan p at.step before after old.differences plan_is_long (subst (λ (n : ℕ). All (All (IsWell n)) k.plan) (sym member_has_cells.count) task.wells)
        (apart k.base m p task.apart member)
        (λ c i. let (is, lt) = variable-In m p (cell_count m.grid) c (In-Contains (variable_cells m p) c i) in
        b.differences c (record { within = lt; active = variable_active m p c is }))

    count_e : length v.base.problem ≡ length e
    count_e = AllZip-length (CellEncloses k.digits) v.base.problem e base_move.step.cells

    as_many : length v.planned.problem ≡ length v.base.problem
    as_many = AllZip-length (CellEncloses k.digits) v.planned.problem f planned_move.step.cells ∙ apart_by.as_many ∙ sym count_e

    count_d : length v.differences.problem ≡ length v.base.problem
    count_d = step.differences.problem.as_many

    pub differences_fit : IsProblem v.differences.problem
    differences_fit =
        is_problem v.base.problem v.planned.problem v.base.bounds v.planned.bounds old.differences v.differences.problem
        (problem_fits k.base k.digits at old.base v.base.problem base_before step.base.posed.problem)
        (problem_fits k.planned k.digits at old.planned v.planned.problem planned_before step.planned.posed.problem) fit.differences.range as_many step.differences.problem

    encloses : EnclosesSolutions v.differences.problem (lower_at v.differences.bounds) (upper_at v.differences.bounds)
    encloses =
        let z = step.differences in
        certificate_encloses v.differences.problem z.barrier v.differences.bounds differences_fit
        (pair_words (plan_pairs k) v.differences.problem (edges_by k.limits z.barrier) v.differences.bounds z.pair) (held_by k.limits v.differences.problem z.barrier z.of_problem)
        z.certificate (uncut_by k.limits v.differences.problem z.barrier differences_fit z.of_problem)

    pub two_plans : AreTwoPlans k.digits v.base.problem v.planned.problem v.base.bounds v.planned.bounds old.differences (plan_flows m k.plan p at.step before) e f d
        (variable_heads e X) (variable_heads f Y)
    two_plans = record {
      base = base_move.step;
      planned = planned_move.step;
      step = apart_by;
      some = some;
      first = base_move.variables;
      second = subst (λ (n : ℕ). LiesBetween n d (variable_heads f Y) (lower_at v.planned.bounds) (upper_at v.planned.bounds)) as_many planned_move.variables;
    }

    pub differences_between : LiesBetween (length v.differences.problem) d (λ c. variable_heads e X c -ℤ variable_heads f Y c) (lower_at v.differences.bounds) (upper_at v.differences.bounds)
    differences_between =
        solutions_bound k.digits v.base.problem v.planned.problem v.differences.problem v.base.bounds v.planned.bounds old.differences (plan_flows m k.plan p at.step before) e f d
        (variable_heads e X) (variable_heads f Y) (lower_at v.differences.bounds) (upper_at v.differences.bounds) step.differences.problem two_plans base.balances
        planned.balances encloses

    -- the number of the cell of an index
    id_of : (i : ℕ) → i < length e → (cell_at e i).id ≡ get_or (variable_cells m p) i 0
    id_of i lt = sym (get_or-map (λ (x : ExactCell). x.id) e i no_cell 0 lt) ∙ ap (λ (xs : List ℕ). get_or xs i 0) (ids_are m p at.step before)

    id_of_planned : (i : ℕ) → i < length e → (cell_at f i).id ≡ (cell_at e i).id
    id_of_planned i lt =
        sym (get_or-map (λ (x : ExactCell). x.id) f i no_cell 0 (omega (arith, lt, apart_by.as_many)))
        ∙ ap (λ (xs : List ℕ). get_or xs i 0) (ids_are M p at.step after ∙ cells_same m k.plan plan_is_long p at.step (cell_count m.grid)) ∙ sym (id_of i lt)

    id_in_problem : (i : ℕ) → i < length e → (entries_at v.differences.problem i).id ≡ (cell_at e i).id
    id_in_problem i lt =
        let inside : i < length v.base.problem = omega (arith, lt, count_e) in
        ap (λ (x : Entries). x.id) (step.differences.problem.cells i inside)
        ∙ (AllZip-at (CellEncloses k.digits) v.base.problem e i no_entries no_cell base_move.step.cells inside).id

    variable_holds : (c : ℕ) → c < cell_count m.grid → is_variable m p c ≡ true → Holds (bound_at v.differences.heads c) d (X c -ℤ Y c)
    variable_holds c lt is =
        let i : ℕ = index_of m p c in
        let inside : i < length e = omega (arith, count_of m p e (ids_are m p at.step before), index_below m p c is lt) in
        let within : i < length v.differences.problem = omega (arith, inside, count_e, count_d) in
        let number : (cell_at e i).id ≡ c = number_of m p c e (ids_are m p at.step before) is lt in
        let here : bound_at v.differences.heads c ≡ bound_at v.differences.bounds i =
        subst (λ (j : ℕ). bound_at v.differences.heads j ≡ bound_at v.differences.bounds i) (id_in_problem i inside ∙ number) (step.differences.heads.variable i within) in
        let B : Bound → Type 0 = λ x. Holds x d (X c -ℤ Y c) in
        let P : ℕ → Type 0 = λ j. Holds (bound_at v.differences.bounds i) d (X j -ℤ Y (cell_at f i).id) in
        let Q : ℕ → Type 0 = λ j. Holds (bound_at v.differences.bounds i) d (X c -ℤ Y j) in
        subst B (sym here) (subst Q (id_of_planned i inside ∙ number) (subst P number (record { low = differences_between.low i within; high = differences_between.high i within })))

    -- a cell of the problem is variable
    none_constant : (c : ℕ) → is_constant m p c ≡ true → (i : ℕ) → i < length v.differences.problem → c ≡ (entries_at v.differences.problem i).id → ⊥
    none_constant c is i within same =
        let inside : i < length e = omega (arith, within, count_e, count_d) in
        let place : i < length (variable_cells m p) = omega (arith, inside, count_of m p e (ids_are m p at.step before)) in
        let number : get_or (variable_cells m p) i 0 ≡ c = sym (same ∙ id_in_problem i inside ∙ id_of i inside) in
        let listed = In-Contains (variable_cells m p) c (i, place, get_or_default (variable_cells m p) i c 0 place ∙ number) in
        true≢false (sym (variable-In m p (cell_count m.grid) c listed).0 ∙ constant_not_variable m p c is)

    planned_constant : (c : ℕ) → is_constant m p c ≡ true → is_constant M p c ≡ true
    planned_constant c is = ap (λ q. is_active m c && not q) (variable_same m k.plan plan_is_long p at.step c) ∙ is

    constant_holds : (c : ℕ) → c < cell_count m.grid → is_constant m p c ≡ true → Holds (bound_at v.differences.heads c) d (X c -ℤ Y c)
    constant_holds c lt is =
        let same : X c ≡ Y c =
        one_over d (constant_head m p at.step c) (constant_head M p at.step c) (X c) (Y c) (head_same m k.plan plan_is_long p at.step c) (base.constant c lt is)
        (planned.constant c lt (planned_constant c is)) in
        let B : Bound → Type 0 = λ x. Holds x d (X c -ℤ Y c) in
        subst B (sym (step.differences.heads.other c (none_constant c is))) (none_apart d (X c) (Y c) same)

    active_holds : (c : ℕ) → IsActive m c → Holds (bound_at v.differences.heads c) d (X c -ℤ Y c)
    active_holds c a = elim (cases_Bool (is_variable m p c)) [
      | inl is ↦ variable_holds c a.within is
      | inr is ↦ constant_holds c a.within (active_constant m p c a.active is)
    ]

    pub bounds : BoundsPair m (heads_in v) d X Y
    bounds = record {
      base = base_move.heads;
      planned = record { low = λ c a. planned_move.heads.low c (to_planned c a); high = λ c a. planned_move.heads.high c (to_planned c a) };
      differences = record { low = λ c a. (active_holds c a).low; high = λ c a. (active_holds c a).high };
    }

pub encloses_pairs : ProblemFits → StepEncloses → CertificateEncloses → PlannedLieBetween → PlannedSteps → MembersKeepWellsApart → SolutionsBoundPlans → PlanStepEncloses
encloses_pairs problem_fits step_encloses certificate_encloses lies planned_steps apart solutions_bound k at old v task time fit step m member before after d X Y b some base planned =
    bounds problem_fits step_encloses certificate_encloses lies planned_steps apart solutions_bound k at old v task time fit step m member before after d X Y b some base planned
