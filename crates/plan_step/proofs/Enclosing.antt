-- The problem of the differences encloses a step of the differences at any heads of both plans within their bounds.
use Rattle.plan_step.proofs.Common.{◌≡◌, ◌≤◌, ◌<◌, ◌+◌, ◌*◌, ◌-◌, ◌^◌, ◌∙◌, mul-pos, ℕ, zero, suc, ap, arith, refl, subst, sym, ℤ, pos, ◌-ℤ◌, ◌*ℤ◌, ◌≤ℤ◌, List, [], ◌∷◌, ◌++◌, length, map, drop}
use Rattle.plan_step.proofs.Common.{AllZip, ints, EnclosesSigned, Fraction, fraction_total, opposite, whole, Same, den, Same-sym, Same-trans, negated_enclosed, Fixed, FixedKind, Flow, Bound, Entries}
use Rattle.plan_step.proofs.Common.{entries_at, no_entries, fraction_over, IsOver-minus, IsOver-none, AllZip-at, AllZip-length, CellEncloses, DrainEncloses, EvapEncloses, ExactCell, ExactFixed}
use Rattle.plan_step.proofs.Common.{ExactFlow, FixedEncloses, FlowEncloses, RiverEncloses, cell_at, drain_flow, evap_flow, minus, no_cell, river_flow, share, AreFlowsApart, IsDifferenceCell}
use Rattle.plan_step.proofs.Common.{IsDifferenceStep, IsRampBranch, known_difference, known_differences, DifferencesHaveAStep, IsApartBy, IsPlannedCell, SolutionsBoundPlans, are_turned, bound_at}
use Rattle.plan_step.proofs.Common.{difference_cell, drain_branch, evap_branch, known_branch, known_high, known_low, river_branch, turned, turned_flow}
use Rattle.cell_balance.proofs.Enclosing.{AllZip-map, same_over}
use Rattle.plan_difference.proofs.{AnyWeather.equal_ends, AnyWeather.related_after, AnyWeather.related_at, DifferenceBalance.difference_solves_it, Sames.difference_of_sums, Sames.nothing_before}
use Rattle.plan_step.proofs.BranchBounds.{drains_are_enclosed, evaps_are_enclosed, rivers_are_enclosed}

-- what each pair of elements has, two lists have
both_chosen : {P R B C : Type 0} (E : P → R → Type 0) (S : R → B → Type 0) (F : P → C) (T : C → B → Type 0) → ((p : P) (r : R) → E p r → (b : B) × S r b × T (F p) b) →
    (ps : List P) (rs : List R) → AllZip E ps rs → (bs : List B) × AllZip S rs bs × AllZip T (map F ps) bs
both_chosen E S F T each [] [] all = ([], tt, tt)
both_chosen E S F T each [] (r ∷ rs) all = absurd all
both_chosen E S F T each (p ∷ ps) [] all = absurd all
both_chosen E S F T each (p ∷ ps) (r ∷ rs) all =
    let (b, s, t) = each p r all.0 in
    let (bs, ss, ts) = both_chosen E S F T each ps rs all.1 in
    (b ∷ bs, (s, ss), (t, ts))

-- what each index has, a list has
listed : (n : ℕ) (Q : ℕ → ExactCell → Type 0) → ((c : ℕ) → c < n → (x : ExactCell) × Q c x) → (g : List ExactCell) × (length g ≡ n) × ((c : ℕ) → c < n → Q c (cell_at g c))
listed zero Q each = ([], refl, λ c h. absurd (omega arith))
listed (suc n) Q each =
    let (x, q) = each 0 (omega arith) in
    let (g, many, at) = listed n (λ c. Q (suc c)) (λ c h. each (suc c) (omega arith)) in
    (x ∷ g, ap suc many, first n Q x g q at)
  where
    first : (n : ℕ) (Q : ℕ → ExactCell → Type 0) (x : ExactCell) (g : List ExactCell) → Q 0 x → ((c : ℕ) → c < n → Q (suc c) (cell_at g c)) → (c : ℕ) → c < suc n → Q c (cell_at (x ∷ g) c)
    first n Q x g q at zero h = q
    first n Q x g q at (suc c) h = at c (omega arith)

zip_drop : {A B : Type 0} (R : A → B → Type 0) (n : ℕ) (ps : List A) (xs ys : List B) → n ≡ length xs → AllZip R ps (xs ++ ys) → AllZip R (drop n ps) ys
zip_drop R zero ps [] ys e all = all
zip_drop R zero ps (x ∷ xs) ys e all = absurd (omega (arith, e))
zip_drop R (suc n) ps [] ys e all = absurd (omega (arith, e))
zip_drop R (suc n) [] (x ∷ xs) ys e all = absurd all
zip_drop R (suc n) (p ∷ ps) (x ∷ xs) ys e all = zip_drop R n ps xs ys (omega (arith, e)) all.1

module _ (s : ℕ) where
  flow_turned : (p : Flow) (q : ExactFlow) → FlowEncloses s p q → FlowEncloses s (turned p) (turned_flow q)
  flow_turned p q h = record { kind = h.kind; flow = negated_enclosed p.lo p.hi (s + 9) q.flow h.flow }

  known_enclosed : (old : Bound) (ps : List Fixed) (xs ys : List ExactFixed) → AllZip (FixedEncloses s) ps xs → AllZip (IsApartBy old) xs ys →
      AllZip (FixedEncloses s) (map (known_branch old) ps) (known_differences xs ys)
  known_enclosed old [] [] ys h k = tt
  known_enclosed old [] (x ∷ xs) ys h k = absurd h
  known_enclosed old (p ∷ ps) [] ys h k = absurd h
  known_enclosed old (p ∷ ps) (x ∷ xs) [] h k = absurd k
  known_enclosed old (p ∷ ps) (x ∷ xs) (y ∷ ys) h k = (one p x y h.0 k.0, known_enclosed old ps xs ys h.1 k.1)
    where
      one : (p : Fixed) (x y : ExactFixed) → FixedEncloses s p x → IsApartBy old x y → FixedEncloses s (known_branch old p) (known_difference x y)
      one p x y h k = record {
        kind = h.kind;
        source = h.source;
        conductance = h.conductance;
        head = subst (λ (kind : FixedKind). EnclosesSigned (known_low old kind) (known_high old kind) 9 (minus x.head y.head)) (sym h.kind) k.head;
      }

  -- one cell
  module _ (d : ℕ) (some : 0 < d) (X Y : ℤ) (v w old : Bound) (first : EnclosesSigned v.low v.high 9 (share d X)) (second : EnclosesSigned w.low w.high 9 (share d Y)) where
    abbrev IsStepCell : Entries → Entries → List ExactFlow → ExactCell → ExactCell → ExactCell → Type 0
    IsStepCell p q added x y g = IsDifferenceCell (share d X) (share d Y) (share d (X -ℤ Y)) (are_turned added) x y g × CellEncloses s (difference_cell v w old p q) g

    step_cell : (p q : Entries) (added : List ExactFlow) (x y : ExactCell) → CellEncloses s p x → CellEncloses s q y → IsPlannedCell old added x y → (g : ExactCell) × IsStepCell p q added x y g
    step_cell p q added x y base other planned =
        let (rs, rivers, rivers_in) = both_chosen (RiverEncloses s) (λ r.
        IsRampBranch x.id (share d (X -ℤ Y)) r.conductance (river_flow (share d X) r) (river_flow (share d Y) r)) (river_branch p.id v w)
        (FixedEncloses s)
        (λ e r h. subst (λ (id : ℕ). (b : ExactFixed) ×
        IsRampBranch id (share d (X -ℤ Y)) r.conductance (river_flow (share d X) r) (river_flow (share d Y) r) b ×
        FixedEncloses s (river_branch p.id v w e) b)
        base.id (rivers_are_enclosed s p.id d X Y v w e r some h first second)) p.rivers x.rivers base.rivers in
        let (ds, drains, drains_in) = both_chosen (DrainEncloses s) (λ r.
        IsRampBranch x.id (share d (X -ℤ Y)) r.conductance (drain_flow (share d X) r) (drain_flow (share d Y) r)) (drain_branch p.id v w)
        (FixedEncloses s)
        (λ e r h. subst (λ (id : ℕ). (b : ExactFixed) ×
        IsRampBranch id (share d (X -ℤ Y)) r.conductance (drain_flow (share d X) r) (drain_flow (share d Y) r) b ×
        FixedEncloses s (drain_branch p.id v w e) b)
        base.id (drains_are_enclosed s p.id d X Y v w e r some h first second)) p.drains x.drains base.drains in
        let (es, evaps, evaps_in) = both_chosen (EvapEncloses s) (λ r.
        IsRampBranch x.id (share d (X -ℤ Y)) r.conductance (evap_flow (share d X) r) (evap_flow (share d Y) r)) (evap_branch p.id v w) (FixedEncloses s)
        (λ e r h. subst (λ (id : ℕ). (b : ExactFixed) × IsRampBranch id (share d (X -ℤ Y)) r.conductance (evap_flow (share d X) r) (evap_flow (share d Y) r) b ×
        FixedEncloses s (evap_branch p.id v w e) b)
        base.id (evaps_are_enclosed s p.id d X Y v w e r some h first second)) p.evaps x.evaps base.evaps in
        let known = known_enclosed old p.fixed x.fixed y.fixed base.fixed planned.apart in
        let flows : AllZip (FlowEncloses s) q.flows (x.flows ++ added) = subst (λ (qs : List ExactFlow). AllZip (FlowEncloses s) q.flows qs) planned.flows other.flows in (
          record { id = x.id; flows = are_turned added; links = x.links; fixed = known_differences x.fixed y.fixed ++ (rs ++ (ds ++ es)); rivers = []; drains = []; evaps = [] },
          (
            record {
              id = refl;
              flows = refl;
              links = refl;
              of_rivers = rs;
              of_drains = ds;
              of_evaps = es;
              fixed = refl;
              rivers = rivers;
              drains = drains;
              evaps = evaps;
              no_ramps = (refl, refl, refl);
            },
            record {
              id = base.id;
              flows = AllZip-map (FlowEncloses s) (FlowEncloses s) turned turned_flow flow_turned _ _
                  (zip_drop (FlowEncloses s) (length p.flows) q.flows x.flows added (AllZip-length (FlowEncloses s) p.flows x.flows base.flows) flows);
              links = base.links;
              fixed = related_after (FixedEncloses s) _ _ _ _ known
                  (related_after (FixedEncloses s) _ _ _ _ rivers_in (related_after (FixedEncloses s) _ _ _ _ drains_in evaps_in));
              rivers = tt;
              drains = tt;
              evaps = tt;
            },
          ),
        )

-- a head over d within its bounds
head_within : (d : ℕ) → 0 < d → (z lo hi : ℤ) → (lo *ℤ pos d) ≤ℤ (z *ℤ pos (10 ^ 9)) → (z *ℤ pos (10 ^ 9)) ≤ℤ (hi *ℤ pos d) → EnclosesSigned lo hi 9 (share d z)
head_within d some z lo hi low high =
    let same : d ≡ suc (d - 1) = omega arith in
    record {
      lower = subst (λ (k : ℕ). (lo *ℤ pos k) ≤ℤ (z *ℤ pos (10 ^ 9))) same low;
      upper = subst (λ (k : ℕ). (z *ℤ pos (10 ^ 9)) ≤ℤ (hi *ℤ pos k)) same high;
    }

abbrev IsCellAt : ℕ → List Entries → List Entries → List Bound → List Bound → List Bound → (ℕ → List ExactFlow) → List ExactCell → List ExactCell → ℕ → (ℕ → ℤ) → (ℕ → ℤ) → ℕ → ExactCell → Type 0
IsCellAt s base planned xs ys olds added e f d X Y c g =
    IsDifferenceCell (share d (X c)) (share d (Y c)) (share d (X c -ℤ Y c)) (are_turned (added c)) (cell_at e c) (cell_at f c) g
    × CellEncloses s (difference_cell (bound_at xs c) (bound_at ys c) (bound_at olds (entries_at base c).id) (entries_at base c) (entries_at planned c)) g

pub differences_have_a_step : DifferencesHaveAStep
differences_have_a_step s base planned p xs ys olds added e f d X Y is plans =
    let (g, many, at) = listed (length e) (IsCellAt s base planned xs ys olds added e f d X Y) each in
    let step : IsDifferenceStep d X Y (λ c. are_turned (added c)) e f g = record { as_many = many; cells = λ c h. (at c h).0 } in (
      g,
      step,
      record {
        cells = related_at (CellEncloses s) no_entries no_cell p g (is.as_many ∙ same ∙ sym many)
            (λ c h. let here : c < length e = omega (arith, h, is.as_many, same) in
            subst (λ (x : Entries). CellEncloses s x (cell_at g c)) (sym (is.cells c (omega (arith, here, same)))) (at c here).1);
        ends = equal_ends d X Y (λ c. are_turned (added c)) e f g step plans.base.ends;
      },
    )
  where
    same : length base ≡ length e
    same = AllZip-length (CellEncloses s) base e plans.base.cells

    other : length planned ≡ length f
    other = AllZip-length (CellEncloses s) planned f plans.planned.cells

    each : (c : ℕ) → c < length e → (g : ExactCell) × IsCellAt s base planned xs ys olds added e f d X Y c g
    each c h =
        let in_base : c < length base = omega (arith, h, same) in
        let in_other : c < length planned = omega (arith, h, other, plans.step.as_many) in
        let first = AllZip-at (CellEncloses s) base e c no_entries no_cell plans.base.cells in_base in
        let second = AllZip-at (CellEncloses s) planned f c no_entries no_cell plans.planned.cells in_other in
        step_cell s d plans.some (X c) (Y c) (bound_at xs c) (bound_at ys c) (bound_at olds (entries_at base c).id)
        (head_within d plans.some (X c) (bound_at xs c).low (bound_at xs c).high (plans.first.low c in_base) (plans.first.high c in_base))
        (head_within d plans.some (Y c) (bound_at ys c).low (bound_at ys c).high (plans.second.low c in_base) (plans.second.high c in_base))
        (entries_at base c) (entries_at planned c) (added c) (cell_at e c) (cell_at f c) first second
        (subst (λ (id : ℕ). IsPlannedCell (bound_at olds id) (added c) (cell_at e c) (cell_at f c)) (sym first.id) (plans.step.cells c h))

-- the plan's flows, turned round, are what the base plan has more
pub flows_apart : (xs added : List ExactFlow) → Same (fraction_total (λ q. q.flow) (are_turned added)) (minus (fraction_total (λ q. q.flow) xs) (fraction_total (λ q. q.flow) (xs ++ added)))
flows_apart xs added = Same-sym (apart xs added)
  where
    none : (added : List ExactFlow) → Same (minus (whole (pos 0)) (fraction_total (λ q. q.flow) added)) (fraction_total (λ q. q.flow) (are_turned added))
    none [] = record { same = refl }
    none (q ∷ qs) = difference_of_sums (whole (pos 0)) (whole (pos 0)) q.flow (fraction_total (λ q. q.flow) qs) (opposite q.flow) _ (Same-sym (nothing_before (opposite q.flow))) (none qs)

    itself : (f : Fraction) → Same (minus f f) (whole (pos 0))
    itself f =
        let (z, over) = fraction_over (den f) 1 f (1, omega arith) in
        same_over (den f * 1) (minus f f) (whole (pos 0)) (z -ℤ z) (pos 0) (mul-pos (omega arith) (omega arith)) (IsOver-minus (den f * 1) f f z z over over)
        (IsOver-none (den f * 1)) (omega (arith, ints))

    apart : (xs added : List ExactFlow) → Same (minus (fraction_total (λ q. q.flow) xs) (fraction_total (λ q. q.flow) (xs ++ added))) (fraction_total (λ q. q.flow) (are_turned added))
    apart [] added = none added
    apart (x ∷ xs) added = Same-trans (difference_of_sums x.flow (fraction_total (λ q. q.flow) xs) x.flow (fraction_total (λ q. q.flow) (xs ++ added))
        (whole (pos 0)) _ (itself x.flow) (apart xs added))
        (Same-sym (nothing_before (fraction_total (λ q. q.flow) (are_turned added))))

pub solutions_bound_plans : SolutionsBoundPlans
solutions_bound_plans s base planned p xs ys olds added e f d X Y l u is plans solves_base solves_planned encloses =
    let (g, step, enclosed) = differences_have_a_step s base planned p xs ys olds added e f d X Y is plans in
    encloses s g d (λ c. X c -ℤ Y c) enclosed plans.some
    (difference_solves_it d X Y (λ c. are_turned (added c)) e f g plans.some (record { as_many = plans.step.as_many; cells = λ c h. (plans.step.cells c h).weather })
    (λ c h. apart c h) step solves_base solves_planned)
  where
    apart : (c : ℕ) → c < length e → AreFlowsApart (are_turned (added c)) (cell_at e c) (cell_at f c)
    apart c h = record { same = rw (plans.step.cells c h).flows (flows_apart (cell_at e c).flows (added c)) }
