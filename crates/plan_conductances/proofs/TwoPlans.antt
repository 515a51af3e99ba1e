-- The difference of two plans in one weather solves the step of one well, which conducts at least what `low` does and at most what `high` does.
use Rattle.plan_conductances.proofs.Common.{ints, AllZip-right, AtMost, Same, den, plus, nothing_after, same_self, sums_same, total_of_both, ◌≡◌, ℕ, ◌<◌, ap, sym, refl, subst, ◌∙◌, arith, ℤ, pos}
use Rattle.plan_conductances.proofs.Common.{neg_ℤ, ◌+ℤ◌, ◌-ℤ◌, ◌*ℤ◌, List, [], ◌∷◌, ◌++◌, length, All, AllZip, AreLinked, ExactCell, ExactFixed, ExactFlow, ExactLink, SolvesStep, cell_at, drain_flow}
use Rattle.plan_conductances.proofs.Common.{evap_flow, minus, no_link, river_flow, share, AtMost-trans, Same-AtMost, Same-sym, Same-trans, neg_times, Fraction, Ratio, as_fraction, fraction_total}
use Rattle.plan_conductances.proofs.Common.{whole, ArePlansOfAWell, ConductsAtMost, IsCellOfFlow, IsOfOneWell, LinkConductsAtMost, WellLiesBetween, at_well, known_conductance, whole_conductance}
use Rattle.plan_conductances.proofs.Common.{All-append, All-cons, All-nil, AreFlowsApart, IsDifferenceCell, IsDifferenceStep, IsRampBranch, known_differences, slice_index_or}
use Rattle.water_table.proofs.Orders.{plus_rises}
use Rattle.decimal_input.specs.Ratios.{AtMost as RatioAtMost}
use Rattle.plan_difference.proofs.{AnyWeather.equal_ends, DifferenceBalance.difference_solves_it, DifferenceExists.difference_step_exists}
use Rattle.plan_conductances.proofs.OneWells.{drawdown_falls}
use Rattle.step_problem.specs.declared.entry.FlowKind.TheVariants.{Wells}

-- a sum is at least one of its terms, if the other isn't negative
at_most_sum : (f g : Fraction) → AtMost (whole (pos 0)) g → AtMost f (plus f g)
at_most_sum f g h = AtMost-trans (Same-AtMost (Same-sym (nothing_after f))) (plus_rises f f (whole (pos 0)) g (Same-AtMost (same_self f)) h)

abbrev conducts : ExactFixed → Fraction
conducts b = as_fraction b.conductance

conducts_some : (bs : List ExactFixed) → AtMost (whole (pos 0)) (fraction_total conducts bs)
conducts_some [] = Same-AtMost (same_self (whole (pos 0)))
conducts_some (b ∷ bs) =
    AtMost-trans (record { at_most = omega (arith, ints) }) (at_most_sum (conducts b) (fraction_total conducts bs) (conducts_some bs))

totals_at_most : {X Y : Type 0} (R : X → Y → Type 0) (f : X → Fraction) (g : Y → Fraction) → ((x : X) (y : Y) → R x y → AtMost (g y) (f x)) → (xs : List X) (ys : List Y) → AllZip R xs ys →
    AtMost (fraction_total g ys) (fraction_total f xs)
totals_at_most R f g each [] [] h = Same-AtMost (same_self (whole (pos 0)))
totals_at_most R f g each (x ∷ xs) (y ∷ ys) h = plus_rises _ _ _ _ (each x y h.0) (totals_at_most R f g each xs ys h.1)
totals_at_most _ f g each _ _ h = absurd h

-- the branches of a difference to known heads that are the same in both plans
same_conductances : (ps : List ExactFixed) → fraction_total conducts (known_differences ps ps) ≡ fraction_total conducts ps
same_conductances [] = refl
same_conductances (p ∷ ps) = ap (plus (conducts p)) (same_conductances ps)

no_heads : (ps : List ExactFixed) → All (λ b. b.head.num ≡ pos 0) (known_differences ps ps)
no_heads [] = All-nil (λ b. b.head.num ≡ pos 0)
no_heads (p ∷ ps) = All-cons (λ b. b.head.num ≡ pos 0) _ _ (none p.head.num (pos (den p.head))) (no_heads ps)
  where
    none : (z d : ℤ) → z *ℤ d +ℤ neg_ℤ z *ℤ d ≡ pos 0
    none z d = rw neg_times (omega (arith, ints))

-- A branch for a ramp has a known head of 0 and conducts at most what the ramp does.
module _ {X : Type 0} (id : ℕ) (z : Fraction) (own : X → Ratio) (gives other : X → Fraction) (xs : List X) (bs : List ExactFixed)
    (are : AllZip (λ r. IsRampBranch id z (own r) (gives r) (other r)) xs bs) where
  ramp_heads : All (λ b. b.head.num ≡ pos 0) bs
  ramp_heads = AllZip-right (λ r. IsRampBranch id z (own r) (gives r) (other r)) (λ b. b.head.num ≡ pos 0) (λ r b is. ap (λ (f : Fraction). f.num) is.head) xs bs are

  ramps_at_most : AtMost (fraction_total conducts bs) (fraction_total (λ r. as_fraction (own r)) xs)
  ramps_at_most = totals_at_most (λ r. IsRampBranch id z (own r) (gives r) (other r)) (λ r. as_fraction (own r)) conducts (λ r b is. at_most b.conductance (own r) is.at_most) xs bs are
    where
      at_most : (r s : Ratio) → RatioAtMost r s → AtMost (as_fraction r) (as_fraction s)
      at_most r s h = record { at_most = omega (arith, ints, h.cross) }

-- A cell of the differences, where the known heads are the same in both plans.
module _ (v w z : Fraction) (qs : List ExactFlow) (x y g : ExactCell) (is : IsDifferenceCell v w z qs x y g) (steady : y.fixed ≡ x.fixed) where
  fixed_is : g.fixed ≡ known_differences x.fixed x.fixed ++ (is.of_rivers ++ (is.of_drains ++ is.of_evaps))
  fixed_is = is.fixed ∙ ap (λ (ks : List ExactFixed). known_differences x.fixed ks ++ (is.of_rivers ++ (is.of_drains ++ is.of_evaps))) steady

  rivers : AtMost (fraction_total conducts is.of_rivers) (fraction_total (λ r. as_fraction r.conductance) x.rivers)
  rivers = ramps_at_most x.id z (λ r. r.conductance) (river_flow v) (river_flow w) x.rivers is.of_rivers is.rivers

  drains : AtMost (fraction_total conducts is.of_drains) (fraction_total (λ r. as_fraction r.conductance) x.drains)
  drains = ramps_at_most x.id z (λ r. r.conductance) (drain_flow v) (drain_flow w) x.drains is.of_drains is.drains

  evaps : AtMost (fraction_total conducts is.of_evaps) (fraction_total (λ r. as_fraction r.conductance) x.evaps)
  evaps = ramps_at_most x.id z (λ r. r.conductance) (evap_flow v) (evap_flow w) x.evaps is.of_evaps is.evaps

  -- what the difference's branches conduct, by what they are
  abbrev in_parts : Fraction
  in_parts = plus (known_conductance x) (plus (fraction_total conducts is.of_rivers) (plus (fraction_total conducts is.of_drains) (fraction_total conducts is.of_evaps)))

  together : Same (known_conductance g) in_parts
  together =
      rw (fixed_is, ← same_conductances x.fixed)
      (Same-trans (total_of_both conducts (known_differences x.fixed x.fixed) _) (sums_same _ _ _ _ (same_self _)
      (Same-trans (total_of_both conducts is.of_rivers _) (sums_same _ _ _ _ (same_self _) (total_of_both conducts is.of_drains is.of_evaps)))))

  conducts_more : AtMost (known_conductance x) (known_conductance g)
  conducts_more =
      AtMost-trans (at_most_sum (known_conductance x) _ (AtMost-trans (conducts_some is.of_rivers) (at_most_sum _ _
      (AtMost-trans (conducts_some is.of_drains) (at_most_sum _ _ (conducts_some is.of_evaps))))))
      (Same-AtMost (Same-sym together))

  conducts_less : AtMost (whole_conductance g) (whole_conductance x)
  conducts_less =
      rw (is.no_ramps.0, is.no_ramps.1, is.no_ramps.2)
      (AtMost-trans (Same-AtMost (Same-trans (nothing_after (known_conductance g)) together))
      (plus_rises _ _ _ _ (Same-AtMost (same_self (known_conductance x))) (plus_rises _ _ _ _ rivers (plus_rises _ _ _ _ drains evaps))))

  cell_of_flow : (q : Fraction) → Same (fraction_total (λ f. f.flow) qs) q → IsCellOfFlow q g
  cell_of_flow q flow = record {
    flow = rw is.flows flow;
    known = rw fixed_is
        (All-append (λ b. b.head.num ≡ pos 0) _ _ (no_heads x.fixed)
        (All-append (λ b. b.head.num ≡ pos 0) _ _ (ramp_heads x.id z (λ r. r.conductance) (river_flow v) (river_flow w) x.rivers is.of_rivers is.rivers)
        (All-append (λ b. b.head.num ≡ pos 0) _ _ (ramp_heads x.id z (λ r. r.conductance) (drain_flow v) (drain_flow w) x.drains is.of_drains is.drains)
        (ramp_heads x.id z (λ r. r.conductance) (evap_flow v) (evap_flow w) x.evaps is.of_evaps is.evaps))));
    no_ramps = is.no_ramps;
  }

module _ (w : ℕ) (q : Fraction) (e f : List ExactCell) (d : ℕ) (X Y : ℕ → ℤ) (plans : ArePlansOfAWell w q e f d X Y) where
  -- the flow that the base plan has more, as one well
  abbrev more : ℕ → List ExactFlow
  more c = record { kind = Wells; flow = minus (fraction_total (λ x. x.flow) (cell_at e c).flows) (fraction_total (λ x. x.flow) (cell_at f c).flows) } ∷ []

  apart : (c : ℕ) → AreFlowsApart (more c) (cell_at e c) (cell_at f c)
  apart c = record { same = nothing_after _ }

  module _ (g : List ExactCell) (is : IsDifferenceStep d X Y more e f g) where
    cell : (c : ℕ) → c < length e → IsDifferenceCell (share d (X c)) (share d (Y c)) (share d (X c -ℤ Y c)) (more c) (cell_at e c) (cell_at f c) (cell_at g c)
    cell c i = is.cells c i

    linked : AreLinked g
    linked = record {
      range = λ c h. let i = inside c h in subst (λ (ls : List ExactLink). All (λ x. x.cell < length g) ls) (sym (cell c i).links)
          (subst (λ (n : ℕ). All (λ x. x.cell < n) (cell_at e c).links) (sym is.as_many) (plans.apart.linked.range c i));
      apart = λ c a b h. let i = inside c h in
          subst (λ (ls : List ExactLink). a < b → b < length ls → (slice_index_or ls a no_link).cell ≡ (slice_index_or ls b no_link).cell → ⊥) (sym (cell c i).links)
          (plans.apart.linked.apart c a b i);
      ends = equal_ends d X Y more e f g is plans.apart.linked.ends;
    }
      where
        inside : (c : ℕ) → c < length g → c < length e
        inside c h = omega (arith, h, is.as_many)

    one_well : IsOfOneWell w q g
    one_well = record {
      inside = omega (arith, plans.apart.inside, is.as_many);
      linked = linked;
      cells = λ c h. let i : c < length e = omega (arith, h, is.as_many) in
          cell_of_flow _ _ _ (more c) (cell_at e c) (cell_at f c) (cell_at g c) (cell c i) (plans.apart.steady c i) (at_well w q c) (Same-trans (nothing_after _) (plans.apart.apart c i));
    }

    solved : SolvesStep g d (λ c. X c -ℤ Y c)
    solved = difference_solves_it d X Y more e f g plans.some plans.apart.weather (λ c h. apart c) is plans.base plans.planned

    at_least : (low : List ExactCell) → ConductsAtMost low e → ConductsAtMost low g
    at_least low less = record {
      as_many = is.as_many ∙ less.as_many;
      links = λ c h. let i : c < length e = omega (arith, h, less.as_many) in
          subst (λ (ls : List ExactLink). AllZip LinkConductsAtMost (cell_at low c).links ls) (sym (cell c i).links) (less.links c h);
      known = λ c h. let i : c < length e = omega (arith, h, less.as_many) in
          AtMost-trans (less.known c h) (conducts_more _ _ _ (more c) (cell_at e c) (cell_at f c) (cell_at g c) (cell c i) (plans.apart.steady c i));
    }

    at_most : (high : List ExactCell) → ConductsAtMost e high → ConductsAtMost g high
    at_most high greater = record {
      as_many = greater.as_many ∙ sym is.as_many;
      links = λ c h. let i : c < length e = omega (arith, h, is.as_many) in
          subst (λ (ls : List ExactLink). AllZip LinkConductsAtMost ls (cell_at high c).links) (sym (cell c i).links) (greater.links c i);
      known = λ c h. let i : c < length e = omega (arith, h, is.as_many) in
          AtMost-trans (conducts_less _ _ _ (more c) (cell_at e c) (cell_at f c) (cell_at g c) (cell c i) (plans.apart.steady c i)) (greater.known c i);
    }

pub well_lies_between : WellLiesBetween
well_lies_between w q e f low high d j k X Y U L plans above below =
    let (g, is) = difference_step_exists d X Y (more w q e f d X Y plans) e f plans.some in
    let well = one_well w q e f d X Y plans g is in
    let solves = solved w q e f d X Y plans g is in (
      drawdown_falls w q g high d k (λ c. X c -ℤ Y c) L (record {
        takes = plans.takes;
        less = well;
        more = below.well;
        conducts = at_most w q e f d X Y plans g is high below.conducts;
        some = (plans.some, below.some);
        solves = (solves, below.solves);
      }),
      drawdown_falls w q low g j d U (λ c. X c -ℤ Y c) (record {
        takes = plans.takes;
        less = above.well;
        more = well;
        conducts = at_least w q e f d X Y plans g is low above.conducts;
        some = (above.some, plans.some);
        solves = (above.solves, solves);
      }),
    )
