-- The sources of a plan enclose what each term gives more: by the sum of its branches, and by what the sum of all, which is 0, leaves it.
use Rattle.plan_enclosed.proofs.Common.{AllZip, AllZip-length, AreLinked, AreWithin, CellEncloses, ConstantHead, Drains, EnclosesSigned, EnclosesStep, Entries, Et, ExactCell, ExactFixed, ExactFlow}
use Rattle.plan_enclosed.proofs.Common.{Fraction, AreTwoSolutions, HeadDepBounds, IsSameBranch, IsDifferenceStep, IsOver, List, Recharge, RiverLeakage, Same, SolvesStep, SourcesEnclose, ZonesEnclose}
use Rattle.plan_enclosed.proofs.Common.{Storage, Term, TermPair, Wells, [], all_terms, ap, arith, cell_at, clamps, den, enclosed_over, fraction_total, ints, is_listed, length, more_net, pos, refl}
use Rattle.plan_enclosed.proofs.Common.{share, source, subst, sum_by_branches, sym, total, total_below, true, All, ℕ, ℤ, ◌*ℤ◌, ◌*◌, ◌+ℤ◌, ◌+◌, ◌-ℤ◌, ◌<◌, ◌^◌, ◌∙◌, ◌∷◌, ◌≡◌, ◌≤ℤ◌, exact_singles}
use Rattle.plan_enclosed.proofs.Common.{heads_within, add_mul, sub_mul, max_times, min_times, ExactLink, LiesBetween, no_link, cross_trans_signed, last_factors_swap, AreFlowsApart, DifferenceSolvesIt}
use Rattle.plan_enclosed.proofs.Common.{by_balance, slice_index_or, tighter}
use Rattle.plan_step.specs.{DifferencesHaveAStep, IsDifferenceProblem, are_turned, AreTwoPlans}
use Rattle.std.proofs.Math.IntN.{zero-*ℤ}
use Rattle.cell_balance.proofs.Enclosed.{between_over}
use Rattle.plan_step.proofs.Enclosing.{flows_apart}
use Rattle.std.specs.Int.{int_max, int_min}
use Rattle.step_problem.proofs.Leasts.{mul_assoc}
use Rattle.step_problem.specs.declared.heads.Bound.{Bound}
use Rattle.plan_enclosed.proofs.{Balanced.GainsOver, Balanced.gains_none, Gains.exact_gains, Faces.faces_differ, Nets.singles_differ, Nets.totals_differ, Sums.sums_within}

-- bounds of a fraction are bounds of the same number
same_within : (lo hi : ℤ) (s : ℕ) (f g : Fraction) → Same g f → EnclosesSigned lo hi s f → EnclosesSigned lo hi s g
same_within lo hi s f g same h = record {
  lower = cross_trans_signed lo f.num g.num (10 ^ s) (den f) (den g) (omega arith) h.lower (omega (arith, ints, sym same.same));
  upper = cross_trans_signed g.num f.num hi (den g) (den f) (10 ^ s) (omega arith) (omega (arith, ints, same.same)) h.upper;
}

tighter_encloses : (a b c d : ℤ) (k : ℕ) (f : Fraction) → EnclosesSigned a c k f → EnclosesSigned b d k f → EnclosesSigned (int_max a b) (int_min c d) k f
tighter_encloses a b c d k f p q = record {
  lower = rw (max_times (den f) a b) (omega (arith, ints, clamps, p.lower, q.lower));
  upper = rw (min_times (den f) c d) (omega (arith, ints, clamps, p.upper, q.upper));
}

-- numbers that sum to 0 below bounds: each is at least what the sum of all bounds leaves it
least_of_all : (h y : Term → ℤ) → ((x : Term) → y x ≤ℤ h x) → total y all_terms ≡ pos 0 → (t : Term) → (h t -ℤ total h all_terms) ≤ℤ y t
least_of_all h y each none Storage = omega (arith, ints, each Storage, each ConstantHead, each Wells, each Drains, each RiverLeakage, each HeadDepBounds, each Recharge, each Et)
least_of_all h y each none ConstantHead = omega (arith, ints, each Storage, each ConstantHead, each Wells, each Drains, each RiverLeakage, each HeadDepBounds, each Recharge, each Et)
least_of_all h y each none Wells = omega (arith, ints, each Storage, each ConstantHead, each Wells, each Drains, each RiverLeakage, each HeadDepBounds, each Recharge, each Et)
least_of_all h y each none Drains = omega (arith, ints, each Storage, each ConstantHead, each Wells, each Drains, each RiverLeakage, each HeadDepBounds, each Recharge, each Et)
least_of_all h y each none RiverLeakage = omega (arith, ints, each Storage, each ConstantHead, each Wells, each Drains, each RiverLeakage, each HeadDepBounds, each Recharge, each Et)
least_of_all h y each none HeadDepBounds = omega (arith, ints, each Storage, each ConstantHead, each Wells, each Drains, each RiverLeakage, each HeadDepBounds, each Recharge, each Et)
least_of_all h y each none Recharge = omega (arith, ints, each Storage, each ConstantHead, each Wells, each Drains, each RiverLeakage, each HeadDepBounds, each Recharge, each Et)
least_of_all h y each none Et = omega (arith, ints, each Storage, each ConstantHead, each Wells, each Drains, each RiverLeakage, each HeadDepBounds, each Recharge, each Et)

most_of_all : (l y : Term → ℤ) → ((x : Term) → l x ≤ℤ y x) → total y all_terms ≡ pos 0 → (t : Term) → y t ≤ℤ (l t -ℤ total l all_terms)
most_of_all l y each none Storage = omega (arith, ints, each Storage, each ConstantHead, each Wells, each Drains, each RiverLeakage, each HeadDepBounds, each Recharge, each Et)
most_of_all l y each none ConstantHead = omega (arith, ints, each Storage, each ConstantHead, each Wells, each Drains, each RiverLeakage, each HeadDepBounds, each Recharge, each Et)
most_of_all l y each none Wells = omega (arith, ints, each Storage, each ConstantHead, each Wells, each Drains, each RiverLeakage, each HeadDepBounds, each Recharge, each Et)
most_of_all l y each none Drains = omega (arith, ints, each Storage, each ConstantHead, each Wells, each Drains, each RiverLeakage, each HeadDepBounds, each Recharge, each Et)
most_of_all l y each none RiverLeakage = omega (arith, ints, each Storage, each ConstantHead, each Wells, each Drains, each RiverLeakage, each HeadDepBounds, each Recharge, each Et)
most_of_all l y each none HeadDepBounds = omega (arith, ints, each Storage, each ConstantHead, each Wells, each Drains, each RiverLeakage, each HeadDepBounds, each Recharge, each Et)
most_of_all l y each none Recharge = omega (arith, ints, each Storage, each ConstantHead, each Wells, each Drains, each RiverLeakage, each HeadDepBounds, each Recharge, each Et)
most_of_all l y each none Et = omega (arith, ints, each Storage, each ConstantHead, each Wells, each Drains, each RiverLeakage, each HeadDepBounds, each Recharge, each Et)

total-times : (f : Term → ℤ) (j : ℕ) (ts : List Term) → total f ts *ℤ pos j ≡ total (λ t. f t *ℤ pos j) ts
total-times f j [] = zero-*ℤ (pos j)
total-times f j (t ∷ ts) = add_mul (f t) (total f ts) (pos j) ∙ ap (λ (z : ℤ). f t *ℤ pos j +ℤ z) (total-times f j ts)

-- a number over D, in units of 10^-k
in_units : (D k : ℕ) (f : Fraction) (z : ℤ) → IsOver D f z → IsOver (D * 10 ^ k) f (z *ℤ pos (10 ^ k))
in_units D k f z over = record {
  is = sym (mul_assoc f.num (pos D) (pos (10 ^ k))) ∙ ap (λ (n : ℤ). n *ℤ pos (10 ^ k)) over.is ∙ last_factors_swap z (pos (den f)) (pos (10 ^ k));
}

-- numbers of terms over D, which sum to 0, within bounds: each lies in what the sum of all bounds leaves it
module _ (k D : ℕ) (some : 0 < D) (F : Term → Fraction) (z : Term → ℤ) (are : (t : Term) → IsOver D (F t) (z t)) (none : total z all_terms ≡ pos 0) (b : Term → TermPair)
    (each : (t : Term) → EnclosesSigned (b t).lo (b t).hi k (F t)) where
  over : (t : Term) → IsOver (D * 10 ^ k) (F t) (z t *ℤ pos (10 ^ k))
  over t = in_units D k (F t) (z t) (are t)

  y_none : total (λ t. z t *ℤ pos (10 ^ k)) all_terms ≡ pos 0
  y_none = sym (total-times z (10 ^ k) all_terms) ∙ ap (λ (n : ℤ). n *ℤ pos (10 ^ k)) none ∙ zero-*ℤ (pos (10 ^ k))

  lower : (t : Term) → ((by_balance b t).lo *ℤ pos D) ≤ℤ (z t *ℤ pos (10 ^ k))
  lower t =
      rw (sub_mul (b t).hi (total (λ x. (b x).hi) all_terms) (pos D), total-times (λ x. (b x).hi) D all_terms)
      (least_of_all (λ x. (b x).hi *ℤ pos D) (λ x. z x *ℤ pos (10 ^ k))
      (λ x. (between_over (b x).lo (b x).hi k D (F x) (z x *ℤ pos (10 ^ k)) (each x) (over x)).upper) y_none t)

  upper : (t : Term) → (z t *ℤ pos (10 ^ k)) ≤ℤ ((by_balance b t).hi *ℤ pos D)
  upper t =
      rw (sub_mul (b t).lo (total (λ x. (b x).lo) all_terms) (pos D), total-times (λ x. (b x).lo) D all_terms)
      (most_of_all (λ x. (b x).lo *ℤ pos D) (λ x. z x *ℤ pos (10 ^ k))
      (λ x. (between_over (b x).lo (b x).hi k D (F x) (z x *ℤ pos (10 ^ k)) (each x) (over x)).lower) y_none t)

  balance_within : (t : Term) → EnclosesSigned (by_balance b t).lo (by_balance b t).hi k (F t)
  balance_within t = enclosed_over (by_balance b t).lo (by_balance b t).hi k D (F t) (z t *ℤ pos (10 ^ k)) some (over t) (lower t) (upper t)

  tighter_within : (t : Term) → EnclosesSigned (tighter b t).lo (tighter b t).hi k (F t)
  tighter_within t = tighter_encloses (b t).lo (by_balance b t).lo (b t).hi (by_balance b t).hi k (F t) (each t) (balance_within t)

  -- a listed term's source
  pub source_within : (t : Term) → is_listed t ≡ true → EnclosesSigned (source b t).lo (source b t).hi k (F t)
  source_within Storage l = tighter_within Storage
  source_within ConstantHead l = tighter_within ConstantHead
  source_within Wells l = absurd cc
  source_within Drains l = tighter_within Drains
  source_within RiverLeakage l = tighter_within RiverLeakage
  source_within HeadDepBounds l = tighter_within HeadDepBounds
  source_within Recharge l = absurd cc
  source_within Et l = tighter_within Et

kinds_of : (ps qs : List ExactFixed) → AllZip IsSameBranch ps qs → AllZip (λ p q. q.kind ≡ p.kind) ps qs
kinds_of [] [] h = tt
kinds_of [] (q ∷ qs) h = absurd h
kinds_of (p ∷ ps) [] h = absurd h
kinds_of (p ∷ ps) (q ∷ qs) h = (h.0.kind, kinds_of ps qs h.1)

module _ (s : ℕ) (base planned p : List Entries) (xs ys olds : List Bound) (added : ℕ → List ExactFlow) (e f : List ExactCell) (d : ℕ) (X Y l u : ℕ → ℤ)
    (is : IsDifferenceProblem base planned xs ys olds p) (both : AreTwoSolutions s base planned xs ys olds added e f d X Y)
    (between : LiesBetween (length p) d (λ c. X c -ℤ Y c) l u) (g : List ExactCell) (step : IsDifferenceStep d X Y (λ c. are_turned (added c)) e f g)
    (encloses : EnclosesStep s p g) (solves_it : DifferenceSolvesIt)
  where
    abbrev two : AreTwoPlans s base planned xs ys olds added e f d X Y
    two = both.plans

    linked : AreLinked e
    linked = both.linked

    abbrev Z : ℕ → ℤ
    Z c = X c -ℤ Y c

    abbrev zs : ℕ → Fraction
    zs c = share d (X c -ℤ Y c)

    inside : (c : ℕ) → c < length g → c < length e
    inside c lt = omega (arith, lt, step.as_many)

    apart : (c : ℕ) → c < length e → AreFlowsApart (are_turned (added c)) (cell_at e c) (cell_at f c)
    apart c lt = record { same = rw (two.step.cells c lt).flows (flows_apart (cell_at e c).flows (added c)) }

    solves : SolvesStep g d Z
    solves =
        solves_it d X Y (λ c. are_turned (added c)) e f g two.some (record { as_many = two.step.as_many; cells = λ c lt. (two.step.cells c lt).weather })
        (λ c lt. apart c lt) step both.base_solved both.planned_solved

    links_of : (c : ℕ) → c < length g → (cell_at g c).links ≡ (cell_at e c).links
    links_of c lt = (step.cells c (inside c lt)).links

    g_linked : AreLinked g
    g_linked = record {
      range = λ c lt. subst (λ (ls : List ExactLink). All (λ x. x.cell < length g) ls) (sym (links_of c lt))
          (subst (λ (n : ℕ). All (λ x. x.cell < n) (cell_at e c).links) (sym step.as_many) (linked.range c (inside c lt)));
      apart = λ c i j lt. subst
          (λ (ls : List ExactLink). i < j → j < length ls → (slice_index_or ls i no_link).cell ≡ (slice_index_or ls j no_link).cell → ⊥)
          (sym (links_of c lt)) (linked.apart c i j (inside c lt));
      ends = encloses.ends;
    }

    all : GainsOver e g zs
    all =
        gains_none e g d Z g_linked two.some solves (λ c lt. (step.cells c (inside c lt)).no_ramps.0) (λ c lt. (step.cells c (inside c lt)).no_ramps.1)
        (λ c lt. (step.cells c (inside c lt)).no_ramps.2)

    abbrev G : ℕ → Term → Fraction
    G n t = total_below n (λ c. fraction_total (λ q. q) (exact_gains t (cell_at e c) (cell_at g c) (zs c)))

    count : length p ≡ length g
    count = AllZip-length (CellEncloses s) p g encloses.cells

    own : AreWithin (length p) zs l u
    own = heads_within (length p) d Z l u two.some between

    by_branches : (t : Term) → EnclosesSigned (sum_by_branches base p l u t).lo (sum_by_branches base p l u t).hi (s + 9) (G (length g) t)
    by_branches t =
        subst (λ (n : ℕ). EnclosesSigned (sum_by_branches base p l u t).lo (sum_by_branches base p l u t).hi (s + 9) (G n t)) count
        (sums_within s base p e g zs l u two.base.cells encloses.cells (sym is.as_many) own t)

    same_kinds : (c : ℕ) → c < length e → AllZip (λ p q. q.kind ≡ p.kind) (cell_at e c).fixed (cell_at f c).fixed
    same_kinds c lt = kinds_of (cell_at e c).fixed (cell_at f c).fixed (both.network.branches c lt)

    differs : (t : Term) → is_listed t ≡ true → Same (more_net e f d X Y t) (G (length g) t)
    differs t listed =
        rw (two.step.as_many, step.as_many)
        (totals_differ (length e) (λ c. fraction_total (λ q. q) (exact_singles t (cell_at f c) (share d (Y c)))) (λ c. fraction_total (λ q. q) (exact_singles t (cell_at e c) (share d (X c))))
        (λ c. fraction_total (λ q. q) (exact_gains t (cell_at e c) (cell_at g c) (zs c)))
        (λ c lt. singles_differ d two.some X Y c (are_turned (added c)) (cell_at e c) (cell_at f c) (cell_at g c) (step.cells c lt) (two.step.cells c lt).weather (same_kinds c lt) t listed))

    pub sources_within : (t : Term) → is_listed t ≡ true →
        EnclosesSigned (source (sum_by_branches base p l u) t).lo (source (sum_by_branches base p l u) t).hi (s + 9) (more_net e f d X Y t)
    sources_within t listed =
        same_within _ _ (s + 9) (G (length g) t) (more_net e f d X Y t) (differs t listed)
        (source_within (s + 9) all.D all.some (G (length g)) all.value all.are all.none (sum_by_branches base p l u) by_branches t listed)

pub sources_enclose : DifferenceSolvesIt → DifferencesHaveAStep → SourcesEnclose
sources_enclose solves_it have s base planned p xs ys olds added e f d X Y l u is both between t listed =
    let (g, step, encloses) = have s base planned p xs ys olds added e f d X Y is both.plans in
    sources_within s base planned p xs ys olds added e f d X Y l u is both between g step encloses solves_it t listed

pub zones_enclose : DifferencesHaveAStep → ZonesEnclose
zones_enclose have s base planned p xs ys olds added e f d X Y zones low high vs is both all within =
    let XS : ℕ → ℤ = λ c. X (cell_at e c).id in
    let YS : ℕ → ℤ = λ c. Y (cell_at f c).id in
    let (g, step, encloses) = have s base planned p xs ys olds added e f d XS YS is both.plans in
    let each = all s g (λ c. share d (Y c -ℤ X c)) encloses within in
    λ i v lt. same_within _ _ (s + 9) _ _
    (faces_differ zones d both.plans.some X Y e f g both.network (λ c. are_turned (added c)) XS YS step both.linked
    (λ c h. (both.plans.step.cells c h).weather) both.plans.step.as_many _ _) (each i v lt)
