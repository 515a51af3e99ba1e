-- A net flow lies between the bounds of its In and Out, and so in minus the sum of the others.
use Rattle.exact_budgets.proofs.Common.{◌≡◌, ℕ, ◌+◌, ◌^◌, refl, sym, arith, ℤ, pos, neg_ℤ, ◌+ℤ◌, ◌-ℤ◌, List, [], ◌∷◌, Bool, true, false, not, ◌<◌, inl, inr, ap, subst, map, Option, filter, ints}
use Rattle.exact_budgets.proofs.Common.{Fraction, opposite, fraction_total, EnclosesSigned, den, Same, total, In, Out, Term, Storage, ExactCell, AreLinked, IsOver-negated, same_over, plus_encloses}
use Rattle.exact_budgets.proofs.Common.{none_encloses, is_term, all_terms, bounds_in, BudgetEncloses, exact_term, net_flow, net_lower, net_upper, others, lower_by_others, upper_by_others, NetTermsLie}
use Rattle.exact_budgets.proofs.Common.{NetTermsLieInTheOthers, StepsHaveTheirTimes, CertifiedHaveTheirTimes, NetTermsLieAt, AllNetTermsLie, heads_of, variable_heads, SolvesAt, SolvesFrom, exact_step}
use Rattle.decimal_input.proofs.FloorLaws.{cross_trans_signed, negated_enclosed}
use Rattle.budget_bounds.specs.declared.pair.Budget.{Budget}
use Rattle.exact_budgets.proofs.Balance.{TermsOver, over_terms, net_over, terms_over, solutions_balance}
use Rattle.model_types.specs.{declared.limits.Limits.Limits, declared.model.FlowModel.FlowModel, declared.time_steps.TimeStep.TimeStep, start_head, times, IsModel}
use Rattle.step_problem.specs.declared.heads.Bound.{Bound}
use Rattle.flow_equations.proofs.Links.{are_linked}
use Rattle.listing_io.specs.declared.listing.ListedStep.{ListedStep}
use Rattle.check_run.specs.{declared.verdict.ListingVerdict.TheVariants.Certified, Checks, steps_of}
use Rattle.deck_problems.specs.{declared.decks.Decks.Decks, one_deck}
use Rattle.listing_run.specs.{declared.steps.Task.Task, declared.solving.Step.Step, declared.text.ListingEnd.TheVariants.Whole, Steps, one_task, Bounds, BoundAll}

-- bounds of a fraction are bounds of the same number
same_encloses : (lo hi : ℤ) (s : ℕ) (f g : Fraction) → Same f g → EnclosesSigned lo hi s f → EnclosesSigned lo hi s g
same_encloses lo hi s f g same h = record {
  lower = cross_trans_signed lo f.num g.num (10 ^ s) (den f) (den g) (omega arith) h.lower (omega (arith, ints, same.same));
  upper = cross_trans_signed g.num f.num hi (den g) (den f) (10 ^ s) (omega arith) (omega (arith, ints, sym same.same)) h.upper;
}

terms_enclose : (lo hi : Term → ℤ) (k : ℕ) (f : Term → Fraction) → ((t : Term) → EnclosesSigned (lo t) (hi t) k (f t)) → (ts : List Term) →
    EnclosesSigned (total lo ts) (total hi ts) k (fraction_total f ts)
terms_enclose lo hi k f each [] = none_encloses k
terms_enclose lo hi k f each (t ∷ ts) = plus_encloses _ _ _ _ k (f t) (fraction_total f ts) (each t) (terms_enclose lo hi k f each ts)

-- a sum over all terms that is 0: each one is minus the sum of the others
split : (p : Term → Bool) (z : Term → ℤ) (ts : List Term) → total z ts ≡ total z (filter p ts) +ℤ total z (filter (λ x. not (p x)) ts)
split p z [] = refl
split p z (t ∷ ts) = one_more (p t) refl (split p z ts)
  where
    one_more : (b : Bool) → p t ≡ b → total z ts ≡ total z (filter p ts) +ℤ total z (filter (λ x. not (p x)) ts) → total z (t ∷ ts) ≡
        total z (filter p (t ∷ ts)) +ℤ total z (filter (λ x. not (p x)) (t ∷ ts))
    one_more true e rest = rw e (omega (arith, ints))
    one_more false e rest = rw e (omega (arith, ints))

own : (z : Term → ℤ) (t : Term) → total z (filter (λ x. is_term x t) all_terms) ≡ z t +ℤ pos 0
own z Storage = refl
own z x = refl

left_over : (z : Term → ℤ) → total z all_terms ≡ pos 0 → (t : Term) → z t ≡ neg_ℤ (total z (others t))
left_over z none t = omega (arith, ints, split (λ x. is_term x t) z all_terms, own z t)

as_differences : (k : ℕ) (a b c d : ℤ) (f : Fraction) → EnclosesSigned (a +ℤ neg_ℤ b) (c +ℤ neg_ℤ d) k f → EnclosesSigned (a -ℤ b) (c -ℤ d) k f
as_differences k a b c d f h = grind (arith)

module _ (s : ℕ) (e : List ExactCell) (h : ℕ → Fraction) (b : Budget) (o : TermsOver e h) (encloses : BudgetEncloses s e h b) where
  listed : (t : Term) → EnclosesSigned (net_lower b t) (net_upper b t) (s + 9) (net_flow e h t)
  listed t = as_differences (s + 9) (bounds_in b In t).lo (bounds_in b Out t).hi (bounds_in b In t).hi (bounds_in b Out t).lo (net_flow e h t)
      (plus_encloses (bounds_in b In t).lo (bounds_in b In t).hi (neg_ℤ (bounds_in b Out t).hi) (neg_ℤ (bounds_in b Out t).lo) (s + 9) (exact_term e h In t)
      (opposite (exact_term e h Out t)) (encloses In t) (negated_enclosed (bounds_in b Out t).lo (bounds_in b Out t).hi (s + 9) (exact_term e h Out t)
      (encloses Out t)))

  in_the_others : (t : Term) → EnclosesSigned (lower_by_others b t) (upper_by_others b t) (s + 9) (net_flow e h t)
  in_the_others t =
      same_encloses (lower_by_others b t) (upper_by_others b t) (s + 9) (opposite (fraction_total (net_flow e h) (others t))) (net_flow e h t)
      (same_over o.D _ _ _ _ o.some (IsOver-negated o.D _ _ (over_terms o.D (net_flow e h) (λ x. o.into x -ℤ o.out x) (net_over e h o) (others t)))
      (net_over e h o t) (sym (left_over (λ x. o.into x -ℤ o.out x) o.none t)))
      (negated_enclosed (total (net_lower b) (others t)) (total (net_upper b) (others t)) (s + 9) (fraction_total (net_flow e h) (others t))
      (terms_enclose (net_lower b) (net_upper b) (s + 9) (net_flow e h) listed (others t)))

  pub net_terms_lie : NetTermsLie s e h b
  net_terms_lie = record { listed = listed; in_the_others = in_the_others }

-- The budgets of a history, step by step: by induction on the time steps.
module _ (limits : Limits) (m : FlowModel) (s : ℕ) (zones : Option (List ℕ)) (rounds : ℕ) (quick : Bool) (valid : IsModel m) (d : ℕ) (some : 0 < d) where
  abbrev task : Task
  task = one_task limits m s zones rounds quick

  one_step : (v : Step) (before : ℕ → Fraction) (X : ℕ → ℤ) → SolvesAt m v.at before d X → Bounds task m v (exact_step m v.at.period v.at.step before) d X → NetTermsLieAt m s v before d X
  one_step v before X solves bounds = record {
    balanced = solutions_balance e d Y linked some solves.balances;
    nets = net_terms_lie s e (heads_of d Y) v.budget (terms_over e d Y linked some solves.balances) bounds.budget;
  }
    where
      e : List ExactCell
      e = exact_step m v.at.period v.at.step before

      Y : ℕ → ℤ
      Y = variable_heads e X

      linked : AreLinked e
      linked = are_linked m v.at.period v.at.step before valid.grid.size

  all_steps : (steps : List TimeStep) (values : List Step) (before : ℕ → Fraction) (Xs : List (ℕ → ℤ)) → map (λ v. v.at) values ≡ steps →
      SolvesFrom m d before steps Xs → BoundAll task m d before values Xs → AllNetTermsLie m s d before values Xs
  all_steps steps [] before [] e h b = tt
  all_steps steps [] before (X ∷ Xs) e h b = absurd b
  all_steps steps (v ∷ values) before [] e h b = absurd b
  all_steps steps (v ∷ values) before (X ∷ Xs) e h b =
      let solves = subst (λ (ts : List TimeStep). SolvesFrom m d before ts (X ∷ Xs)) (sym e) h in
      (one_step v before X solves.0 b.0, all_steps (map (λ v. v.at) values) values (heads_of d X) Xs refl solves.1 b.1)

pub net_terms_lie_in_the_others : NetTermsLieInTheOthers
net_terms_lie_in_the_others limits m s zones rounds quick values valid at encloses d history solves =
    all_steps limits m s zones rounds quick valid d solves.some (times m) values (start_head m) history at solves.steps (encloses d history solves)

times_of : (k : Task) (steps : List TimeStep) (values : List Step) (old : List Bound) → Steps k old steps values Whole → map (λ v. v.at) values ≡ steps
times_of k [] [] old h = refl
times_of k [] (v ∷ values) old h = absurd h
times_of k (at ∷ steps) [] old h = absurd h
times_of k (at ∷ steps) (v ∷ values) old h = rw (h.0.time, times_of k steps values v.heads h.1) refl

pub steps_have_their_times : StepsHaveTheirTimes
steps_have_their_times k values all = times_of k (times k.decks.first) values all.start all.steps

certified_times : (limits : Limits) (m : Decks) (s : ℕ) (zones : Option (List ℕ)) (times : List TimeStep) (steps : List ListedStep) (old : List Bound) →
    Checks limits m s zones old times steps Certified → map (λ v. v.at) (steps_of times steps) ≡ times
certified_times limits m s zones [] steps old h = refl
certified_times limits m s zones (at ∷ rest) [] old h = absurd h
certified_times limits m s zones (at ∷ rest) (w ∷ steps) old (inl h) = ap (λ (ts : List TimeStep). at ∷ ts) (certified_times limits m s zones rest steps w.heads h.1)
certified_times limits m s zones (at ∷ rest) (w ∷ steps) old (inr h) = absurd h

pub certified_have_their_times : CertifiedHaveTheirTimes
certified_have_their_times limits m s zones steps verdict = certified_times limits (one_deck m) s zones (times m) steps verdict.start verdict.checks
