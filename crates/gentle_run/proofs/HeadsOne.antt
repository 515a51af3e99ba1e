-- The heads of a step have one cause of failing.
use Rattle.gentle_run.proofs.Common.{◌≡◌, ◌∙◌, ℕ, ◌<◌, inl, inr, List, Err, Ok, ap, refl, subst, sym, FlowModel, TimeStep, ConvertibleLayers, Bound, cases_order, Entries, NoBound, Side, High, Low}
use Rattle.gentle_run.proofs.Common.{Place, number_of, cell_count, not_refused, same_problem, same_refusal, ConstantsReach, HaveSigns, IsFirstShort, IsFirstWeak, IsGentlyListed, IsSteep}
use Rattle.gentle_run.proofs.Common.{StoredWaterFits, no_high_problem, no_low_problem, no_storage, AreSidesPosed, HasSignAt, IsRefused, ReachesAt}
use Rattle.step_problem.specs.{declared.refusal.StepRefusal.TheVariants.ConductanceTooLarge, declared.place.Place.TheVariants.Cell}
use Rattle.gentle_heads.specs.{IsFirstSteep}
use Rattle.gentle_run.proofs.Firsts.{first_is_one, side_is_one}

module _ (m : FlowModel) (w : ConvertibleLayers) (s : ℕ) (at : TimeStep) (heads : List Bound) where
  first_steep_is_one : (c d : ℕ) → IsFirstSteep m w at.period heads c → IsFirstSteep m w at.period heads d → c ≡ d
  first_steep_is_one c d f g = elim (cases_order c d) [
    | inl same ↦ same
    | inr (inl less) ↦ absurd (f.steep (g.before c less f.active.active))
    | inr (inr more) ↦ absurd (g.steep (f.before d more g.active.active))
  ]

  pub steep_is_one : (c d : ℕ) → IsSteep m w at heads c → IsSteep m w at heads d → c ≡ d
  steep_is_one c d (inl f) (inl g) = first_is_one _ (cell_count m.grid) c d f g
  steep_is_one c d (inl f) (inr (ordered, g)) = absurd (f.fails (ordered c f.within))
  steep_is_one c d (inr (ordered, f)) (inl g) = absurd (g.fails (ordered d g.within))
  steep_is_one c d (inr (ordered, f)) (inr (also, g)) = first_steep_is_one c d f g

  pub gentle_is_not_steep : (c : ℕ) → IsSteep m w at heads c → IsGentlyListed m w at heads → ⊥
  gentle_is_not_steep c (inl f) gently = f.fails (gently.ordered c f.within)
  gentle_is_not_steep c (inr (ordered, f)) gently = f.steep (gently.gentle c f.active)

  pub refusal_is_one : (a b : NoBound) → IsRefused m w s at heads a → IsRefused m w s at heads b → a ≡ b
  refusal_is_one a b (no_low_problem h) (no_low_problem k) = same_refusal h k
  refusal_is_one a b (no_low_problem h) (no_high_problem p low k) = absurd (not_refused low h)
  refusal_is_one a b (no_low_problem h) (no_storage p q c low high f e) = absurd (not_refused low h)
  refusal_is_one a b (no_high_problem p low h) (no_low_problem k) = absurd (not_refused low k)
  refusal_is_one a b (no_high_problem p low h) (no_high_problem r also k) = same_refusal h k
  refusal_is_one a b (no_high_problem p low h) (no_storage r q c also high f e) = absurd (not_refused high h)
  refusal_is_one a b (no_storage p q c low high f e) (no_low_problem k) = absurd (not_refused low k)
  refusal_is_one a b (no_storage p q c low high f e) (no_high_problem r also k) = absurd (not_refused high k)
  refusal_is_one a b (no_storage p q c low high f e) (no_storage r t d also more g k) =
      let n = number_of ConductanceTooLarge in
      e ∙ ap (λ (i : ℕ). record { code = n; place = Cell i Low }) (first_is_one (StoredWaterFits m w s at) (cell_count m.grid) c d f g) ∙ sym k

  pub posed_is_not_refused : (n : NoBound) (p q : List Entries) → IsRefused m w s at heads n → AreSidesPosed m w s at heads p q → ⊥
  posed_is_not_refused n p q (no_low_problem h) posed = not_refused posed.low h
  posed_is_not_refused n p q (no_high_problem r low h) posed = not_refused posed.high h
  posed_is_not_refused n p q (no_storage r t c low high f e) posed = f.fails (posed.stored c f.within)

  pub short_is_one : (c d : ℕ) (x y : Side) → IsFirstShort m at heads c x → IsFirstShort m at heads d y → (c ≡ d) × (x ≡ y)
  short_is_one c d x y f g =
      let same = first_is_one _ (cell_count m.grid) c d f.first g.first in
      let P : ℕ → Type 0 = λ k. IsFirstShort m at heads k x in
      let moved = subst P same f in
      (same, side_is_one (ReachesAt m at heads d) x y moved.short g.short)

  pub weak_is_one : (old : List Bound) (p q : List Entries) (i k : ℕ) (x y : Side) → IsFirstWeak m w s at old heads p q i x → IsFirstWeak m w s at old heads p q k y → (i ≡ k) × (x ≡ y)
  weak_is_one old p q i k x y f g =
      let same = first_is_one _ _ i k f.first g.first in
      let P : ℕ → Type 0 = λ j. IsFirstWeak m w s at old heads p q j x in
      let moved = subst P same f in
      (same, side_is_one (HasSignAt m w s at old heads p q k) x y moved.weak g.weak)
