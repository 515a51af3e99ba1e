-- A listing has one verdict.
use Rattle.gentle_run.proofs.Common.{◌≡◌, ◌∙◌, ℕ, ◌⊎◌, inl, inr, List, [], ◌∷◌, Option, Err, Ok, ap, refl, subst, sym, times, AllZip, FlowModel, TimeStep, ConvertibleLayers, Bound, ListedStep}
use Rattle.gentle_run.proofs.Common.{Certified, Checks, FailsAt, Fails, GentleVerdict, Passes, Refused, Steep, StopsAt, VerdictIsOne, ◌≢◌, Entries, entries_at, Side, NoBound, Place, ZoneFlow}
use Rattle.gentle_run.proofs.Common.{same_problem, ConstantsReach, HaveSigns, IsFirstShort, IsFirstWeak, IsGentlyListed, IsSteep, at_constant, at_variable, AreSidesPosed, at_heads, at_term, at_zones}
use Rattle.gentle_run.proofs.Common.{no_budget, no_flows, no_heads}
use Rattle.gentle_run.specs.{IsRefused}
use Rattle.step_problem.specs.{declared.place.Dir.Dir, declared.place.Term.Term}
use Rattle.budget_bounds.specs.{declared.pair.Budget.Budget, Covers, IsFirstUncovered}
use Rattle.check_run.specs.{CoversFlow, IsFirstNarrow}
use Rattle.check_run.proofs.Firsts.{narrow_one, never_narrow, term_one}
use Rattle.gentle_steps.specs.{FailsAt as HeadsFailAt, IsRefused as AreHeadsRefused}
use Rattle.gentle_budget.specs.{budget_at}
use Rattle.gentle_zones.specs.{flows_at}
use Rattle.gentle_run.proofs.HeadsOne.{gentle_is_not_steep, posed_is_not_refused, refusal_is_one, short_is_one, steep_is_one, weak_is_one}
use Rattle.step_problem.specs.declared.place.Place.TheVariants as places

-- what the check of one step says
data Said : Type 0 where
  passed : Said
  steep : ℕ → Said
  failed : Place → Said
  refused : NoBound → Said

-- A test says one thing by a failure, or goes on where it has none.
abbrev Test : (F H : Type 0) → (F → Said) → (H → Said → Type 0) → Said → Type 0
Test F H say rest o = ((f : F) × (o ≡ say f)) ⊎ ((h : H) × rest h o)

test_is_one : (F H : Type 0) (say : F → Said) (rest : H → Said → Type 0) → ((f g : F) → say f ≡ say g) → ((f : F) → H → ⊥) →
    ((h k : H) (o q : Said) → rest h o → rest k q → o ≡ q) → (o q : Said) → Test F H say rest o → Test F H say rest q → o ≡ q
test_is_one F H say rest same apart goes_on o q (inl (f, e)) (inl (g, k)) = e ∙ same f g ∙ sym k
test_is_one F H say rest same apart goes_on o q (inl (f, e)) (inr (h, r)) = absurd (apart f h)
test_is_one F H say rest same apart goes_on o q (inr (h, r)) (inl (f, e)) = absurd (apart f h)
test_is_one F H say rest same apart goes_on o q (inr (h, r)) (inr (k, t)) = goes_on h k o q r t

module _ (m : FlowModel) (w : ConvertibleLayers) (s : ℕ) (zones : Option (List ℕ)) (at : TimeStep) (old : List Bound) (x : ListedStep) where
  -- The tests of a step, the last one first.

  abbrev Narrow : List ZoneFlow → Type 0
  Narrow flows = (a : ℕ) × (b : ℕ) × IsFirstNarrow x.zones flows a b

  abbrev ByZones : List ZoneFlow → Said → Type 0
  ByZones flows = Test (Narrow flows) (AllZip CoversFlow x.zones flows) (λ f. failed (places.Zone f.0 f.1)) (λ h o. o ≡ passed)

  zones_say_one : (flows : List ZoneFlow) (o q : Said) → ByZones flows o → ByZones flows q → o ≡ q
  zones_say_one flows = test_is_one (Narrow flows) _ _ _
      (λ f g. let same = narrow_one x.zones flows f.0 f.1 g.0 g.1 f.2 g.2 in (λ i. failed (places.Zone (same.0 i) (same.1 i))))
      (λ f h. never_narrow x.zones flows f.0 f.1 f.2 h) (λ h k o q e r. e ∙ sym r)

  abbrev LargeFlow : Type 0
  LargeFlow = (n : NoBound) × (flows_at m w s at x.heads zones ≡ Err n)

  abbrev HaveFlows : Type 0
  HaveFlows = (flows : List ZoneFlow) × (flows_at m w s at x.heads zones ≡ Ok flows)

  abbrev ByFlows : Said → Type 0
  ByFlows = Test LargeFlow HaveFlows (λ f. refused f.0) (λ h. ByZones h.0)

  flows_say_one : (o q : Said) → ByFlows o → ByFlows q → o ≡ q
  flows_say_one = test_is_one LargeFlow HaveFlows _ _
      (λ f g. let e = sym f.1 ∙ g.1 in let same : f.0 ≡ g.0 = cc in ap refused same) (λ f h. let e = sym f.1 ∙ h.1 in absurd cc)
      (λ h k o q a b. let e = sym h.1 ∙ k.1 in let same : h.0 ≡ k.0 = cc in let P : List ZoneFlow → Type 0 = λ z. ByZones z o in zones_say_one k.0 o q (subst P same a) b)

  abbrev Uncovered : Budget → Type 0
  Uncovered budget = (dir : Dir) × (t : Term) × IsFirstUncovered x.budget budget dir t

  abbrev ByTerms : Budget → Said → Type 0
  ByTerms budget = Test (Uncovered budget) (Covers x.budget budget) (λ f. failed (places.Term f.0 f.1)) (λ h. ByFlows)

  terms_say_one : (budget : Budget) (o q : Said) → ByTerms budget o → ByTerms budget q → o ≡ q
  terms_say_one budget = test_is_one (Uncovered budget) (Covers x.budget budget) _ _
      (λ f g. ap failed (term_one x.budget budget f.0 g.0 f.1 g.1 f.2 g.2)) (λ f h. f.2.short (h f.0 f.1)) (λ h k. flows_say_one)

  module _ (p q : List Entries) where
    abbrev LargeBudget : Type 0
    LargeBudget = (n : NoBound) × (budget_at m w s at old x.heads p q ≡ Err n)

    abbrev HasBudget : Type 0
    HasBudget = (budget : Budget) × (budget_at m w s at old x.heads p q ≡ Ok budget)

    abbrev ByBudget : Said → Type 0
    ByBudget = Test LargeBudget HasBudget (λ f. refused f.0) (λ h. ByTerms h.0)

    budget_says_one : (o r : Said) → ByBudget o → ByBudget r → o ≡ r
    budget_says_one = test_is_one LargeBudget HasBudget _ _
        (λ f g. let e = sym f.1 ∙ g.1 in let same : f.0 ≡ g.0 = cc in ap refused same) (λ f h. let e = sym f.1 ∙ h.1 in absurd cc)
        (λ h k o r a b. let e = sym h.1 ∙ k.1 in let same : h.0 ≡ k.0 = cc in let P : Budget → Type 0 = λ z. ByTerms z o in terms_say_one k.0 o r (subst P same a) b)

    abbrev Weak : Type 0
    Weak = (i : ℕ) × (side : Side) × IsFirstWeak m w s at old x.heads p q i side

    abbrev BySigns : Said → Type 0
    BySigns = Test Weak (HaveSigns m w s at old x.heads p q) (λ f. failed (places.Cell (entries_at p f.0).id f.1)) (λ h. ByBudget)

    signs_say_one : (o r : Said) → BySigns o → BySigns r → o ≡ r
    signs_say_one = test_is_one Weak (HaveSigns m w s at old x.heads p q) _ _
        (λ f g. let same = weak_is_one m w s at x.heads old p q f.0 g.0 f.1 g.1 f.2 g.2 in (λ i. failed (places.Cell (entries_at p (same.0 i)).id (same.1 i))))
        (λ f h. f.2.weak.0 (h f.0 f.2.first.within f.1)) (λ h k. budget_says_one)

    abbrev Short : Type 0
    Short = (c : ℕ) × (side : Side) × IsFirstShort m at x.heads c side

    abbrev ByConstants : Said → Type 0
    ByConstants = Test Short (ConstantsReach m at x.heads) (λ f. failed (places.Cell f.0 f.1)) (λ h. BySigns)

    constants_say_one : (o r : Said) → ByConstants o → ByConstants r → o ≡ r
    constants_say_one = test_is_one Short (ConstantsReach m at x.heads) _ _
        (λ f g. let same = short_is_one m w s at x.heads f.0 g.0 f.1 g.1 f.2 g.2 in (λ i. failed (places.Cell (same.0 i) (same.1 i))))
        (λ f h. f.2.short.0 (h f.0 f.2.first.within f.1)) (λ h k. signs_say_one)

  abbrev Unposed : Type 0
  Unposed = (n : NoBound) × AreHeadsRefused m w s at x.heads n

  abbrev Posed : Type 0
  Posed = (p : List Entries) × (q : List Entries) × AreSidesPosed m w s at x.heads p q

  abbrev ByProblems : Said → Type 0
  ByProblems = Test Unposed Posed (λ f. refused f.0) (λ h. ByConstants h.0 h.1)

  problems_say_one : (o q : Said) → ByProblems o → ByProblems q → o ≡ q
  problems_say_one = test_is_one Unposed Posed _ _ (λ f g. ap refused (refusal_is_one m w s at x.heads f.0 g.0 f.1 g.1))
      (λ f h. posed_is_not_refused m w s at x.heads f.0 h.0 h.1 f.1 h.2)
      (λ h k o q a b.
      let low = same_problem h.2.low k.2.low in
      let high = same_problem h.2.high k.2.high in
      let P : List Entries → Type 0 = λ z. ByConstants z h.1 o in
      let Q : List Entries → Type 0 = λ z. ByConstants k.0 z o in
      constants_say_one k.0 k.1 o q (subst Q high (subst P low a)) b)

  abbrev Rough : Type 0
  Rough = (c : ℕ) × IsSteep m w at x.heads c

  abbrev Says : Said → Type 0
  Says = Test Rough (IsGentlyListed m w at x.heads) (λ f. steep f.0) (λ h. ByProblems)

  step_says_one : (o q : Said) → Says o → Says q → o ≡ q
  step_says_one = test_is_one Rough (IsGentlyListed m w at x.heads) _ _ (λ f g. ap steep (steep_is_one m w s at x.heads f.0 g.0 f.1 g.1))
      (λ f h. gentle_is_not_steep m w s at x.heads f.0 f.1 h) (λ h k. problems_say_one)

  -- What is defined of a step is said of it.

  passes_said : Passes m w s zones at old x → Says passed
  passes_said h =
      let t = h.terms in
      let v = t.hold in
      inr (v.gently, inr ((h.low, h.high, v.posed), inr (v.constants, inr (v.signs, inr ((t.budget, t.is), inr (t.covers, inr ((h.wide.flows, h.wide.are), inr (h.wide.wide, refl))))))))

  heads_fail_said : (place : Place) → HeadsFailAt m w s at old x.heads place → ByProblems (failed place)
  heads_fail_said place (at_constant p q c side posed f e) = inr ((p, q, posed), inl ((c, side, f), ap failed e))
  heads_fail_said place (at_variable p q i side posed reach f e) = inr ((p, q, posed), inr (reach, inl ((i, side, f), ap failed e)))

  fails_said : (place : Place) → FailsAt m w s zones at old x place → Says (failed place)
  fails_said place (at_heads (gently, h)) = inr (gently, heads_fail_said place h)
  fails_said place (at_term p q h (budget, dir, t, is, f, e)) =
      inr (h.gently, inr ((p, q, h.posed), inr (h.constants, inr (h.signs, inr ((budget, is), inl ((dir, t, f), ap failed e))))))
  fails_said place (at_zones p q t (flows, a, b, are, f, e)) =
      let h = t.hold in
      inr (h.gently, inr ((p, q, h.posed), inr (h.constants, inr (h.signs, inr ((t.budget, t.is), inr (t.covers, inr ((flows, are), inl ((a, b, f), ap failed e))))))))

  refused_said : (n : NoBound) → IsRefused m w s zones at old x n → Says (refused n)
  refused_said n (no_heads (gently, h)) = inr (gently, inl ((n, h), refl))
  refused_said n (no_budget p q h is) = inr (h.gently, inr ((p, q, h.posed), inr (h.constants, inr (h.signs, inl ((n, is), refl)))))
  refused_said n (no_flows p q t is) =
      let h = t.hold in
      inr (h.gently, inr ((p, q, h.posed), inr (h.constants, inr (h.signs, inr ((t.budget, t.is), inr (t.covers, inl ((n, is), refl)))))))

  -- what a verdict at this step says
  abbrev told : Said → GentleVerdict
  told passed = Certified
  told (steep c) = Steep at c
  told (failed place) = Fails at place
  told (refused n) = Refused at n

  record Stopped (v : GentleVerdict) : Type 0 where
    said : Said
    says : Says said
    is : v ≡ told said
    stops : said ≢ passed

  stopped : (v : GentleVerdict) → StopsAt m w s zones at old x v → Stopped v
  stopped Certified h = absurd h
  stopped (Steep t c) (same, f) = record { said = steep c; says = inl ((c, f), refl); is = ap (λ z. Steep z c) same; stops = λ e. cc }
  stopped (Fails t place) (same, f) = record { said = failed place; says = fails_said place f; is = ap (λ z. Fails z place) same; stops = λ e. cc }
  stopped (Refused t n) (same, r) = record { said = refused n; says = refused_said n r; is = ap (λ z. Refused z n) same; stops = λ e. cc }

  stop_is_one : (a b : GentleVerdict) → StopsAt m w s zones at old x a → StopsAt m w s zones at old x b → a ≡ b
  stop_is_one a b h k =
      let y = stopped a h in
      let z = stopped b k in
      y.is ∙ ap told (step_says_one y.said z.said y.says z.says) ∙ sym z.is

  passed_is_not_stopped : (v : GentleVerdict) → Passes m w s zones at old x → StopsAt m w s zones at old x v → ⊥
  passed_is_not_stopped v h k = let y = stopped v k in y.stops (step_says_one y.said passed y.says (passes_said h))

module _ (m : FlowModel) (w : ConvertibleLayers) (s : ℕ) (zones : Option (List ℕ)) where
  check_is_one : (old : List Bound) (rest : List TimeStep) (steps : List ListedStep) (a b : GentleVerdict) → Checks m w s zones old rest steps a →
      Checks m w s zones old rest steps b → a ≡ b
  check_is_one old [] [] Certified Certified h k = refl
  check_is_one old [] [] Certified (Steep t c) h k = absurd k
  check_is_one old [] [] Certified (Fails t place) h k = absurd k
  check_is_one old [] [] Certified (Refused t n) h k = absurd k
  check_is_one old [] [] (Steep t c) b h k = absurd h
  check_is_one old [] [] (Fails t place) b h k = absurd h
  check_is_one old [] [] (Refused t n) b h k = absurd h
  check_is_one old [] (x ∷ steps) a b h k = absurd h
  check_is_one old (at ∷ rest) [] a b h k = absurd h
  check_is_one old (at ∷ rest) (x ∷ steps) a b (inl (p, h)) (inl (q, k)) = check_is_one x.heads rest steps a b h k
  check_is_one old (at ∷ rest) (x ∷ steps) a b (inl (p, h)) (inr k) = absurd (passed_is_not_stopped m w s zones at old x b p k)
  check_is_one old (at ∷ rest) (x ∷ steps) a b (inr h) (inl (q, k)) = absurd (passed_is_not_stopped m w s zones at old x a q h)
  check_is_one old (at ∷ rest) (x ∷ steps) a b (inr h) (inr k) = stop_is_one m w s zones at old x a b h k

pub verdict_is_one : VerdictIsOne
verdict_is_one m w s zones steps a b valid yields listed h k =
    let C : List Bound → Type 0 = λ old. Checks m w s zones old (times m) steps a in
    check_is_one m w s zones k.start (times m) steps a b (subst C (h.is_start ∙ sym k.is_start) h.checks) k.checks
