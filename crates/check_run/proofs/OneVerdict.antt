-- A listing has one verdict.
use Rattle.check_run.proofs.Common.{Limits, ◌≡◌, ◌≢◌, ◌∙◌, ℕ, ◌<◌, ◌⊎◌, inl, inr, List, [], ◌∷◌, length, Ok, Err, Option, refl, sym, ap, subst, AllZip, IsListedAt, pairs_in, Bound, Side, Low, High}
use Rattle.check_run.proofs.Common.{Dir, NoBound, Term, ZoneFlow, Entries, entries_at, Edges, lower_at, upper_at, IsCertificate, Budget, Covers, IsFirstUncovered, HoldsAt, IsFirstFailing, TimeStep}
use Rattle.check_run.proofs.Common.{times, AreGridHeads, IsPosed, HasNoPose, ListedStep, AreFlowsOf, HasLargeFlowOf, one_ok, one_err, ok_not_err, IsRest, first_in, rest_more, rest_whole}
use Rattle.check_run.proofs.Common.{ListingVerdict, Certified, Fails, Refused, ConstantsReach, IsConstantCell, IsFirstShort, ReachesAt, CoversFlow, IsFirstNarrow, bounds, Passes, FailsAt, at_constant}
use Rattle.check_run.proofs.Common.{at_variable, at_term, at_zones, IsRefused, no_heads, no_budget, no_flows, Checks, StopsAt, Decks, AreDecks, IsBefore, ProblemFits, StartHeadsAreOne, StartHeadsFit}
use Rattle.check_run.proofs.Common.{IsBarrierBy, cut_by, VerdictIsOne, large_one, none_large, same_flows, same_problem, BarrierExcludesRefusal, CutBarrierIsOne, CutBarrierExcludesRefusal}
use Rattle.check_run.proofs.Common.{CutRefusalIsOne, poses_one}
use Rattle.step_problem.specs.declared.place.Place.{Place}
use Rattle.barrier_vector.specs.{RefusalIsOne as BarrierRefusalIsOne}
use Rattle.step_chain.proofs.Refusals.{posed_excludes as step_posed_excludes}
use Rattle.check_run.specs.{budget_at}
use Rattle.check_run.proofs.{Firsts.IsFirst, Firsts.first_one, Firsts.narrow_one, Firsts.never_narrow, Firsts.term_one, RunText.grid_of}
use Rattle.step_problem.specs.declared.place.Place.TheVariants as places

-- what the check of one step says
data Said : Type 0 where
  passed : Said
  failed : Place → Said
  refused : NoBound → Said

-- the laws that make it one
pub record Laws : Type 0 where
  pub start_one : StartHeadsAreOne
  pub start_fits : StartHeadsFit
  pub problem_fits : ProblemFits
  pub barrier_one : CutBarrierIsOne
  pub barrier_excludes : BarrierExcludesRefusal
  pub cut_excludes : CutBarrierExcludesRefusal
  pub barrier_refusal_one : BarrierRefusalIsOne
  pub cut_refusal_one : CutRefusalIsOne

module _ (limits : Limits) (ds : Decks) (s : ℕ) (zones : Option (List ℕ)) (at : TimeStep) (old : List Bound) (w : ListedStep) where
  -- The tests of a step in turn, each by its first failure or what holds of the rest.

  abbrev ByZones : List ZoneFlow → Said → Type 0
  ByZones flows o = ((a : ℕ) × (b : ℕ) × IsFirstNarrow w.zones flows a b × (o ≡ failed (places.Zone a b))) ⊎ (AllZip CoversFlow w.zones flows × (o ≡ passed))

  abbrev ByFlows : List Entries → Said → Type 0
  ByFlows p o = ((n : NoBound) × HasLargeFlowOf p w.heads zones n × (o ≡ refused n)) ⊎ ((flows : List ZoneFlow) × AreFlowsOf p w.heads zones flows × ByZones flows o)

  abbrev ByTerms : List Entries → Budget → Said → Type 0
  ByTerms p budget o = ((dir : Dir) × (t : Term) × IsFirstUncovered w.budget budget dir t × (o ≡ failed (places.Term dir t))) ⊎ (Covers w.budget budget × ByFlows p o)

  abbrev ByBudget : List Entries → Said → Type 0
  ByBudget p o = ((n : NoBound) × (budget_at limits ds s zones at old w p ≡ Err n) × (o ≡ refused n)) ⊎ ((budget : Budget) × (budget_at limits ds s zones at old w p ≡ Ok budget) × ByTerms p budget o)

  abbrev ByVariables : List Entries → Edges → Said → Type 0
  ByVariables p b o = ((k : ℕ) × (side : Side) × IsFirstFailing p b (bounds limits ds s zones at old w) k side × (o ≡ failed (places.Cell (entries_at p k).id side)))
      ⊎ (IsCertificate p b (lower_at (bounds limits ds s zones at old w)) (upper_at (bounds limits ds s zones at old w)) × ByBudget p o)

  abbrev ByConstants : List Entries → Edges → Said → Type 0
  ByConstants p b o = ((c : ℕ) × (side : Side) × IsFirstShort ds at w.heads c side × (o ≡ failed (places.Cell c side))) ⊎ (ConstantsReach ds at w.heads × ByVariables p b o)

  abbrev Says : Said → Type 0
  Says o = ((n : NoBound) × HasNoPose limits ds s at old n × (o ≡ refused n)) ⊎ ((p : List Entries) × (b : Edges) × IsPosed limits ds s at old p b × ByConstants p b o)

  -- What is defined of a step is said of it.

  passes_said : Passes limits ds s zones at old w → Says passed
  passes_said h = let t = h.terms in inr (
    h.problem,
    h.barrier,
    t.heads.posed,
    inr (t.heads.constants, inr (t.heads.certificate, inr (t.budget, t.is, inr (t.covers, inr (h.flows, h.are, inr (h.wide, refl)))))),
  )

  fails_said : (place : Place) → FailsAt limits ds s zones at old w place → Says (failed place)
  fails_said place (at_constant p b c side posed f e) = inr (p, b, posed, inl (c, side, f, ap failed e))
  fails_said place (at_variable p b k side posed reach f e) = inr (p, b, posed, inr (reach, inl (k, side, f, ap failed e)))
  fails_said place (at_term p b budget dir t h is f e) = inr (p, b, h.posed, inr (h.constants, inr (h.certificate, inr (budget, is, inl (dir, t, f, ap failed e)))))
  fails_said place (at_zones p b flows x y t are f e) =
      inr (
        p,
        b,
        t.heads.posed,
        inr (
          t.heads.constants,
          inr (t.heads.certificate, inr (t.budget, t.is, inr (t.covers, inr (flows, are, inl (x, y, f, ap failed e))))),
        ),
      )

  refused_said : (n : NoBound) → IsRefused limits ds s zones at old w n → Says (refused n)
  refused_said n (no_heads x) = inl (n, x, refl)
  refused_said n (no_budget p b h is) = inr (p, b, h.posed, inr (h.constants, inr (h.certificate, inl (n, is, refl))))
  refused_said n (no_flows p b t large) = inr (p, b, t.heads.posed, inr (t.heads.constants, inr (t.heads.certificate, inr (t.budget, t.is, inr (t.covers, inl (n, large, refl))))))

  -- Each test says one thing.

  zones_one : (flows : List ZoneFlow) (o q : Said) → ByZones flows o → ByZones flows q → o ≡ q
  zones_one flows o q (inl (a, b, f, e)) (inl (c, d, g, k)) =
      let same = narrow_one w.zones flows a b c d f g in
      e ∙ ap (λ x. failed (places.Zone x b)) same.0 ∙ ap (λ y. failed (places.Zone c y)) same.1 ∙ sym k
  zones_one flows o q (inl (a, b, f, e)) (inr (wide, k)) = absurd (never_narrow w.zones flows a b f wide)
  zones_one flows o q (inr (wide, e)) (inl (a, b, f, k)) = absurd (never_narrow w.zones flows a b f wide)
  zones_one flows o q (inr (wide, e)) (inr (also, k)) = e ∙ sym k

  flows_one : (p : List Entries) (o q : Said) → ByFlows p o → ByFlows p q → o ≡ q
  flows_one p o q (inl (n, x, e)) (inl (r, y, k)) = e ∙ ap refused (large_one p w.heads zones n r x y) ∙ sym k
  flows_one p o q (inl (n, x, e)) (inr (flows, y, h)) = absurd (none_large p w.heads zones flows n y x)
  flows_one p o q (inr (flows, x, h)) (inl (n, y, k)) = absurd (none_large p w.heads zones flows n x y)
  flows_one p o q (inr (flows, x, h)) (inr (others, y, k)) =
      let P : List ZoneFlow → Type 0 = λ vs. ByZones vs o in
      zones_one others o q (subst P (same_flows p w.heads zones flows others x y) h) k

  terms_one : (p : List Entries) (budget : Budget) (o q : Said) → ByTerms p budget o → ByTerms p budget q → o ≡ q
  terms_one p budget o q (inl (d, t, f, e)) (inl (c, u, g, k)) = e ∙ ap failed (term_one w.budget budget d c t u f g) ∙ sym k
  terms_one p budget o q (inl (d, t, f, e)) (inr (covers, k)) = absurd (f.short (covers d t))
  terms_one p budget o q (inr (covers, e)) (inl (d, t, f, k)) = absurd (f.short (covers d t))
  terms_one p budget o q (inr (covers, e)) (inr (also, k)) = flows_one p o q e k

  budget_one : (p : List Entries) (o q : Said) → ByBudget p o → ByBudget p q → o ≡ q
  budget_one p o q (inl (n, x, e)) (inl (r, y, k)) = e ∙ ap refused (one_err n r (sym x ∙ y)) ∙ sym k
  budget_one p o q (inl (n, x, e)) (inr (b, y, t)) = absurd (ok_not_err b n (sym y ∙ x))
  budget_one p o q (inr (b, x, t)) (inl (n, y, k)) = absurd (ok_not_err b n (sym x ∙ y))
  budget_one p o q (inr (b, x, t)) (inr (c, y, u)) = let P : Budget → Type 0 = λ z. ByTerms p z o in terms_one p c o q (subst P (one_ok b c (sym x ∙ y)) t) u

  certified_at : (p : List Entries) (b : Edges) (k : ℕ) (side : Side) → k < length p →
      IsCertificate p b (lower_at (bounds limits ds s zones at old w)) (upper_at (bounds limits ds s zones at old w)) →
      HoldsAt p b (bounds limits ds s zones at old w) k side
  certified_at p b k Low lt h = h.low k lt
  certified_at p b k High lt h = h.high k lt

  first_failing : (p : List Entries) (b : Edges) (k : ℕ) (side : Side) → IsFirstFailing p b (bounds limits ds s zones at old w) k side →
      IsFirst (HoldsAt p b (bounds limits ds s zones at old w)) k side
  first_failing p b k side f = record { fails = f.fails; least = f.least; low_first = f.low_first }

  variables_one : (p : List Entries) (b : Edges) (o q : Said) → ByVariables p b o → ByVariables p b q → o ≡ q
  variables_one p b o q (inl (k, x, f, e)) (inl (j, y, g, h)) =
      let (same, also) = first_one (HoldsAt p b (bounds limits ds s zones at old w)) k j x y (first_failing p b k x f) (first_failing p b j y g) in
      e ∙ ap (λ i. failed (places.Cell (entries_at p i).id x)) same ∙ ap (λ z. failed (places.Cell (entries_at p j).id z)) also ∙ sym h
  variables_one p b o q (inl (k, x, f, e)) (inr (holds, h)) = absurd (f.fails (certified_at p b k x f.within holds))
  variables_one p b o q (inr (holds, h)) (inl (k, x, f, e)) = absurd (f.fails (certified_at p b k x f.within holds))
  variables_one p b o q (inr (holds, h)) (inr (also, k)) = budget_one p o q h k

  abbrev Reached : ℕ → Side → Type 0
  Reached c side = IsConstantCell ds at c → ReachesAt ds at w.heads c side

  first_short : (c : ℕ) (side : Side) → IsFirstShort ds at w.heads c side → IsFirst Reached c side
  first_short c side f = record { fails = λ h. f.short (h f.cell); least = λ d lt other cell. f.least d lt cell other; low_first = λ e cell. f.low_first e }

  constants_one : (p : List Entries) (b : Edges) (o q : Said) → ByConstants p b o → ByConstants p b q → o ≡ q
  constants_one p b o q (inl (c, x, f, e)) (inl (d, y, g, h)) =
      let (same, also) = first_one Reached c d x y (first_short c x f) (first_short d y g) in
      e ∙ ap (λ i. failed (places.Cell i x)) same ∙ ap (λ z. failed (places.Cell d z)) also ∙ sym h
  constants_one p b o q (inl (c, x, f, e)) (inr (reach, h)) = absurd (f.short (reach c f.cell x))
  constants_one p b o q (inr (reach, h)) (inl (c, x, f, e)) = absurd (f.short (reach c f.cell x))
  constants_one p b o q (inr (reach, h)) (inr (also, k)) = variables_one p b o q h k

  module _ (laws : Laws) (before : IsBefore ds at old) where
    posed_excludes : (p : List Entries) (b : Edges) (n : NoBound) → IsPosed limits ds s at old p b → HasNoPose limits ds s at old n → ⊥
    posed_excludes p b n posed none =
        step_posed_excludes laws.problem_fits laws.barrier_excludes laws.cut_excludes limits ds s at old p b n before posed none

    refusal_one : (a b : NoBound) → HasNoPose limits ds s at old a → HasNoPose limits ds s at old b → a ≡ b
    refusal_one a b x y = poses_one laws.barrier_refusal_one laws.cut_refusal_one limits ds s at old a b x y

    said_one : (o q : Said) → Says o → Says q → o ≡ q
    said_one o q (inl (n, x, e)) (inl (r, y, k)) = e ∙ ap refused (refusal_one n r x y) ∙ sym k
    said_one o q (inl (n, x, e)) (inr (p, b, posed, h)) = absurd (posed_excludes p b n posed x)
    said_one o q (inr (p, b, posed, h)) (inl (n, x, e)) = absurd (posed_excludes p b n posed x)
    said_one o q (inr (p, b, posed, h)) (inr (r, c, also, k)) =
        let problems = same_problem posed.problem also.problem in
        let B : List Entries → Type 0 = λ z. IsBarrierBy limits z b in
        let barriers = laws.barrier_one r b c (laws.problem_fits ds s at old r before also.problem) (cut_by limits r b (subst B problems posed.barrier)) (cut_by limits r c also.barrier) in
        let P : List Entries → Type 0 = λ z. ByConstants z b o in
        let Q : Edges → Type 0 = λ z. ByConstants r z o in
        constants_one r c o q (subst Q barriers (subst P problems h)) k

  -- what a verdict at this step says
  abbrev told : Said → ListingVerdict
  told passed = Certified
  told (failed place) = Fails at place
  told (refused n) = Refused at n

  record Stopped (v : ListingVerdict) : Type 0 where
    said : Said
    says : Says said
    is : v ≡ told said
    stops : said ≢ passed

  stopped : (v : ListingVerdict) → StopsAt limits ds s zones at old w v → Stopped v
  stopped Certified h = absurd h
  stopped (Fails t place) (same, f) = record { said = failed place; says = fails_said place f; is = ap (λ x. Fails x place) same; stops = λ e. cc }
  stopped (Refused t n) (same, r) = record { said = refused n; says = refused_said n r; is = ap (λ x. Refused x n) same; stops = λ e. cc }

  module _ (laws : Laws) (before : IsBefore ds at old) where
    stops_one : (a b : ListingVerdict) → StopsAt limits ds s zones at old w a → StopsAt limits ds s zones at old w b → a ≡ b
    stops_one a b h k =
        let x = stopped a h in
        let y = stopped b k in
        x.is ∙ ap told (said_one laws before x.said y.said x.says y.says) ∙ sym y.is

    passes_excludes : (v : ListingVerdict) → Passes limits ds s zones at old w → StopsAt limits ds s zones at old w v → ⊥
    passes_excludes v h k = let x = stopped v k in x.stops (said_one laws before x.said passed x.says (passes_said h))

module _ (laws : Laws) (limits : Limits) (ds : Decks) (s : ℕ) (zones : Option (List ℕ)) (valid : AreDecks ds) where
  checks_one : (old : List Bound) (rest : List TimeStep) (steps : List ListedStep) (a b : ListingVerdict) → IsRest (times ds.first) rest →
      AreGridHeads ds.first old → AllZip (IsListedAt ds.first (pairs_in ds.first zones)) rest steps → Checks limits ds s zones old rest steps a →
      Checks limits ds s zones old rest steps b → a ≡ b
  checks_one old [] [] Certified Certified r heads l h k = refl
  checks_one old [] [] Certified (Fails t place) r heads l h k = absurd k
  checks_one old [] [] Certified (Refused t n) r heads l h k = absurd k
  checks_one old [] [] (Fails t place) b r heads l h k = absurd h
  checks_one old [] [] (Refused t n) b r heads l h k = absurd h
  checks_one old [] (w ∷ steps) a b r heads l h k = absurd h
  checks_one old (at ∷ rest) [] a b r heads l h k = absurd h
  checks_one old (at ∷ rest) (w ∷ steps) a b r heads l (inl (p, h)) (inl (q, k)) =
      checks_one w.heads rest steps a b (rest_more (times ds.first) at rest r) (grid_of ds.first w l.0.0) l.1 h k
  checks_one old (at ∷ rest) (w ∷ steps) a b r heads l (inl (p, h)) (inr k) =
      absurd (passes_excludes limits ds s zones at old w laws (record { decks = valid; time = r.each at (first_in at rest); heads = heads }) b p k)
  checks_one old (at ∷ rest) (w ∷ steps) a b r heads l (inr h) (inl (q, k)) =
      absurd (passes_excludes limits ds s zones at old w laws (record { decks = valid; time = r.each at (first_in at rest); heads = heads }) a q h)
  checks_one old (at ∷ rest) (w ∷ steps) a b r heads l (inr h) (inr k) =
      stops_one limits ds s zones at old w laws (record { decks = valid; time = r.each at (first_in at rest); heads = heads }) a b h k

pub verdicts_one : Laws → VerdictIsOne
verdicts_one laws limits ds s zones steps a b valid listed x y =
    let P : List Bound → Type 0 = λ start. Checks limits ds s zones start (times ds.first) steps b in
    checks_one laws limits ds s zones valid x.start (times ds.first) steps a b (rest_whole (times ds.first)) (laws.start_fits ds x.start valid x.is_start) listed.steps x.checks
    (subst P (laws.start_one ds y.start x.start valid y.is_start x.is_start) y.checks)
