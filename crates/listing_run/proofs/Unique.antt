-- A model has one listing, and one that is whole has no other end.
use Rattle.listing_run.proofs.Common.{◌≡◌, ℕ, suc, List, [], ◌∷◌, sym, ap, ◌∙◌, refl, inr, arith, Ok, Err, Result, Contains, subst, Option, Bound, NoBound, Budget, TimeStep, times, AreDecks}
use Rattle.listing_run.proofs.Common.{AreGridHeads, Solved, ZoneFlow, Task, Step, AreFlowsAt, HasLargeFlow, IsStep, budget_at, HasNoBound, no_heads, no_budget, no_zones, AllSettle, IsSettledStep}
use Rattle.listing_run.proofs.Common.{IsStepBy, pairs_of, IsSolved, if◌then◌else◌, PairKind, false, StepIsOne, StepExcludesRefusal, HeadsFit, ListingIsOne, ListingExcludesRefusal}
use Rattle.listing_run.proofs.Common.{SettledListingIsClosed, RefusalIsOne, IsBefore, StartHeadsAreOne, StartHeadsFit, Entries, AreFlowsOf, HasLargeFlowOf, first_in}
use Rattle.listing_run.specs.{Steps}
use Rattle.step_problem.specs.{settled as settled_kind, certified as certified_kind}
use Rattle.step_chain.specs.{RefusalIsOne as StepRefusalIsOne}
use Rattle.listing_run.specs.declared.text.ListingEnd.TheVariants as ends

abbrev the_ok : {X E : Type 0} → X → Result X E → X
the_ok x (Ok y) = y
the_ok x (Err e) = x

abbrev the_err : {X E : Type 0} → E → Result X E → E
the_err e (Ok y) = e
the_err e (Err f) = f

abbrev pub as_ok : Budget → Result Budget NoBound
as_ok x = Ok x

abbrev pub as_err : NoBound → Result Budget NoBound
as_err x = Err x

pub one_ok : (a b : Budget) → as_ok a ≡ as_ok b → a ≡ b
one_ok a b e = ap (the_ok a) e

pub one_err : (a b : NoBound) → as_err a ≡ as_err b → a ≡ b
one_err a b e = ap (the_err a) e

pub ok_not_err : (a : Budget) (e : NoBound) → as_ok a ≡ as_err e → ⊥
ok_not_err a e h = cc

-- the laws of a step and of STRT
pub record Laws : Type 0 where
  pub start_one : StartHeadsAreOne
  pub start_fits : StartHeadsFit
  pub step_one : StepIsOne
  pub excludes : StepExcludesRefusal
  pub refusal_one : StepRefusalIsOne
  pub fits : HeadsFit

pub laws_of : StartHeadsAreOne → StartHeadsFit → StepIsOne → StepExcludesRefusal → StepRefusalIsOne → HeadsFit → Laws
laws_of a b c d e f = record { start_one = a; start_fits = b; step_one = c; excludes = d; refusal_one = e; fits = f }

-- there is one list of flows between zones, or one pair that is too large
module _ (p : List Entries) (heads : List Bound) (zones : Option (List ℕ)) where
  pub same_flows : (vs ws : List ZoneFlow) → AreFlowsOf p heads zones vs → AreFlowsOf p heads zones ws → vs ≡ ws
  same_flows vs ws a b = ap (the_ok vs) (sym a ∙ b)

  pub none_large : (vs : List ZoneFlow) (n : NoBound) → AreFlowsOf p heads zones vs → HasLargeFlowOf p heads zones n → ⊥
  none_large vs n a h = let bad : Path (Result (List ZoneFlow) NoBound) (Ok vs) (Err n) = sym a ∙ h in cc

  pub large_one : (a b : NoBound) → HasLargeFlowOf p heads zones a → HasLargeFlowOf p heads zones b → a ≡ b
  large_one a b h k = ap (the_err a) (sym h ∙ k)

-- the first of the times at hand is one of the model's, and so are those after it
pub record IsRest (all rest : List TimeStep) : Type 0 where
  pub each : (at : TimeStep) → Contains rest at → Contains all at

pub rest_whole : (all : List TimeStep) → IsRest all all
rest_whole all = record { each = λ at h. h }

pub rest_more : (all : List TimeStep) (at : TimeStep) (rest : List TimeStep) → IsRest all (at ∷ rest) → IsRest all rest
rest_more all at rest h = record { each = λ t (k, lt, is). h.each t (suc k, omega (arith, lt), is) }

module _ (laws : Laws) (k : Task) (decks : AreDecks k.decks) (plain : k.quick ≡ false) where
  -- the pairs of its steps are settled
  are_settled : pairs_of k ≡ settled_kind
  are_settled = ap (λ q. if q then certified_kind else settled_kind) plain

  module _ (at : TimeStep) (old : List Bound) (time : Contains (times k.decks.first) at) (heads : AreGridHeads k.decks.first old) where
    before : IsBefore k.decks at old
    before = record { decks = decks; time = time; heads = heads }

    by_settled : (x : Solved) → IsSolved k at old x → IsSettledStep k.limits k.decks k.digits at old x
    by_settled x h = let P : PairKind → Type 0 = λ kind. IsStepBy k.limits k.decks k.digits at old kind x in subst P are_settled h

    solved_is_one : (x y : Solved) → IsSolved k at old x → IsSolved k at old y → x ≡ y
    solved_is_one x y h i = laws.step_one k.limits k.decks k.digits at old x y before (by_settled x h) (by_settled y i)

    solved_one : (v w : Step) (x : IsStep k at old v) (y : IsStep k at old w) → x.solved ≡ y.solved
    solved_one v w x y = solved_is_one x.solved y.solved x.solves y.solves

    -- a time has one step
    one_step : (v w : Step) → IsStep k at old v → IsStep k at old w → v ≡ w
    one_step v w x y =
        let same = solved_one v w x y in
        let B : Solved → Type 0 = λ s. budget_at s ≡ Ok w.budget in
        let budgets : v.budget ≡ w.budget = one_ok v.budget w.budget (sym x.budget ∙ subst B (sym same) y.budget) in
        let all_heads : v.heads ≡ w.heads = x.heads ∙ ap (λ (s : Solved). s.heads) same ∙ sym y.heads in
        let times_same : v.at ≡ w.at = x.time ∙ sym y.time in
        let F : Solved → Type 0 = λ s. AreFlowsAt k.zones s w.zones in
        let zones : v.zones ≡ w.zones = same_flows x.solved.problem x.solved.heads k.zones v.zones w.zones x.zones (subst F (sym same) y.zones) in
        λ i. record { at = times_same i; heads = all_heads i; budget = budgets i; zones = zones i }

    -- its heads are heads of all cells
    step_fits : (v : Step) → IsStep k at old v → AreGridHeads k.decks.first v.heads
    step_fits v x = subst (AreGridHeads k.decks.first) (sym x.heads) (laws.fits k.limits k.decks k.digits at old (pairs_of k) x.solved before x.solves)

    -- a step with a value has no refusal
    has_bound : (v : Step) (n : NoBound) → IsStep k at old v → HasNoBound k at old n → ⊥
    has_bound v n x (no_heads none) = laws.excludes k.limits k.decks k.digits at old (pairs_of k) x.solved n before (inr are_settled) x.solves none
    has_bound v n x (no_budget solved settled refused) =
        let B : Solved → Type 0 = λ s. budget_at s ≡ Err n in
        ok_not_err v.budget n (sym x.budget ∙ subst B (solved_is_one solved x.solved settled x.solves) refused)
    has_bound v n x (no_zones solved b settled is large) =
        let L : Solved → Type 0 = λ s. HasLargeFlow k.zones s n in
        none_large x.solved.problem x.solved.heads k.zones v.zones n x.zones (subst L (solved_is_one solved x.solved settled x.solves) large)

    -- a step whose budget is refused has no flows between zones
    no_budget_no_zones : (x y : Solved) (b : Budget) (n : NoBound) → IsSolved k at old x → budget_at x ≡ Err n → IsSolved k at old y → budget_at y ≡ Ok b → ⊥
    no_budget_no_zones x y b n settled refused also is =
        let B : Solved → Type 0 = λ s. budget_at s ≡ Ok b in
        ok_not_err b n (sym (subst B (sym (solved_is_one x y settled also)) is) ∙ refused)

    -- and a step has one refusal
    one_refusal : (a b : NoBound) → HasNoBound k at old a → HasNoBound k at old b → a ≡ b
    one_refusal a b (no_heads x) (no_heads y) = laws.refusal_one k.limits k.decks k.digits at old a b before x y
    one_refusal a b (no_heads x) (no_budget solved settled refused) = absurd (laws.excludes k.limits k.decks k.digits at old (pairs_of k) solved a before (inr are_settled) settled x)
    one_refusal a b (no_budget solved settled refused) (no_heads y) = absurd (laws.excludes k.limits k.decks k.digits at old (pairs_of k) solved b before (inr are_settled) settled y)
    one_refusal a b (no_budget x settled refused) (no_budget y also other) =
        let B : Solved → Type 0 = λ s. budget_at s ≡ Err b in
        one_err a b (sym refused ∙ subst B (sym (solved_is_one x y settled also)) other)
    one_refusal a b (no_heads x) (no_zones solved c settled is large) = absurd (laws.excludes k.limits k.decks k.digits at old (pairs_of k) solved a before (inr are_settled) settled x)
    one_refusal a b (no_zones solved c settled is large) (no_heads y) = absurd (laws.excludes k.limits k.decks k.digits at old (pairs_of k) solved b before (inr are_settled) settled y)
    one_refusal a b (no_budget x settled refused) (no_zones y c also is large) = absurd (no_budget_no_zones x y c a settled refused also is)
    one_refusal a b (no_zones x c settled is large) (no_budget y also refused) = absurd (no_budget_no_zones y x c b also refused settled is)
    one_refusal a b (no_zones x c settled is large) (no_zones y d also other too) =
        let L : Solved → Type 0 = λ s. HasLargeFlow k.zones s b in
        large_one x.problem x.heads k.zones a b large (subst L (sym (solved_is_one x y settled also)) too)

  -- the heads of one more step
  next_heads : (old : List Bound) (at : TimeStep) (rest : List TimeStep) (v : Step) → IsRest (times k.decks.first) (at ∷ rest) →
      AreGridHeads k.decks.first old → IsStep k at old v → AreGridHeads k.decks.first v.heads
  next_heads old at rest v r heads x = step_fits at old (r.each at (first_in at rest)) heads v x

  same_step : (old : List Bound) (at : TimeStep) (rest : List TimeStep) (v w : Step) → IsRest (times k.decks.first) (at ∷ rest) →
      AreGridHeads k.decks.first old → IsStep k at old v → IsStep k at old w → v ≡ w
  same_step old at rest v w r heads x y = one_step at old (r.each at (first_in at rest)) heads v w x y

  listing_one : (old : List Bound) (rest : List TimeStep) (values others : List Step) → IsRest (times k.decks.first) rest → AreGridHeads k.decks.first old →
      Steps k old rest values ends.Whole → Steps k old rest others ends.Whole → others ≡ values
  listing_one old [] [] [] r heads h w = refl
  listing_one old [] (v ∷ values) others r heads h w = absurd h
  listing_one old [] [] (o ∷ others) r heads h w = absurd w
  listing_one old (at ∷ rest) [] others r heads h w = absurd h
  listing_one old (at ∷ rest) (v ∷ values) [] r heads h w = absurd w
  listing_one old (at ∷ rest) (v ∷ values) (o ∷ others) r heads (is, h) (other, w) =
      let e = same_step old at rest v o r heads is other in
      let P : Step → Type 0 = λ v. Steps k v.heads rest values ends.Whole in
      ap (λ vs. o ∷ vs) (listing_one o.heads rest values others (rest_more (times k.decks.first) at rest r) (next_heads old at rest o r heads other) (subst P e h) w) ∙ ap (λ x. x ∷ values) (sym e)

  always_bound : (t : TimeStep) (n : NoBound) (old : List Bound) (rest : List TimeStep) (values others : List Step) → IsRest (times k.decks.first) rest →
      AreGridHeads k.decks.first old → Steps k old rest values ends.Whole → Steps k old rest others (ends.NoBound t n) → ⊥
  always_bound t n old [] values [] r heads h w = w
  always_bound t n old [] values (o ∷ others) r heads h w = w
  always_bound t n old (at ∷ rest) [] others r heads h w = h
  always_bound t n old (at ∷ rest) (v ∷ values) [] r heads (is, h) (same, bare) = has_bound at old (r.each at (first_in at rest)) heads v n is bare
  always_bound t n old (at ∷ rest) (v ∷ values) (o ∷ others) r heads (is, h) (other, w) =
      let P : Step → Type 0 = λ v. Steps k v.heads rest values ends.Whole in
      always_bound t n o.heads rest values others (rest_more (times k.decks.first) at rest r) (next_heads old at rest o r heads other) (subst P (same_step old at rest v o r heads is other) h) w

  always_settled : (t : TimeStep) (old : List Bound) (rest : List TimeStep) (values others : List Step) → IsRest (times k.decks.first) rest →
      AreGridHeads k.decks.first old → Steps k old rest values ends.Whole → AllSettle k old rest values → Steps k old rest others (ends.Unfinished t) → ⊥
  always_settled t old [] values [] r heads h s w = w
  always_settled t old [] values (o ∷ others) r heads h s w = w
  always_settled t old (at ∷ rest) [] others r heads h s w = h
  always_settled t old (at ∷ rest) (v ∷ values) [] r heads (is, h) (now, s) (same, bare) = bare.open_rounds (now bare.problem bare.barrier bare.posed)
  always_settled t old (at ∷ rest) (v ∷ values) (o ∷ others) r heads (is, h) (now, s) (other, w) =
      let e = same_step old at rest v o r heads is other in
      let P : Step → Type 0 = λ v. Steps k v.heads rest values ends.Whole in
      let Q : Step → Type 0 = λ v. AllSettle k v.heads rest values in
      always_settled t o.heads rest values others (rest_more (times k.decks.first) at rest r) (next_heads old at rest o r heads other) (subst P e h) (subst Q e s) w

  refusal_at_one : (s t : TimeStep) (a b : NoBound) (old : List Bound) (rest : List TimeStep) (values others : List Step) → IsRest (times k.decks.first) rest →
      AreGridHeads k.decks.first old → Steps k old rest values (ends.NoBound s a) → Steps k old rest others (ends.NoBound t b) → (s ≡ t) × (a ≡ b) ×
      (values ≡ others)
  refusal_at_one s t a b old [] [] others r heads h w = absurd h
  refusal_at_one s t a b old [] (v ∷ values) others r heads h w = absurd h
  refusal_at_one s t a b old (at ∷ rest) [] [] r heads (same, bare) (also, other) = (same ∙ sym also, one_refusal at old (r.each at (first_in at rest)) heads a b bare other, refl)
  refusal_at_one s t a b old (at ∷ rest) [] (o ∷ others) r heads (same, bare) (is, w) = absurd (has_bound at old (r.each at (first_in at rest)) heads o a is bare)
  refusal_at_one s t a b old (at ∷ rest) (v ∷ values) [] r heads (is, h) (same, bare) = absurd (has_bound at old (r.each at (first_in at rest)) heads v b is bare)
  refusal_at_one s t a b old (at ∷ rest) (v ∷ values) (o ∷ others) r heads (is, h) (other, w) =
      let e = same_step old at rest v o r heads is other in
      let P : Step → Type 0 = λ v. Steps k v.heads rest values (ends.NoBound s a) in
      let more = refusal_at_one s t a b o.heads rest values others (rest_more (times k.decks.first) at rest r) (next_heads old at rest o r heads other) (subst P e h) w in
      (more.0, more.1, ap (λ x. x ∷ values) e ∙ ap (λ vs. o ∷ vs) more.2)

-- from STRT on
module _ (laws : Laws) where
  pub one_listing : ListingIsOne
  one_listing k values others model plain h w =
      let P : List Bound → Type 0 = λ start. Steps k start (times k.decks.first) others ends.Whole in
      listing_one laws k model plain h.start (times k.decks.first) values others (rest_whole (times k.decks.first))
      (laws.start_fits k.decks h.start model h.is_start) h.steps (subst P (laws.start_one k.decks w.start h.start model w.is_start h.is_start) w.steps)

  pub excludes_refusal : ListingExcludesRefusal
  excludes_refusal k values others at n model plain h w =
      let P : List Bound → Type 0 = λ start. Steps k start (times k.decks.first) others (ends.NoBound at n) in
      always_bound laws k model plain at n h.start (times k.decks.first) values others (rest_whole (times k.decks.first))
      (laws.start_fits k.decks h.start model h.is_start) h.steps (subst P (laws.start_one k.decks w.start h.start model w.is_start h.is_start) w.steps)

  pub closed_listing : SettledListingIsClosed
  closed_listing k values others at model plain h settled w =
      let P : List Bound → Type 0 = λ start. Steps k start (times k.decks.first) others (ends.Unfinished at) in
      always_settled laws k model plain at h.start (times k.decks.first) values others (rest_whole (times k.decks.first))
      (laws.start_fits k.decks h.start model h.is_start) h.steps settled
      (subst P (laws.start_one k.decks w.start h.start model w.is_start h.is_start) w.steps)

  pub refusals_one : RefusalIsOne
  refusals_one k values others s t a b model plain h w =
      let P : List Bound → Type 0 = λ start. Steps k start (times k.decks.first) others (ends.NoBound t b) in
      refusal_at_one laws k model plain s t a b h.start (times k.decks.first) values others (rest_whole (times k.decks.first))
      (laws.start_fits k.decks h.start model h.is_start) h.steps (subst P (laws.start_one k.decks w.start h.start model w.is_start h.is_start) w.steps)
