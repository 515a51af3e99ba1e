-- Barriers by limits: each is a cut one, from which settling begins at a barrier of heads.
use Rattle.step_chain.proofs.Common.{ℕ, ◌<◌, List, length, ℤ, Edges, head_at, IsProblem, Entries, IsBarrierBy, edges_by, Limits, Plain, Wide, IsCutBarrierOf, EnclosesUncut, ClampedPairEncloses}
use Rattle.step_chain.proofs.Common.{SettledPairEncloses, LiesBetweenBy, Result, Ok, Err, IfOk, BoundFault, IsBarrier, IsSettledPair, ExactCell, EnclosesStep, SolvesStep, clamped_fits, inl, inr}
use Rattle.step_chain.proofs.Common.{arith, Bound, PairKind, IsPairOf, IsCertificate, lower_at, upper_at, no_bound, ints, clamps, NoBound, AreInside, IsGiven, settled, certified, either_certifies}
use Rattle.step_chain.proofs.Common.{given_is, clamped_edges, clamped_at, IsRangeRefusal, IsNoCertificate, Bool, SettledPairExists, TimeStep, step_from, variable_heads, Decks, EnclosesChoices}
use Rattle.step_chain.proofs.Common.{IsProblemFor, Solved, AreHeadsOf, IsStepBy, IsHeldBelow, IsCellFloor, IsCellCeiling, LeadsBy, LeadsOrRests, LeadsWithout}
use Rattle.barrier_vector.proofs.{Floors.encloses_all, Cutting.barrier_is_cut, Cutting.cut_encloses, Cutting.cut_holds}
use Rattle.certificate_check.proofs.Cut.{excludes_refusal}

pub cut_by : (limits : Limits) (p : List Entries) (b : Edges) → IsBarrierBy limits p b → IsCutBarrierOf p b
cut_by Plain p b h = barrier_is_cut p b h
cut_by Wide p b h = h

pub edges_fit : (limits : Limits) (p : List Entries) (b : Edges) → IsBarrierBy limits p b → IsBarrier p (edges_by limits b)
edges_fit Plain p b h = h.fits
edges_fit Wide p b h = (clamped_fits p b).fits h.floors.whole h.ceilings.whole

pub held_by : (limits : Limits) (p : List Entries) (b : Edges) → IsBarrierBy limits p b → IsHeldBelow p
held_by limits p b h = cut_holds p b.floor (cut_by limits p b h).floors

pub uncut_by : (limits : Limits) (p : List Entries) (b : Edges) → IsProblem p → IsBarrierBy limits p b → EnclosesUncut p b
uncut_by limits p b fits h = cut_encloses p b fits (cut_by limits p b h)

-- Between the settled pair lies every solution; with wide limits every one in range.
pub pair_lies : SettledPairEncloses → ClampedPairEncloses → (limits : Limits) (p : List Entries) (b : Edges) (l u : ℕ → ℤ) → IsProblem p →
    IsBarrierBy limits p b → IsSettledPair p (edges_by limits b) l u →
    (s : ℕ) (e : List ExactCell) (d : ℕ) (X : ℕ → ℤ) → EnclosesStep s p e → 0 < d → SolvesStep e d X → LiesBetweenBy limits (length p) d X l u
pair_lies settled_encloses clamped_encloses Plain p b l u fits h pair s e d X encloses some solves =
    settled_encloses p b l u fits h.fits (held_by Plain p b h) pair (encloses_all p (head_at b.floor) (head_at b.ceiling) fits h.floors h.ceilings) s e d X encloses some solves
pair_lies settled_encloses clamped_encloses Wide p b l u fits h pair s e d X encloses some solves =
    λ range. clamped_encloses p b l u fits (edges_fit Wide p b h) (held_by Wide p b h) (uncut_by Wide p b fits h) pair s e d X encloses some solves range

-- The barrier that is found by plain limits.
module _ (p : List Entries) (fits : IsProblem p) where
  plain_barrier : (b : Edges) → IsBarrier p b → ((c : ℕ) → c < length p → IsCellFloor p c (head_at b.floor c)) →
      ((c : ℕ) → c < length p → IsCellCeiling p c (head_at b.ceiling c)) → IsBarrierBy Plain p b
  plain_barrier b fit floors ceilings = record { fits = fit; floors = floors; ceilings = ceilings }

  pub plain_found : (r : Result Edges BoundFault) → IfOk r (IsBarrier p) → IfOk r (λ b. (c : ℕ) → c < length p → IsCellFloor p c (head_at b.floor c)) →
      IfOk r (λ b. (c : ℕ) → c < length p → IsCellCeiling p c (head_at b.ceiling c)) →
      IfOk r (IsBarrierBy Plain p)
  plain_found (Ok b) fit floors ceilings = plain_barrier b fit floors ceilings
  plain_found (Err e) fit floors ceilings = tt

  pub plain_uncut : (r : Result Edges BoundFault) → IfOk r (IsBarrierBy Plain p) → IfOk r (EnclosesUncut p)
  plain_uncut (Ok b) h = uncut_by Plain p b fits h
  plain_uncut (Err e) h = tt

-- A pair over the clamped barrier: it is a certificate over the cut barrier, or the settled pair is refused.
module _ (p : List Entries) (b : Edges) (bounds : List Bound) where
  -- no head inside the range needs a bound that was cut
  inside_certifies : AreInside p (clamped_edges b) bounds → IsCertificate p b (lower_at bounds) (upper_at bounds)
  inside_certifies h = record {
    low = λ c lt. elim (h.certified.certificate.low c lt) [
      | inl edge ↦ inl (omega (arith, ints, clamps, clamped_at b.floor c, (h.inside c no_bound (in_range lt)).0))
      | inr sign ↦ inr sign
    ];
    high = λ c lt. elim (h.certified.certificate.high c lt) [
      | inl edge ↦ inl (omega (arith, ints, clamps, clamped_at b.ceiling c, (h.inside c no_bound (in_range lt)).1))
      | inr sign ↦ inr sign
    ];
  }
    where
      in_range : {c : ℕ} → c < length p → c < length bounds
      in_range lt = omega (arith, lt, h.certified.whole)

  module _ (fits : IsProblem p) (of_p : IsCutBarrierOf p b) (kind : PairKind) (given : IsGiven p kind (clamped_edges b) bounds) where
    bars : IsBarrier p (clamped_edges b)
    bars = edges_fit Wide p b of_p

    pub is_pair : IsPairOf p kind (clamped_edges b) bounds
    is_pair = given_is p (clamped_edges b) fits bars kind bounds given

    pub certifies_clamped : IsCertificate p (clamped_edges b) (lower_at bounds) (upper_at bounds)
    certifies_clamped = (either_certifies p (clamped_edges b) fits bars kind bounds is_pair).certificate

  -- a refusal has the settled pair as its cause
  pub settled_refused : (kind : PairKind) → IsGiven p kind (clamped_edges b) bounds → (n : NoBound) → IsRangeRefusal p b bounds n → IsNoCertificate Wide p b n
  settled_refused settled given n refused = (bounds, given, refused)
  settled_refused certified (inl given) n refused = (bounds, given, refused)
  settled_refused certified (inr inside) n refused = absurd (excludes_refusal p b bounds n (inside_certifies inside) refused)

-- What the calls of a step gave, put together.
-- a step's problem, barrier, pair of this kind, and heads
pub record AreParts (limits : Limits) (d : Decks) (s : ℕ) (at : TimeStep) (old : List Bound) (kind : PairKind) (barrier : Edges) (x : Solved) : Type 0 where
  pub problem : IsProblemFor d s at old x.problem
  pub of_problem : IsBarrierBy limits x.problem barrier
  pub pair : IsPairOf x.problem kind (edges_by limits barrier) x.bounds
  pub certificate : IsCertificate x.problem barrier (lower_at x.bounds) (upper_at x.bounds)
  pub heads : AreHeadsOf d at x.bounds x.heads

module _ (limits : Limits) (d : Decks) (s : ℕ) (at : TimeStep) (old : List Bound) (kind : PairKind) (barrier : Edges) (x : Solved) (parts : AreParts limits d s at old kind barrier x) where
  pub is_step : IsStepBy limits d s at old kind x
  is_step = record {
    barrier = barrier;
    posed = record { problem = parts.problem; barrier = parts.of_problem };
    pair = parts.pair;
    certificate = parts.certificate;
    heads = parts.heads;
  }

-- what a settling did to its settler, and the settled pair, which there is whether or not the settling reached it
module _ (limits : Limits) (d : Decks) (s : ℕ) (at : TimeStep) (old : List Bound) (p : List Entries) (barrier : Edges) (fits : IsProblem p) (of_problem : IsBarrierBy limits p barrier)
    (steps : EnclosesChoices d s at old p) (pair_exists : SettledPairExists) (pair_encloses : SettledPairEncloses) (clamped_encloses : ClampedPairEncloses) where
  pub led_by : {S : Type 0} (leads : S → List Entries → Edges → Bool → S → Type 0) (ended : Bool) (before after : S) →
      leads before p (edges_by limits barrier) ended after → LeadsBy leads limits d at old p ended before after
  led_by leads ended before after led =
      let (l, u, pair) = pair_exists p (edges_by limits barrier) fits (edges_fit limits p barrier of_problem) in
      let solutions = pair_lies pair_encloses clamped_encloses limits p barrier l u fits of_problem pair in
      record {
        barrier = barrier;
        is = of_problem;
        low = l;
        high = u;
        pair = pair;
        encloses = λ y k heads n X move. solutions s (step_from heads y.cells) n (variable_heads (step_from heads y.cells) X) (steps y k heads move.within) move.some move.solves.balances;
        led = led;
      }

  -- so did that of a step without heads, or its settler is unchanged
  pub leads_or_rests : {S : Type 0} (leads : S → List Entries → Edges → Bool → S → Type 0) → IsProblemFor d s at old p → (before after : S) →
      LeadsWithout leads limits p barrier before after → LeadsOrRests leads limits d s at old before after
  leads_or_rests leads is before after (inl same) = inl same
  leads_or_rests leads is before after (inr (ended, plain, led)) = inr (p, is, ended, plain, led_by leads ended before after led)
