-- Whole pairs and flows: from the whole bounds of spans, and small or kept otherwise.
use Rattle.conductance_bounds.proofs.Common.{◌≡◌, ℕ, ◌+◌, ◌-◌, ◌≤◌, ◌<◌, ◌^◌, ◌⊎◌, ◌∙◌, inl, inr, Bool, true, false, Option, Some, None, refl, sym, ap, subst, arith, cases_lt, unsigned_abs, unwrap_or}
use Rattle.conductance_bounds.proofs.Common.{IfSome, ℤ, neg_ℤ, pos, Encloses, EnclosesSigned, Fraction, IsFloor, IsCeiling, Passes, Ratio, den, Sd, value, Span, Pair, AreBounds, Term, Lower, Upper}
use Rattle.conductance_bounds.proofs.Common.{in_units, pair, small_pair, capped_pair, flow, small_flow, capped_flow, signed_pair, PairEncloses, FlowEncloses, Holds, pair_below, option_map}
use Rattle.conductance_bounds.proofs.Common.{lt_of_mul-lt-mul_right, cond_above, cond_below, is_ceiling, one_ceiling, one_floor}
use Rattle.conductance_bounds.proofs.Manual.{pair_ordered}
use Rattle.conductance_bounds.specs.declared.pair.FlowPair.{FlowPair}

abbrev pub whole : ℕ → ℕ → Pair
whole lo hi = record { lo = lo; hi = hi }

abbrev flow_pair : ℤ → ℤ → FlowPair
flow_pair lo hi = record { lo = lo; hi = hi }

-- from the whole bounds of a span
pub pair_is : (t : Term) (s lo hi : ℕ) (x : Span) → AreBounds t x → IsFloor lo (value x.lo) s → IsCeiling hi (value x.hi) s → whole lo hi ≡ pair t s
unfolding pair
pair_is t s lo hi x bounds a b =
    let low = one_floor (value x.lo) lo s a ∙ ap (λ (r : Sd). in_units Lower (value r) s) bounds.lower in
    let high = one_ceiling (value x.hi) hi s b ∙ ap (λ (r : Sd). in_units Upper (value r) s) bounds.upper in
    λ i. record { lo = low i; hi = high i }

-- an upper bound that passes a number of units
past : (t : Term) (s n : ℕ) (x : Span) → AreBounds t x → Passes n (value x.hi) s → n < (pair t s).hi
unfolding pair
past t s n x bounds h =
    let q : n < in_units Upper (value x.hi) s = lt_of_mul-lt-mul_right (den (value x.hi)) (omega (arith, h.pass, (is_ceiling (value x.hi) s).at_least)) in
    subst (λ (r : Sd). n < in_units Upper (value r) s) bounds.upper q

pub some_below : (t : Term) (s n lo hi : ℕ) (x : Span) → AreBounds t x → IsFloor lo (value x.lo) s → IsCeiling hi (value x.hi) s → hi < n → Some (whole lo hi) ≡ pair_below n (pair t s)
some_below t s n lo hi x bounds a b lt = let e = pair_is t s lo hi x bounds a b in ap Some e ∙ cond_below (pair t s).hi n (Some (pair t s)) None (subst (λ (p : Pair). p.hi < n) e lt)

pub none_below : (t : Term) (s n : ℕ) (x : Span) → AreBounds t x → Passes n (value x.hi) s → None ≡ pair_below (n + 1) (pair t s)
none_below t s n x bounds h = cond_above (pair t s).hi (n + 1) (Some (pair t s)) None None (omega (arith, past t s n x bounds h)) refl

-- a flow with its sign
pub flow_lost : (neg : Bool) (least most : ℕ) (lo hi : ℤ) → neg ≡ true → lo ≡ neg_ℤ (pos most) → hi ≡ neg_ℤ (pos least) → flow_pair lo hi ≡ signed_pair neg (whole least most)
flow_lost neg least most lo hi e p q = (λ i. flow_pair (p i) (q i)) ∙ ap (λ (b : Bool). signed_pair b (whole least most)) (sym e)

pub flow_gained : (neg : Bool) (least most : ℕ) (lo hi : ℤ) → neg ≡ false → lo ≡ pos least → hi ≡ pos most → flow_pair lo hi ≡ signed_pair neg (whole least most)
flow_gained neg least most lo hi e p q = (λ i. flow_pair (p i) (q i)) ∙ ap (λ (b : Bool). signed_pair b (whole least most)) (sym e)

-- what encloses, where it is small
pub small_encloses : (t : Term) (s : ℕ) (f : Ratio) (r : Option Pair) → r ≡ small_pair t s → PairEncloses t s f → IfSome r (λ p. Encloses p.lo p.hi s f)
small_encloses t s f r e h = grind (arith)

pub small_flow_encloses : (t : Term) (neg : Bool) (s : ℕ) (f : Fraction) (r : Option FlowPair) → r ≡ small_flow t neg s → FlowEncloses t neg s f → IfSome r (λ p. EnclosesSigned p.lo p.hi s f)
small_flow_encloses t neg s f r e h = grind (arith)

-- in a table: a small pair, or the one that stands for it
pub below_case : (n : ℕ) (p : Pair) → ((p.hi < n) × (pair_below n p ≡ Some p)) ⊎ ((n ≤ p.hi) × (pair_below n p ≡ None))
below_case n p = elim (cases_lt p.hi n) [ inl lt ↦ inl (lt, sym (cond_below p.hi n (Some p) None lt)) | inr ge ↦ inr (ge, sym (cond_above p.hi n (Some p) None None ge refl)) ]

pub real_pair : (t : Term) (s : ℕ) → (capped_pair t s).hi < 2 ^ 60 → capped_pair t s ≡ pair t s
unfolding capped_pair
real_pair t s h =
    let keep : Option Pair → Pair = λ o. unwrap_or o (whole 1 (2 ^ 60)) in
    elim (below_case (2 ^ 60) (pair t s)) [
      | inl small ↦ ap keep small.1
      | inr large ↦ absurd (let e : (capped_pair t s).hi ≡ 2 ^ 60 = ap (λ (o : Option Pair). (keep o).hi) large.1 in omega (arith, e, h))
    ]

pub capped_ordered : (t : Term) (s : ℕ) → Holds t → (capped_pair t s).lo ≤ (capped_pair t s).hi
unfolding capped_pair
capped_ordered t s h =
    let P : Option Pair → Type 0 = λ o. (unwrap_or o (whole 1 (2 ^ 60))).lo ≤ (unwrap_or o (whole 1 (2 ^ 60))).hi in
    elim (below_case (2 ^ 60) (pair t s)) [ inl small ↦ subst P (sym small.1) (pair_ordered t s h) | inr large ↦ subst P (sym large.1) (omega arith) ]

pub real_flow : (t : Term) (neg : Bool) (s : ℕ) → unsigned_abs (capped_flow t neg s).lo < 2 ^ 109 → capped_flow t neg s ≡ flow t neg s
unfolding capped_flow
real_flow t neg s h =
    let keep : Option Pair → FlowPair = λ o. unwrap_or (option_map (signed_pair neg) o) (flow_pair (pos (2 ^ 109)) (pos (2 ^ 109))) in
    elim (below_case (2 ^ 126) (pair t s)) [
      | inl small ↦ ap keep small.1
      | inr large ↦ absurd (let e : unsigned_abs (capped_flow t neg s).lo ≡ 2 ^ 109 = ap (λ (o : Option Pair). unsigned_abs (keep o).lo) large.1 in omega (arith, e, h))
    ]
