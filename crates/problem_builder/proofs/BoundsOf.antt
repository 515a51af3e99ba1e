-- The bounds of a valid model's numbers enclose them.
use Rattle.problem_builder.proofs.Common.{negsuc, IsPositive, recharge_term, unsigned_abs, FlowPair, constant_bound, given_or_kept, head_bound, kept_bound, recharge_pair, whole_evap, ◌≡◌, ℕ, suc, ◌+◌}
use Rattle.problem_builder.proofs.Common.{◌*◌, ◌-◌, ◌<◌, ◌^◌, inl, inr, true, false, Option, Some, None, take, arith, refl, ap, subst, All, ℤ, pos, neg_ℤ, ◌+ℤ◌, ◌-ℤ◌, ◌*ℤ◌, zero, Bool, cond, List, []}
use Rattle.problem_builder.proofs.Common.{◌∷◌, sym, option_to_list, ints, Dec, number, opposite, EnclosesSigned, plus, magnitude, IsHead, EvapEncloses, Given, FlowModel, TimeStep, cell_count}
use Rattle.problem_builder.proofs.Common.{kept_head, head_or_kept, constant_head, dec_at, is_active, conductance, period_at, is_constant, given_in, last_given, EvapSource, recharge_flow}
use Rattle.problem_builder.proofs.Common.{evap_conductance, extinction, IsModel, IsHeadNumber, IsPeriod, IsGivenValid, evap_term, below_gap, above_gap, IsTimeOf, reverse, ◌==◌, IfSome, find, flat_map}
use Rattle.problem_builder.proofs.Common.{reverse-append, All-nil, All-append, none-some, Period, In, In-All, recharges_enclose, evaps_enclose, real_flow, part, ConstantPairFits, ConstantPairEncloses}
use Rattle.decimal_input.specs.Fractions.{den as denominator}
use Rattle.decimal_input.proofs.Differences.{diffs, as_diff, same_diff}
use Rattle.conductance_bounds.proofs.{ModelBounds.heads_enclose as given_encloses, PartBounds.part_encloses, PartBounds.multiplier_positive}
use Rattle.problem_builder.proofs.{Members.constant_active, Members.some_same, Members.In-append, TimesOf.time_of, HeadRange.AreHeads, HeadRange.head_floor, HeadRange.head_ceiling}
use Rattle.problem_builder.proofs.{HeadRange.head_range_of, HeadRange.head_encloses, Fits.capped_encloses, GivenRange.given_range}

-- The entries of CHD lists are valid.
first_or : {X : Type 0} (b : Bool) (y : X) (ys : List X) (x : X) (o : Option X) → (o ≡ Some x → In ys x) → cond b (Some y) o ≡ Some x → In (y ∷ ys) x
first_or true y ys x o f e = inl (some_same e)
first_or false y ys x o f e = inr (f e)

find-In : {X : Type 0} (test : X → Bool) (xs : List X) (x : X) → find test xs ≡ Some x → In xs x
find-In test [] x e = absurd (none-some x e)
find-In test (y ∷ ys) x e = first_or (test y) y ys x (find test ys) (λ q. find-In test ys x q) e

one_of : {X : Type 0} (y x : X) → In (y ∷ []) x → y ≡ x
one_of y x (inl e) = e
one_of y x (inr i) = absurd i

turned-In : {X : Type 0} (xs : List X) (x : X) → In (reverse xs) x → In xs x
turned-In [] x i = absurd i
turned-In (y ∷ ys) x i = elim (In-append (reverse ys) (y ∷ []) x (subst (λ zs. In zs x) (reverse-append (y ∷ []) ys) i)) [
  | inl j ↦ inr (turned-In ys x j)
  | inr j ↦ inl (one_of y x j)
]

pub given_valid : (n : ℕ) (xs : List Given) (c : ℕ) (x : Given) → All (IsGivenValid n) xs → given_in xs c ≡ Some x → IsGivenValid n x
unfolding given_in
given_valid n xs c x h e = In-All (IsGivenValid n) xs x h (turned-In xs x (find-In (λ y. y.cell.0 == c) (reverse xs) x e))

flat_valid : (m : FlowModel) (ps : List Period) → ((p : Period) → In ps p → IsPeriod m p) → All (IsGivenValid (cell_count m.grid)) (flat_map (λ p. p.stresses.given) ps)
flat_valid m [] h = All-nil (IsGivenValid (cell_count m.grid))
flat_valid m (p ∷ ps) h = All-append (IsGivenValid (cell_count m.grid)) p.stresses.given (flat_map (λ q. q.stresses.given) ps)
    (h p (inl refl)).stresses.given.entries (flat_valid m ps (λ q i. h q (inr i)))

taken-In : {X : Type 0} (k : ℕ) (xs : List X) (x : X) → In (take k xs) x → In xs x
taken-In zero xs x i = absurd i
taken-In (suc k) [] x i = absurd i
taken-In (suc k) (y ∷ ys) x (inl e) = inl e
taken-In (suc k) (y ∷ ys) x (inr i) = inr (taken-In k ys x i)

pub last_valid : (m : FlowModel) (k c : ℕ) (x : Given) → IsModel m → last_given (take k m.periods) c ≡ Some x → IsGivenValid (cell_count m.grid) x
last_valid m k c x valid e =
    given_valid (cell_count m.grid) (flat_map (λ p. p.stresses.given) (take k m.periods)) c x
    (flat_valid m (take k m.periods) (λ p i. In-All (IsPeriod m) m.periods p valid.periods (taken-In k m.periods p i))) e

pub last_head : (m : FlowModel) (k c : ℕ) (o : Option Given) → IsModel m → o ≡ last_given (take k m.periods) c → IfSome o (λ x. IsHeadNumber x.ehead)
last_head m k c None valid e = tt
last_head m k c (Some x) valid e = (last_valid m k c x valid (sym e)).ehead

minus_is : (a b x y : ℤ) → a *ℤ x +ℤ neg_ℤ b *ℤ y ≡ a *ℤ x -ℤ b *ℤ y
minus_is a b x y = rw (as_diff a, as_diff b, as_diff x, as_diff y) (simp diffs (same_diff _ _ _ _ (omega arith)))

-- what holds of each optional item holds of the one
pub in_option : {X : Type 0} (P : X → Type 0) (o : Option X) (x : X) → o ≡ Some x → All P (option_to_list o) → P x
in_option P o x e h = (subst (λ q. All P (option_to_list q)) e h) 0 x (omega arith)

module _ (m : FlowModel) (at : TimeStep) (valid : IsModel m) (time : IsTimeOf m at) where
  kept : (o : Option Given) (c : ℕ) → EnclosesSigned (kept_bound m c o).low (kept_bound m c o).high 9 (kept_head m o c)
  kept None c = head_encloses (dec_at m.strt c)
  kept (Some x) c = head_encloses x.ehead

  either : (o : Option Given) (c : ℕ) → EnclosesSigned (given_or_kept m at c o).low (given_or_kept m at c o).high 9 (head_or_kept m at.period at.step o c)
  either None c = kept (last_given (take (at.period - 1) m.periods) c) c
  either (Some x) c = given_encloses (period_at m at.period) at.step x time.valid.times time.step.0 time.step.1

  pub constant_head_is_enclosed : (c : ℕ) → EnclosesSigned (constant_bound m at c).low (constant_bound m at c).high 9 (constant_head m at.period at.step c)
  unfolding constant_bound constant_head
  constant_head_is_enclosed c = either (given_in (period_at m at.period).stresses.given c) c

  kept_range : (o : Option Given) (c : ℕ) → last_given (take (at.period - 1) m.periods) c ≡ o → c < cell_count m.grid → is_active m c ≡ true → AreHeads (kept_bound m c o)
  kept_range None c e lt a = head_range_of (dec_at m.strt c) (valid.cells c lt a).strt
  kept_range (Some x) c e lt a = head_range_of x.ehead (last_valid m (at.period - 1) c x valid e).ehead

  either_range : (o : Option Given) (c : ℕ) → given_in (period_at m at.period).stresses.given c ≡ o → c < cell_count m.grid → is_active m c ≡ true → AreHeads (given_or_kept m at c o)
  either_range None c e lt a = kept_range (last_given (take (at.period - 1) m.periods) c) c refl lt a
  either_range (Some x) c e lt a =
      let q = part_encloses (period_at m at.period) at.step time.step.0 time.step.1 (multiplier_positive (period_at m at.period) time.valid.times) in
      let h = given_valid (cell_count m.grid) (period_at m at.period).stresses.given c x time.valid.stresses.given.entries e in
      given_range x.shead x.ehead (part (period_at m at.period) at.step) h.shead h.ehead q.low_range q.high_range

  pub head_range : (c : ℕ) → c < cell_count m.grid → is_constant m at.period c ≡ true → AreHeads (constant_bound m at c)
  unfolding constant_bound
  head_range c lt k = either_range (given_in (period_at m at.period).stresses.given c) c refl lt (constant_active m at.period c k)

pub pair_fits : ConstantPairFits
pair_fits m at c lo hi valid time lt k h =
    let r = head_range m at valid (time_of m at valid time) c lt k in
    (subst IsHead (sym h.0) r.0, subst IsHead (sym h.1) r.1)

pub pair_encloses : ConstantPairEncloses
pair_encloses m at c lo hi valid time lt k h =
    let e = constant_head_is_enclosed m at valid (time_of m at valid time) c in
    record { lower = rw h.0 e.lower; upper = rw h.1 e.upper }

pub past_magnitude : (lo hi : ℤ) → magnitude lo hi < 2 ^ 109 → unsigned_abs lo < 2 ^ 109
past_magnitude (pos n) (pos k) lt = omega (arith, lt)
past_magnitude (pos n) (negsuc k) lt = omega (arith, lt)
past_magnitude (negsuc n) (pos k) lt = omega (arith, lt)
past_magnitude (negsuc n) (negsuc k) lt = omega (arith, lt)

module _ (m : FlowModel) (s : ℕ) (c : ℕ) where
  pub recharges : (rate : Dec) → magnitude (recharge_pair m s c rate).lo (recharge_pair m s c rate).hi < 2 ^ 109 →
      EnclosesSigned (recharge_pair m s c rate).lo (recharge_pair m s c rate).hi (s + 9) (recharge_flow m c rate)
  recharges rate small =
      let x = recharge_pair m s c rate in
      subst (λ (p : FlowPair). EnclosesSigned p.lo p.hi (s + 9) (recharge_flow m c rate))
      (sym (real_flow (recharge_term m rate c) rate.neg (s + 9) (past_magnitude x.lo x.hi small))) (recharges_enclose m rate c (s + 9))

  pub evaps : (x : EvapSource) → IsPositive x.depth → (whole_evap m s c x).hi < 2 ^ 60 →
      EvapEncloses s (whole_evap m s c x) (record { conductance = evap_conductance m c x; surface = number x.surface; extinction = extinction x })
  evaps x depth small =
      let S = number x.surface in
      let D = number x.depth in
      let surface = head_bound x.surface in
      let bed = head_bound x.depth in
      let den : denominator (plus S (opposite D)) ≡ denominator S * denominator D = omega arith in
      record {
        conductance = capped_encloses (evap_term m x.rate x.depth c) s (evap_conductance m c x) (evaps_enclose m x c s depth) small;
        surface = head_encloses x.surface;
        extinction = record {
          lower = omega (
            arith,
            ints,
            below_gap _ _ S.num D.num (denominator S) (denominator D) (10 ^ 9) (head_floor x.surface).at_most
                (head_ceiling x.depth).at_least,
            ap (λ (z : ℕ). (surface.low -ℤ bed.high) *ℤ pos z) den,
            ap (λ (z : ℤ). z *ℤ pos (10 ^ 9)) (minus_is S.num D.num (pos (denominator D)) (pos (denominator S))),
          );
          upper = omega (
            arith,
            ints,
            above_gap _ _ S.num D.num (denominator S) (denominator D) (10 ^ 9) (head_ceiling x.surface).at_least
                (head_floor x.depth).at_most,
            ap (λ (z : ℕ). (surface.high -ℤ bed.low) *ℤ pos z) den,
            ap (λ (z : ℤ). z *ℤ pos (10 ^ 9)) (minus_is S.num D.num (pos (denominator D)) (pos (denominator S))),
          );
        };
      }
