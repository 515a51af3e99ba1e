-- Given heads at the last step, half-way, and in later periods.
use Rattle.flow_equations.proofs.Common.{◌≡◌, ℕ, zero, suc, ◌+◌, ◌*◌, ◌-◌, ◌<◌, ◌≤◌, inl, inr, true, false, cond, ◌||◌, Option, Some, None, List, [], ◌∷◌, ◌++◌, length, take, get_or, refl, sym, ap}
use Rattle.flow_equations.proofs.Common.{◌∙◌, subst, arith, ℤ, pos, neg_ℤ, ◌+ℤ◌, ◌*ℤ◌, mul-pos, reverse, ◌==◌, find, flat_map, ne_eqb, cases_lt, ints, reverse-append, take_all, take_more, append-nil}
use Rattle.flow_equations.proofs.Common.{number, size, Ratio, ratio, over, Fraction, den, as_fraction, opposite, IsOver, IsShare, diffs, as_diff, same_diff, last_factors_swap, mul_assoc, IsOver-plus}
use Rattle.flow_equations.proofs.Common.{IsOver-times, IsOver-negated, IsOver-signed, same_over, FlowModel, Period, one, period_at, no_period, part_passed, geometric, multiplier, given_in, last_given}
use Rattle.flow_equations.proofs.Common.{between_heads, head_or_kept, kept_head, constant_head, Lasts, HasEqualSteps, HasGivenHead, find-append, option_or}
use Rattle.std.proofs.lemmas.List.Concat.{flat_map-append}
use Rattle.decimal_input.specs.{Ratios.den as ratio_den, Ratios.Same as SameRatio, Fractions.plus, Fractions.times, Fractions.Same}
use Rattle.model_types.specs.declared.entry.Given.{Given}
use Rattle.flow_equations.proofs.{Downwards.value_one, Downwards.own_value, Downwards.value_over, Downwards.cross_by, StepSums.geometric_one, StepSums.value_ratio, TurnedFlows.over_first}
use Rattle.flow_equations.proofs.{TurnedFlows.over_second}

pub over_multiple : (m k : ℕ) (g : Fraction) (z : ℤ) → IsOver m g z → IsOver (m * k) g (z *ℤ pos k)
over_multiple m k g z p = record { is = sym (mul_assoc g.num (pos m) (pos k)) ∙ ap (λ (y : ℤ). y *ℤ pos k) p.is ∙ last_factors_swap z (pos (den g)) (pos k) }

-- Shead + (Ehead - Shead) * f, where f is n over k
pub between_over : (x : Given) (f : Ratio) (m k n : ℕ) (a b : ℤ) → IsShare k f n → IsOver m (number x.shead) a → IsOver m (number x.ehead) b →
    IsOver (m * k) (between_heads x f) (a *ℤ pos k +ℤ (b +ℤ neg_ℤ a) *ℤ pos n)
between_over x f m k n a b share s e = IsOver-plus (m * k) (number x.shead) (times (plus (number x.ehead) (opposite (number x.shead))) (as_fraction f)) _ _ (over_multiple m k (number x.shead) a s)
    (IsOver-times m k (plus (number x.ehead) (opposite (number x.shead))) (as_fraction f) (b +ℤ neg_ℤ a) (pos n)
    (IsOver-plus m (number x.ehead) (opposite (number x.shead)) b (neg_ℤ a) e (IsOver-negated m (number x.shead) a s)) (IsOver-signed k f n share))

module _ (x : Given) (f : Ratio) (k n : ℕ) (some : 0 < k) (share : IsShare k f n) where
  abbrev s : Fraction
  s = number x.shead

  abbrev e : Fraction
  e = number x.ehead

  abbrev m : ℕ
  m = den s * den e

  abbrev a : ℤ
  a = s.num *ℤ pos (den e)

  abbrev b : ℤ
  b = e.num *ℤ pos (den s)

  between : IsOver (m * k) (between_heads x f) (a *ℤ pos k +ℤ (b +ℤ neg_ℤ a) *ℤ pos n)
  between = between_over x f m k n a b share (over_first s e) (over_second s e)

  some_over : 0 < m * k
  some_over = mul-pos (mul-pos (omega arith) (omega arith)) some

  -- the whole of the way
  at_end : n ≡ k → Same (between_heads x f) e
  at_end same = same_over (m * k) _ _ _ _ some_over between (over_multiple m k e b (over_second s e)) (ap (λ (j : ℕ). a *ℤ pos k +ℤ (b +ℤ neg_ℤ a) *ℤ pos j) same ∙ all_the_way a b (pos k))
    where
      all_the_way : (u v w : ℤ) → u *ℤ w +ℤ (v +ℤ neg_ℤ u) *ℤ w ≡ v *ℤ w
      all_the_way u v w = rw (as_diff u, as_diff v, as_diff w) (simp diffs (same_diff _ _ _ _ (omega arith)))

  -- half of it
  half_way : 2 * n ≡ k → Same (plus (between_heads x f) (between_heads x f)) (plus s e)
  half_way twice = same_over (m * k) _ _ _ _ some_over (IsOver-plus (m * k) _ _ _ _ between between)
      (IsOver-plus (m * k) s e _ _ (over_multiple m k s a (over_first s e)) (over_multiple m k e b (over_second s e))) (half a b (pos n) (pos k) (omega (arith, ints)))
    where
      halves : (u v w : ℤ) → (u *ℤ (w +ℤ w) +ℤ (v +ℤ neg_ℤ u) *ℤ w) +ℤ (u *ℤ (w +ℤ w) +ℤ (v +ℤ neg_ℤ u) *ℤ w) ≡ u *ℤ (w +ℤ w) +ℤ v *ℤ (w +ℤ w)
      halves u v w = rw (as_diff u, as_diff v, as_diff w) (simp diffs (same_diff _ _ _ _ (omega arith)))

      half : (u v w t : ℤ) → t ≡ w +ℤ w → (u *ℤ t +ℤ (v +ℤ neg_ℤ u) *ℤ w) +ℤ (u *ℤ t +ℤ (v +ℤ neg_ℤ u) *ℤ w) ≡ u *ℤ t +ℤ v *ℤ t
      half u v w t is = rw is (halves u v w)

passed_at_end : (p : Period) → part_passed p p.nstp ≡ one
unfolding part_passed
passed_at_end p = ap (λ b. cond (b || p.perlen.digits == 0) one (over (geometric (multiplier p) p.nstp) (geometric (multiplier p) p.nstp))) (itself_eq p.nstp)
  where
    itself_eq : (n : ℕ) → (n == n) ≡ true
    itself_eq n = grind arith

-- one of two equal steps is half of the period
passed_half : (p : Period) → Lasts p → HasEqualSteps p → p.nstp ≡ 2 → 2 * (part_passed p 1).num ≡ ratio_den (part_passed p 1)
unfolding part_passed
passed_half p h equal two =
    let T = size p.tsmult in
    let first : (1 == p.nstp) ≡ false = ne_eqb 1 p.nstp (λ z. omega (arith, z, two)) in
    let lasts : (p.perlen.digits == 0) ≡ false = ne_eqb p.perlen.digits 0 (λ z. omega (arith, z, h.perlen.positive)) in
    let transient : multiplier p ≡ T = ap (λ s. cond s one T) h.transient in
    let is : part_passed p 1 ≡ over (geometric T 1) (geometric T p.nstp) = λ i. cond (first i || lasts i) one (over (geometric (transient i) 1) (geometric (transient i) p.nstp)) in
    subst (λ (f : Ratio). 2 * f.num ≡ ratio_den f) (sym is) (half_of T p.nstp two (geometric_one T 1 equal) (geometric_one T p.nstp equal))
  where
    half_of : (T : Ratio) (n : ℕ) → n ≡ 2 → SameRatio (geometric T 1) (ratio 1 1) → SameRatio (geometric T n) (ratio n 1) →
        2 * (over (geometric T 1) (geometric T n)).num ≡ ratio_den (over (geometric T 1) (geometric T n))
    half_of T n two e f =
        let sum : (geometric T n).num * 1 ≡ n * ratio_den (geometric T n) = cross_by (own_value (geometric T n)) (value_ratio n) f in
        let first : (geometric T 1).num * 1 ≡ 1 * ratio_den (geometric T 1) = cross_by (own_value (geometric T 1)) (value_ratio 1) e in
        let some : 0 < (geometric T n).num = omega (arith, sum, two, twice_some n (ratio_den (geometric T n)) two (omega arith)) in
        let value = value_over some (own_value (geometric T 1)) (own_value (geometric T n)) in
        ap (λ j. 2 * j) value.num ∙ meet (geometric T 1).num (ratio_den (geometric T 1)) (geometric T n).num (ratio_den (geometric T n)) n two first sum ∙ sym value.bottom
      where
        twice_some : (n d : ℕ) → n ≡ 2 → 0 < d → 0 < n * d
        twice_some n d two h = rw two (omega (arith, h))

        meet : (a x b y n : ℕ) → n ≡ 2 → a * 1 ≡ 1 * x → b * 1 ≡ n * y → 2 * (a * y) ≡ x * b
        meet a x b y n two e f =
            let a' : a ≡ x = omega (arith, e) in
            let b' : b ≡ 2 * y = f' b y n two f in
            rw (a', b') (omega arith)
          where
            f' : (b y n : ℕ) → n ≡ 2 → b * 1 ≡ n * y → b ≡ 2 * y
            f' b y n two f = let g : n * y ≡ 2 * y = ap (λ k. k * y) two in omega (arith, f, g)

module _ (m : FlowModel) (p c : ℕ) (x : Given) (given : given_in (period_at m p).stresses.given c ≡ Some x) where
  named : (n : ℕ) → constant_head m p n c ≡ between_heads x (part_passed (period_at m p) n)
  unfolding constant_head
  named n = ap (λ o. head_or_kept m p n o c) given

  at_last : Same (constant_head m p (period_at m p).nstp c) (number x.ehead)
  at_last = subst (λ (f : Fraction). Same f (number x.ehead)) (sym (named (period_at m p).nstp ∙ ap (between_heads x) (passed_at_end (period_at m p))))
      (at_end x one 1 1 (omega arith) (record { is = omega (arith, value_one.num, value_one.bottom) }) refl)

  at_half : Lasts (period_at m p) → HasEqualSteps (period_at m p) → (period_at m p).nstp ≡ 2 → Same (plus (constant_head m p 1 c) (constant_head m p 1 c)) (plus (number x.shead) (number x.ehead))
  at_half h e two =
      let f = part_passed (period_at m p) 1 in
      subst (λ (z : Fraction). Same (plus z z) (plus (number x.shead) (number x.ehead))) (sym (named 1))
      (half_way x f (ratio_den f) f.num (omega arith) (record { is = refl }) (passed_half (period_at m p) h e two))

given_last : (us vs : List Given) (c : ℕ) (x : Given) → given_in vs c ≡ Some x → given_in (us ++ vs) c ≡ Some x
unfolding given_in
given_last us vs c x e = ap (find (λ y. y.cell.0 == c)) (reverse-append us vs) ∙ find-append (λ (y : Given). y.cell.0 == c) (reverse vs) (reverse us) ∙ ap
    (λ (o : Option Given). option_or o (given_in us c)) e

given_before : (us vs : List Given) (c : ℕ) → given_in vs c ≡ None → given_in (us ++ vs) c ≡ given_in us c
unfolding given_in
given_before us vs c e = ap (find (λ y. y.cell.0 == c)) (reverse-append us vs) ∙ find-append (λ (y : Given). y.cell.0 == c) (reverse vs) (reverse us) ∙ ap
    (λ (o : Option Given). option_or o (given_in us c)) e

module _ (ps : List Period) (c : ℕ) where
  abbrev list_at : ℕ → List Given
  list_at k = (get_or ps k no_period).stresses.given

  lists_more : (k : ℕ) → k < length ps → flat_map (λ q. q.stresses.given) (take (suc k) ps) ≡ flat_map (λ q. q.stresses.given) (take k ps) ++ list_at k
  lists_more k lt = (let on : suc k ≡ k + 1 = omega arith in ap (λ n. flat_map (λ q. q.stresses.given) (take n ps)) on) ∙ ap (flat_map (λ q. q.stresses.given))
      (take_more ps k no_period lt) ∙ flat_map-append (λ q. q.stresses.given) (take k ps) (get_or ps k no_period ∷ []) ∙ ap (λ zs.
      flat_map (λ q. q.stresses.given) (take k ps) ++ zs) (append-nil (list_at k))

  -- the last list that names the cell is that of period p, counted from 0 here, as long as no later one does
  lasting : (p k : ℕ) (x : Given) → given_in (list_at p) c ≡ Some x → p < length ps → p ≤ k → ((r : ℕ) → p < r → r ≤ k → given_in (list_at r) c ≡ None) → last_given (take (suc k) ps) c ≡ Some x
  lasting p zero x e within le none =
      let here : p ≡ 0 = omega (arith, le) in
      ap (λ xs. given_in xs c) (lists_more 0 (omega (arith, here, within))) ∙ given_last [] (list_at 0) c x (subst (λ j. given_in (list_at j) c ≡ Some x) here e)
  lasting p (suc k) x e within le none = elim (cases_lt p (suc k)) [
    | inl before ↦ elim (cases_lt (suc k) (length ps)) [
      | inl inside ↦ ap (λ xs. given_in xs c) (lists_more (suc k) inside) ∙ given_before _ (list_at (suc k)) c
          (none (suc k) before (omega arith)) ∙ lasting p k x e within (omega (arith, before)) (λ r lt more. none r lt (omega (arith, more)))
      | inr past ↦ ap (λ xs. last_given xs c) (take_all (suc (suc k)) ps (omega (arith, past)) ∙ sym (take_all (suc k) ps (omega (arith, past)))) ∙ lasting p k
          x e within (omega (arith, before)) (λ r lt more. none r lt (omega (arith, more)))
    ]
    | inr after ↦ (let here : p ≡ suc k = omega (arith, le, after) in ap (λ xs. given_in xs c) (lists_more (suc k) (omega (arith, here, within))) ∙ given_last _
        (list_at (suc k)) c x (subst (λ j. given_in (list_at j) c ≡ Some x) here e))
  ]

kept_after : (m : FlowModel) (p c : ℕ) (x : Given) → given_in (period_at m p).stresses.given c ≡ Some x → (q n : ℕ) → 1 ≤ p → p ≤ length m.periods → p < q →
    ((r : ℕ) → p < r → r ≤ q → given_in (period_at m r).stresses.given c ≡ None) → Same (constant_head m q n c) (number x.ehead)
unfolding constant_head
kept_after m p c x e q n first within later none =
    let last : last_given (take (suc (q - 2)) m.periods) c ≡ Some x =
    lasting m.periods c (p - 1) (q - 2) x e (omega (arith, first, within)) (omega (arith, later)) (λ r lt le.
    subst (λ (j : ℕ). given_in (get_or m.periods j no_period).stresses.given c ≡ None) (omega (arith, lt))
    (none (suc r) (omega (arith, lt, first)) (omega (arith, le, later, first)))) in
    let before : suc (q - 2) ≡ q - 1 = omega (arith, later, first) in
    let is : constant_head m q n c ≡ number x.ehead = ap (λ o. head_or_kept m q n o c) (none q later (omega arith)) ∙ ap (λ o. kept_head m o c)
    (ap (λ k. last_given (take k m.periods) c) (sym before) ∙ last) in
    subst (λ (f : Fraction). Same f (number x.ehead)) (sym is) (record { same = refl })

pub given_heads_of : (m : FlowModel) (p c : ℕ) (x : Given) → given_in (period_at m p).stresses.given c ≡ Some x → HasGivenHead m p c x
given_heads_of m p c x e = record { last = at_last m p c x e; half = at_half m p c x e; kept = kept_after m p c x e }
