-- Time steps of a transient period: they grow by TSMULT from the manual's first one, and sum to the period.
use Rattle.flow_equations.proofs.Common.{◌≡◌, ℕ, zero, suc, ◌+◌, ◌*◌, ◌-◌, ◌<◌, ◌≤◌, Bool, true, false, cond, ◌||◌, List, [], ◌∷◌, ◌++◌, refl, sym, ap, arith, mul-pos, ◌==◌, range_with_len, eqb-true}
use Rattle.flow_equations.proofs.Common.{ne_eqb, size, Ratio, ratio, plus, times, over, Same, Same-trans, Same-self, Same-of, plus-Same, times-Same, over-Same, FlowModel, Period, one, power}
use Rattle.flow_equations.proofs.Common.{geometric, step_length, multiplier, part_passed, storage, storage_capacity, range_more, ratio_total, Lasts, HasManualSteps, add-sub_cancel_left}
use Rattle.decimal_input.specs.Ratios.{den}
use Rattle.model_types.proofs.Growth.{power-positive, geometric_sum_steps}
use Rattle.flow_equations.proofs.Downwards.{IsValue, own_value, value_one, value_times, value_plus, value_over, same_by, size_positive}

pub value_ratio : (n : ℕ) → IsValue (ratio n 1) n 1
unfolding ratio
value_ratio n = record { num = refl; bottom = refl }

-- powers and sums of powers
geometric_positive : (t : Ratio) (n : ℕ) → 0 < t.num → 1 ≤ n → 0 < (geometric t n).num
unfolding geometric
geometric_positive t zero h some = absurd (omega arith)
geometric_positive t (suc n) h some =
    let p : 0 < (power t n).num * den (geometric t n) = mul-pos (power-positive t n h) (omega arith) in
    omega (arith, (value_plus (own_value (geometric t n)) (own_value (power t n))).num, p)

three_sums : (a x b y c z : ℕ) → (a * (y * z) + (b * z + c * y) * x) * ((x * y) * z) ≡ ((a * y + b * x) * z + c * (x * y)) * (x * (y * z))
three_sums a x b y c z = omega arith

right_sums : (p q g x t y : ℕ) → ((p * ((g * t) * 1 + 1 * (x * y))) * x) * ((q * y) * ((q * 1) * g)) ≡ ((p * t) * ((q * 1) * g) + ((p * 1) * x) * (q * y)) * ((q * ((x * y) * 1)) * g)
right_sums p q g x t y = omega arith

more_sums : (p d a x b y g z : ℕ) → (((p * a) * z) * ((d * y) * g) + ((p * b) * z) * ((d * x) * g)) * ((d * (x * y)) * g) ≡ ((p * (a * y + b * x)) * z) * (((d * x) * g) * ((d * y) * g))
more_sums p d a x b y g z = omega arith

-- the sum of one more term
total_more : (f : ℕ → Ratio) (xs : List ℕ) (x : ℕ) → Same (ratio_total f (xs ++ x ∷ [])) (plus (ratio_total f xs) (f x))
total_more f [] x = same_by (value_plus (own_value (f x)) (value_ratio 0)) (value_plus (value_ratio 0) (own_value (f x))) (omega arith)
total_more f (y ∷ xs) x = Same-trans (plus-Same (Same-self (f y)) (total_more f xs x)) (joined (f y) (ratio_total f xs) (f x))
  where
    joined : (a b c : Ratio) → Same (plus a (plus b c)) (plus (plus a b) c)
    joined a b c = same_by (value_plus (own_value a) (value_plus (own_value b) (own_value c)))
        (value_plus (value_plus (own_value a) (own_value b)) (own_value c)) (three_sums a.num (den a) b.num (den b) c.num (den c))

-- terms of a period's length P, a sum g of powers above 0, and others
module _ (P g : Ratio) (some : 0 < g.num) where
  grown : (t q : Ratio) → Same (over (times P (times q t)) g) (times t (over (times P q) g))
  grown t q = same_by (value_over some (value_times (own_value P) (value_times (own_value q) (own_value t))) (own_value g))
      (value_times (own_value t) (value_over some (value_times (own_value P) (own_value q)) (own_value g))) (omega arith)

  first_left : (w : Ratio) → Same (plus (times (over (times P one) g) w) P) (over (times P (plus g w)) g)
  first_left w = same_by (value_plus (value_times (value_over some (value_times (own_value P) value_one) (own_value g)) (own_value w)) (own_value P))
      (value_over some (value_times (own_value P) (value_plus (own_value g) (own_value w))) (own_value g)) (omega arith)

  first_right : (t : Ratio) → Same (over (times P (plus (times g t) one)) g) (plus (times P t) (over (times P one) g))
  first_right t = same_by (value_over some (value_times (own_value P) (value_plus (value_times (own_value g) (own_value t)) value_one)) (own_value g))
      (value_plus (value_times (own_value P) (own_value t)) (value_over some (value_times (own_value P) value_one) (own_value g)))
      (right_sums P.num (den P) g.num (den g) t.num (den t))

  nothing_yet : Same (ratio 0 1) (over (times P (ratio 0 1)) g)
  nothing_yet = same_by (value_ratio 0) (value_over some (value_times (own_value P) (value_ratio 0)) (own_value g)) (omega arith)

  one_more : (q w : Ratio) → Same (plus (over (times P q) g) (over (times P w) g)) (over (times P (plus q w)) g)
  one_more q w = same_by (value_plus (value_over some (value_times (own_value P) (own_value q)) (own_value g))
      (value_over some (value_times (own_value P) (own_value w)) (own_value g))) (value_over some (value_times (own_value P) (value_plus (own_value q) (own_value w))) (own_value g))
      (more_sums P.num (den P) q.num (den q) w.num (den w) g.num (den g))

  all_of_it : Same (over (times P g) g) P
  all_of_it = same_by (value_over some (value_times (own_value P) (own_value g)) (own_value g)) (own_value P) (omega arith)

  as_part : (q : Ratio) → Same (over (times P q) g) (times (over q g) P)
  as_part q = same_by (value_over some (value_times (own_value P) (own_value q)) (own_value g)) (value_times (value_over some (own_value q) (own_value g)) (own_value P)) (omega arith)

  capacity_over : (c w : Ratio) → 0 < P.num → 0 < w.num → Same (times (over (times c g) (times P w)) (over (times P w) g)) c
  capacity_over c w h k = same_by (value_times (value_over (mul-pos h k) (value_times (own_value c) (own_value g)) (value_times (own_value P) (own_value w)))
      (value_over some (value_times (own_value P) (own_value w)) (own_value g))) (own_value c) (omega arith)

-- where t is 1
power_one : (t : Ratio) (n : ℕ) → Same t one → Same (power t n) one
unfolding power
power_one t zero e = Same-self one
power_one t (suc n) e = Same-trans (times-Same (power_one t n e) e) (same_by (value_times value_one value_one) value_one (omega arith))

pub geometric_one : (t : Ratio) (n : ℕ) → Same t one → Same (geometric t n) (ratio n 1)
unfolding geometric
geometric_one t zero e = Same-self (ratio 0 1)
geometric_one t (suc n) e = Same-trans (plus-Same (geometric_one t n e) (power_one t n e)) (same_by (value_plus (value_ratio n) value_one) (value_ratio (suc n)) (omega arith))

module _ (p : Period) (h : Lasts p) where
  abbrev P : Ratio
  P = size p.perlen

  abbrev T : Ratio
  T = size p.tsmult

  abbrev G : ℕ → Ratio
  G n = geometric T n

  whole_sum : 0 < (G p.nstp).num
  whole_sum = geometric_positive T p.nstp (size_positive p.tsmult h.tsmult) h.nstp

  step_is : (n k : ℕ) → n - 1 ≡ k → step_length p n ≡ over (times P (power T k)) (G p.nstp)
  unfolding step_length
  step_is n k e = ap (λ j. over (times P (power T j)) (G p.nstp)) e

  grows : (n : ℕ) → 1 ≤ n → Same (step_length p (n + 1)) (times T (step_length p n))
  unfolding power
  grows n some =
      Same-trans (Same-of (step_is (n + 1) (suc (n - 1)) (omega arith))) (Same-trans (grown P (G p.nstp) whole_sum T (power T (n - 1))) (Same-of (ap (times T) (sym (step_is n (n - 1) refl)))))

  first_step : step_length p 1 ≡ over (times P one) (G p.nstp)
  unfolding power
  first_step = step_is 1 0 refl

  first : Same (plus (times (step_length p 1) (power T p.nstp)) P) (plus (times P T) (step_length p 1))
  unfolding geometric
  first =
      let w = power T p.nstp in
      let meet = over-Same whole_sum whole_sum (times-Same (Same-self P) (geometric_sum_steps T p.nstp)) (Same-self (G p.nstp)) in
      Same-trans (Same-of (ap (λ s. plus (times s w) P) first_step))
      (Same-trans (first_left P (G p.nstp) whole_sum w)
      (Same-trans meet
      (Same-trans (first_right P (G p.nstp) whole_sum T) (Same-of (ap (plus (times P T)) (sym first_step))))))

  equal : Same T one → (n : ℕ) → Same (step_length p n) (over P (ratio p.nstp 1))
  equal e n =
      let some : 0 < (ratio p.nstp 1).num = omega (arith, (value_ratio p.nstp).num, h.nstp) in
      let time : Same (times P (power T (n - 1))) P = Same-trans (times-Same (Same-self P) (power_one T (n - 1) e)) (same_by (value_times (own_value P) value_one) (own_value P) (omega arith)) in
      Same-trans (Same-of (step_is n (n - 1) refl)) (over-Same whole_sum some time (geometric_one T p.nstp e))

  -- the time that has passed after n steps
  elapsed : (n : ℕ) → Same (ratio_total (step_length p) (range_with_len 1 n)) (over (times P (G n)) (G p.nstp))
  unfolding geometric
  elapsed zero = nothing_yet P (G p.nstp) whole_sum
  elapsed (suc n) =
      Same-trans (Same-of (ap (ratio_total (step_length p)) (range_more 1 n)))
      (Same-trans (total_more (step_length p) (range_with_len 1 n) (1 + n))
      (Same-trans (plus-Same (elapsed n) (Same-of (step_is (1 + n) n (add-sub_cancel_left 1 n)))) (one_more P (G p.nstp) whole_sum (G n) (power T n))))

  whole : Same (ratio_total (step_length p) (range_with_len 1 p.nstp)) P
  whole = Same-trans (elapsed p.nstp) (all_of_it P (G p.nstp) whole_sum)

  lasts : (p.perlen.digits == 0) ≡ false
  lasts = ne_eqb p.perlen.digits 0 (λ e. omega (arith, e, h.perlen.positive))

  part_is : (n : ℕ) (b : Bool) → (n == p.nstp) ≡ b → Same (over (times P (G n)) (G p.nstp)) (times (part_passed p n) P)
  unfolding part_passed
  part_is n true e =
      let here : n ≡ p.nstp = eqb-true n p.nstp e in
      let all : part_passed p n ≡ one = ap (λ c. cond (c || p.perlen.digits == 0) one (over (geometric (multiplier p) n) (geometric (multiplier p) p.nstp))) e in
      Same-trans (Same-of (ap (λ k. over (times P (G k)) (G p.nstp)) here))
      (Same-trans (all_of_it P (G p.nstp) whole_sum)
      (Same-trans (same_by (own_value P) (value_times value_one (own_value P)) (omega arith)) (Same-of (ap (λ f. times f P) (sym all)))))
  part_is n false e =
      let transient : multiplier p ≡ T = ap (λ s. cond s one T) h.transient in
      let some : part_passed p n ≡ over (G n) (G p.nstp) =
      (λ i. cond (e i || lasts i) one (over (geometric (transient i) n) (geometric (transient i) p.nstp))) in
      Same-trans (as_part P (G p.nstp) whole_sum (G n)) (Same-of (ap (λ f. times f P) (sym some)))

  pub manual_steps : HasManualSteps p
  manual_steps = record {
    grows = grows;
    first = first;
    equal = equal;
    whole = whole;
    part = (λ n some few. Same-trans (elapsed n) (part_is n (n == p.nstp) refl));
  }

  pub storage_times_length : (m : FlowModel) (n c : ℕ) → Same (times (storage m p n c) (step_length p n)) (storage_capacity m c)
  unfolding storage step_length
  storage_times_length m n c = capacity_over P (G p.nstp) whole_sum (storage_capacity m c) (power T (n - 1)) (size_positive p.perlen h.perlen)
      (power-positive T (n - 1) (size_positive p.tsmult h.tsmult))
