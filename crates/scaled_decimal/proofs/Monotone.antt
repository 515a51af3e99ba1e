use Rattle.scaled_decimal.proofs.Common.{ℕ, ◌+◌, ◌*◌, ◌≤◌, ◌<◌, ◌^◌, arith, mul-le-mul_right, den, AtMost-trans, lt_right, le_cancel, lt_cancel, ◌≡◌, suc, ◌-◌, ◌/◌, ap, ℤ, pos, ◌+ℤ◌, ints, pow-add}
use Rattle.scaled_decimal.proofs.Common.{lt-mul-div-succ, div-mul-le_self, over, AtMost, scaled_ratio, up, down, num_over, den_over, ten_pos, num_scaled, den_scaled, up_down, IsFrom, IsUpTo, inl, inr}
use Rattle.scaled_decimal.proofs.Common.{refl, sym, subst, ◌∙◌, mul-le-mul, pow-suc, cases_lt, Same, cross_of, Sd, IsSd, value, RoundingsKeepOrder, eq_of_mul-eq-mul_right}

-- n ≤ a t / b, and m is the whole part of c t / d
wholes_below : (n a b m c d t : ℕ) → 0 < b → n * b ≤ a * t → a * d ≤ c * b → c * t < (m + 1) * d → n < m + 1
wholes_below n a b m c d t hb p q r = lt_cancel (b * d) n (m + 1) (omega (arith, mul-le-mul_right d p, mul-le-mul_right t q, lt_right b (c * t) ((m + 1) * d) hb r))

wholes_above : (a b m c d t : ℕ) → 0 < d → a * d ≤ c * b → c * t ≤ m * d → a * t ≤ m * b
wholes_above a b m c d t hd q r = le_cancel d (a * t) (m * b) hd (omega (arith, mul-le-mul_right t q, mul-le-mul_right b r))

pub roundings_keep_order : RoundingsKeepOrder
roundings_keep_order = record {
  down = λ f g q r le h k. k.greatest q h.decimal (AtMost-trans h.at_most le);
  up = λ f g q r le h k. h.least r k.decimal (AtMost-trans le k.at_least);
  floors = λ f g n m s le p q. let below : n < m + 1 = wholes_below n f.num (den f) m g.num (den g) (10 ^ s) (omega arith) p.at_most le.cross q.next in omega arith;
  ceilings = λ f g n m s le p q. p.least m (wholes_above f.num (den f) m g.num (den g) (10 ^ s) (omega arith) le.cross q.at_least);
}

tens : (a b c : ℕ) → 0 < 10 ^ a * 10 ^ b * 10 ^ c
tens a b c = rw (← pow-add 10 a b, ← pow-add 10 (a + b) c) (ten_pos (a + b + c))

-- q units against m / n, where the unit of m, cut in 10 ^ k, is the product of the other two
quotient_balance : (d e g : ℤ) (k : ℕ) → d ≡ e +ℤ g +ℤ pos k → k + (up e + up g + down d) ≡ up d + down g + down e
quotient_balance d e g k h = omega (arith, ints, h, up_down d, up_down e, up_down g)

pow_four : (k a b c x y z : ℕ) → k + (a + b + c) ≡ x + y + z → 10 ^ k * (10 ^ a * 10 ^ b * 10 ^ c) ≡ 10 ^ x * 10 ^ y * 10 ^ z
pow_four k a b c x y z h = rw (← pow-add 10 a b, ← pow-add 10 (a + b) c, ← pow-add 10 k (a + b + c), ← pow-add 10 x y, ← pow-add 10 (x + y) z) (ap (λ (t : ℕ). 10 ^ t) h)

pub positive_scaled : (n : ℕ) (g : ℤ) → 0 < n → 0 < (scaled_ratio n g).num
positive_scaled n g h = rw num_scaled (omega (arith, lt_right (10 ^ up g) 0 n (ten_pos (up g)) h))

pub quotient_left : (q m n : ℕ) (d e g : ℤ) → 0 < n → (scaled_ratio q e).num * suc (over (scaled_ratio m d) (scaled_ratio n g)).less ≡ (q * n) * (10 ^ up e * 10 ^ up g * 10 ^ down d)
quotient_left q m n d e g hn = rw (den_over (scaled_ratio m d) (scaled_ratio n g) (positive_scaled n g hn), num_scaled q e, num_scaled n g, den_scaled m d) (omega arith)

pub quotient_right : (q m n k : ℕ) (d e g : ℤ) → d ≡ e +ℤ g +ℤ pos k → (over (scaled_ratio m d) (scaled_ratio n g)).num * suc (scaled_ratio q e).less ≡
    (m * 10 ^ k) * (10 ^ up e * 10 ^ up g * 10 ^ down d)
quotient_right q m n k d e g h =
    rw (num_over, num_scaled m d, den_scaled n g, den_scaled q e)
    (regroup m (10 ^ k) (10 ^ up e * 10 ^ up g * 10 ^ down d) (10 ^ up d) (10 ^ down g) (10 ^ down e) (pow_four k (up e) (up g) (down d) (up d) (down g) (down e) (quotient_balance d e g k h)))
  where
    regroup : (m t w a b c : ℕ) → t * w ≡ a * b * c → m * a * b * c ≡ (m * t) * w
    regroup m t w a b c h = let k : m * (t * w) ≡ m * (a * b * c) = ap (λ (t : ℕ). m * t) h in omega (arith, k)

pub quotient_at_most : (q m n k : ℕ) (d e g : ℤ) → 0 < n → d ≡ e +ℤ g +ℤ pos k → q * n ≤ m * 10 ^ k → AtMost (scaled_ratio q e) (over (scaled_ratio m d) (scaled_ratio n g))
quotient_at_most q m n k d e g hn h le = record { cross = rw (quotient_left q m n d e g hn, quotient_right q m n k d e g h) (mul-le-mul_right _ le) }

pub quotient_at_least : (q m n k : ℕ) (d e g : ℤ) → 0 < n → d ≡ e +ℤ g +ℤ pos k → m * 10 ^ k ≤ q * n → AtMost (over (scaled_ratio m d) (scaled_ratio n g)) (scaled_ratio q e)
quotient_at_least q m n k d e g hn h le = record { cross = rw (quotient_left q m n d e g hn, quotient_right q m n k d e g h) (mul-le-mul_right _ le) }

-- the whole part of a quotient
pub quotient_from : (q m n k : ℕ) (d e g : ℤ) → 0 < n → d ≡ e +ℤ g +ℤ pos k → q ≡ m * 10 ^ k / n → IsFrom q e (over (scaled_ratio m d) (scaled_ratio n g))
quotient_from q m n k d e g hn h hq = record {
  from = quotient_at_most q m n k d e g hn h (rw hq (div-mul-le_self (m * 10 ^ k) n));
  before = record {
    cross = rw (quotient_left (q + 1) m n d e g hn, quotient_right (q + 1) m n k d e g h)
        (lt_right _ (m * 10 ^ k) ((q + 1) * n) (tens (up e) (up g) (down d)) (rw hq (omega (arith, lt-mul-div-succ (m * 10 ^ k) hn))));
  };
}

pub quotient_up_to : (p m n k : ℕ) (d e g : ℤ) → 0 < n → 0 < m → d ≡ e +ℤ g +ℤ pos k → p ≡ (m * 10 ^ k - 1) / n → IsUpTo p e (over (scaled_ratio m d) (scaled_ratio n g))
quotient_up_to p m n k d e g hn hm h hp = record {
  after = record {
    cross = rw (quotient_left p m n d e g hn, quotient_right p m n k d e g h)
        (lt_right _ (p * n) (m * 10 ^ k) (tens (up e) (up g) (down d)) (rw hp (omega (arith, div-mul-le_self (m * 10 ^ k - 1) n, big))));
  };
  up_to = quotient_at_least (p + 1) m n k d e g hn h (rw hp (omega (arith, lt-mul-div-succ (m * 10 ^ k - 1) hn)));
}
  where
    big : 0 < m * 10 ^ k
    big = omega (arith, lt_right (10 ^ k) 0 m (ten_pos k) hm)

pub no_quotient : (m n k : ℕ) (d e g : ℤ) → 0 < n → m ≡ 0 → AtMost (over (scaled_ratio m d) (scaled_ratio n e)) (scaled_ratio k g)
no_quotient m n k d e g hn h = record { cross = rw (num_over, num_scaled m d, h) (omega arith) }

too_many : (m n a j : ℕ) → m < 10 ^ 18 → 10 ^ 17 ≤ n → m * 10 ^ a ≡ n * 10 ^ (a + suc j) → ⊥
too_many m n a j hm hn e = grind (arith, pow-add, pow-suc, mul-le-mul, ten_pos, mul-le-mul_right)

-- two decimals of 18 digits with one value have one exponent
same_exponent : (m n a b : ℕ) → 10 ^ 17 ≤ m → m < 10 ^ 18 → 10 ^ 17 ≤ n → n < 10 ^ 18 → m * 10 ^ a ≡ n * 10 ^ b → a ≡ b
same_exponent m n a b hm km hn kn e = elim (cases_lt a b) [
  | inl h ↦ absurd (let g : a + suc (b - suc a) ≡ b = omega arith in let P : ℕ → Type 0 = λ k. m * 10 ^ a ≡ n * 10 ^ k in too_many m n a (b - suc a) km hn (subst P (sym g) e))
  | inr h ↦ elim (cases_lt b a) [
    | inl h ↦ absurd (let g : b + suc (a - suc b) ≡ a = omega arith in let P : ℕ → Type 0 = λ k. n * 10 ^ b ≡ m * 10 ^ k in too_many n m b (a - suc b) kn hm (subst P (sym g) (sym e)))
    | inr h' ↦ omega arith
  ]
]

one_form : (r q : Sd) → (10 ^ 17 ≤ r.m) × (r.m < 10 ^ 18) → (10 ^ 17 ≤ q.m) × (q.m < 10 ^ 18) → r.m * 10 ^ (up r.e + down q.e) ≡ q.m * 10 ^ (up q.e + down r.e) → (r.m ≡ q.m) × (r.e ≡ q.e)
one_form r q hr hq e = grind (arith, same_exponent, eq_of_mul-eq-mul_right, ten_pos, up_down)

no_zero : (m n p q : ℕ) → 0 < m → 0 < p → n ≡ 0 → m * p ≡ n * q → ⊥
no_zero m n p q hm hp h e = let z : n * q ≡ 0 * q = ap (λ (t : ℕ). t * q) h in omega (arith, z, e, mul-le-mul hm hp)

-- Equal values have one form.
pub one_decimal : (r q : Sd) → IsSd r → IsSd q → Same (value r) (value q) → (r.m ≡ q.m) × (r.e ≡ q.e)
one_decimal r q (inl hr) (inl hq) h = one_form r q hr hq (rw (cross_of r.m q.m r.e q.e, cross_of q.m r.m q.e r.e) at h.cross)
one_decimal r q (inl hr) (inr hq) h = absurd (no_zero r.m q.m _ _ (omega (arith, hr.0)) (ten_pos (up r.e + down q.e)) hq.0 (rw (cross_of r.m q.m r.e q.e, cross_of q.m r.m q.e r.e) at h.cross))
one_decimal r q (inr hr) (inl hq) h = absurd (no_zero q.m r.m _ _ (omega (arith, hq.0)) (ten_pos (up q.e + down r.e)) hr.0 (sym (rw (cross_of r.m q.m r.e q.e, cross_of q.m r.m q.e r.e) at h.cross)))
one_decimal r q (inr hr) (inr hq) h = (hr.0 ∙ sym hq.0, hr.1 ∙ sym hq.1)
