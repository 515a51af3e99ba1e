use Rattle.scaled_decimal.proofs.Common.{◌≡◌, ℕ, ◌+◌, ◌*◌, ◌/◌, ◌≤◌, ◌<◌, ◌^◌, inl, inr, arith, ℤ, pos, ◌+ℤ◌, lt-mul-div-succ, div-mul-le_self, le-div_iff_mul-le, div-lt_iff_lt-mul, Ratio, AtMost}
use Rattle.scaled_decimal.proofs.Common.{Below, Same, scaled_ratio, up, down, AtMost-trans, Below-AtMost, AtMost-Below, Same-AtMost, Same-back, Same-trans, ten_pos, cross_of, scaled_shift}
use Rattle.scaled_decimal.proofs.Common.{scaled-AtMost, num_scaled, Sd, IsSd, value, IsDown, IsUp, IsFrom, IsUpTo, ◌-◌, refl, ◌∙◌, add-one, ints, lt_of_mul-lt-mul_right, div-div-eq-div-mul, pow-suc}
use Rattle.scaled_decimal.proofs.Common.{div_below, le-div}
use Rattle.scaled_decimal.proofs.Between.{none_above, none_below, power_pos}

-- zero is at most everything
pub zero-AtMost : (x : Sd) (f : Ratio) → x.m ≡ 0 → AtMost (value x) f
zero-AtMost x f h = record { cross = rw (num_scaled, h) (omega arith) }

decimals : (m n : ℕ) (d e : ℤ) → m * 10 ^ (up d + down e) ≤ n * 10 ^ (up e + down d) → AtMost (scaled_ratio m d) (scaled_ratio n e)
decimals m n d e h = record { cross = rw (cross_of m n d e, cross_of n m e d) h }

pub below_decimals : (m n : ℕ) (d e : ℤ) → Below (scaled_ratio m d) (scaled_ratio n e) → m * 10 ^ (up d + down e) < n * 10 ^ (up e + down d)
below_decimals m n d e h = rw (cross_of m n d e, cross_of n m e d) at h.cross

-- a decimal of 18 digits with f from it to just below the next one
pub nearest_down : (r : Sd) (f : Ratio) → 10 ^ 17 ≤ r.m → r.m < 10 ^ 18 → IsFrom r.m r.e f → IsDown r f
nearest_down r f least most h = record {
  decimal = inl (least, most);
  at_most = h.from;
  greatest = λ x dx le. greatest x dx le;
}
  where
    greatest : (x : Sd) → IsSd x → AtMost (value x) f → AtMost (value x) (value r)
    greatest x (inl dx) le = decimals x.m r.m x.e r.e (none_above x.m r.m (up x.e + down r.e) (up r.e + down x.e) dx.1 least (below_decimals x.m (r.m + 1) x.e r.e (AtMost-Below le h.before)))
    greatest x (inr dx) le = zero-AtMost x (value r) dx.0

-- the same, where f is given by a longer number q
pub cut_down : (r : Sd) (q j : ℕ) (e : ℤ) → 10 ^ 17 ≤ r.m → r.m < 10 ^ 18 → r.e ≡ e +ℤ pos j → r.m * 10 ^ j ≤ q → q + 1 ≤ (r.m + 1) * 10 ^ j → (f : Ratio) → IsFrom q e f → IsDown r f
cut_down r q j e least most he from before f h = nearest_down r f least most (rw he (record {
  from = AtMost-trans (Same-back (scaled_shift r.m j e)) (AtMost-trans (scaled-AtMost (r.m * 10 ^ j) q e from) h.from);
  before = Below-AtMost h.before (AtMost-trans (scaled-AtMost (q + 1) ((r.m + 1) * 10 ^ j) e before) (Same-AtMost (scaled_shift (r.m + 1) j e)));
}))

-- f lies above p and not above p + 1; r is m units, the least that reach past p
pub cut_up : (r : Sd) (p m j : ℕ) (e : ℤ) → IsSd r → Same (scaled_ratio (m * 10 ^ j) e) (value r) → 10 ^ 17 ≤ p → 10 ^ 17 * 10 ^ j ≤ p + 1 →
    p + 1 ≤ m * 10 ^ j → ((y : ℕ) → p < y * 10 ^ j → m ≤ y) → (f : Ratio) → IsUpTo p e f → IsUp r f
cut_up r p m j e dr same hp hj reach least f h = record {
  decimal = dr;
  at_least = AtMost-trans h.up_to (AtMost-trans (scaled-AtMost (p + 1) (m * 10 ^ j) e reach) (Same-AtMost same));
  least = λ x dx le. at_x x dx (below_decimals p x.m e x.e (Below-AtMost h.after le));
}
  where
    at_x : (x : Sd) → IsSd x → p * 10 ^ (up e + down x.e) < x.m * 10 ^ (up x.e + down e) → AtMost (value r) (value x)
    at_x x (inl dx) lt = AtMost-trans (Same-back same) (decimals (m * 10 ^ j) x.m e x.e (none_below x.m p m j (up x.e + down e) (up e + down x.e) dx.1 hp hj least lt))
    at_x x (inr dx) lt = absurd (omega (arith, rw dx.0 at lt))

-- the same for the quotient of q by the power of ten
pub cut_down_by : (r : Sd) (q u j : ℕ) (e : ℤ) → u ≡ 10 ^ j → 10 ^ 17 * u ≤ q → q < 10 ^ 18 * u → r.m ≡ q / u → r.e ≡ e +ℤ pos j → (f : Ratio) → IsFrom q e f → IsDown r f
cut_down_by r q u j e hu least most hm he = cut_down r q j e
    (omega (arith, lt-mul-div-succ q positive, div-mul-le_self q u, lt_front))
    (omega (arith, most_front)) he
    (rw (hm, ← hu) (div-mul-le_self q u))
    (rw (hm, ← hu) (omega (arith, lt-mul-div-succ q positive)))
  where
    positive : 0 < u
    positive = omega (arith, hu, ten_pos j)

    front : (k : ℕ) → 10 ^ 17 * u ≤ q → 10 ^ 17 ≤ q / u
    front k h = (le-div_iff_mul-le positive).1 h

    lt_front : 10 ^ 17 ≤ r.m
    lt_front = rw hm (front 0 least)

    most_front : r.m < 10 ^ 18
    most_front = rw hm ((div-lt_iff_lt-mul positive).1 most)

-- the same for the quotient of p by the power of ten, and one more
pub cut_up_by : (r : Sd) (p u j : ℕ) (e : ℤ) → IsSd r → u ≡ 10 ^ j → 10 ^ 17 ≤ p → 10 ^ 17 * u ≤ p + 1 → Same (scaled_ratio ((p / u + 1) * 10 ^ j) e) (value r) → (f : Ratio) → IsUpTo p e f → IsUp r f
cut_up_by r p u j e dr hu hp least same = cut_up r p (p / u + 1) j e dr same hp (rw (← hu) least)
    (rw (← hu) (omega (arith, lt-mul-div-succ p positive)))
    (rw (← hu) (λ y h. let k : p / u < y = (div-lt_iff_lt-mul positive).1 h in omega arith))
  where
    positive : 0 < u
    positive = omega (arith, hu, ten_pos j)

-- 10 ^ 18 units are 10 ^ 17 of the next
pub carried : (m j : ℕ) (d e : ℤ) → m ≡ 10 ^ 18 → d ≡ e +ℤ pos j +ℤ pos 1 → Same (scaled_ratio (m * 10 ^ j) e) (scaled_ratio (10 ^ 17) d)
carried m j d e hm hd = rw (hd, hm) (Same-trans (scaled_shift (10 ^ 18) j e) (scaled_shift (10 ^ 17) 1 (e +ℤ pos j)))

pub carry_keeps_ratio : (m j : ℕ) (d e : ℤ) → d ≡ e +ℤ pos j → Same (scaled_ratio (m * 10 ^ j) e) (scaled_ratio m d)
carry_keeps_ratio m j d e hd = rw hd (scaled_shift m j e)

-- a decimal of the value itself
pub down_self : (r : Sd) (f : Ratio) → IsSd r → AtMost (value r) f → AtMost f (value r) → IsDown r f
down_self r f d p q = record { decimal = d; at_most = p; greatest = λ x _ le. AtMost-trans le q }

pub up_self : (r : Sd) (f : Ratio) → IsSd r → AtMost (value r) f → AtMost f (value r) → IsUp r f
up_self r f d p q = record { decimal = d; at_least = q; least = λ x _ le. AtMost-trans p le }

-- the same, with the exponent as the code has it
pub down_same : (r : Sd) (m : ℕ) (g e : ℤ) → g ≡ e → IsSd r → Same (value r) (scaled_ratio m g) → IsDown r (scaled_ratio m e)
down_same r m g e h d s = rw (← h) (down_self r (scaled_ratio m g) d (Same-AtMost s) (Same-back s))

pub up_same : (r : Sd) (m : ℕ) (g e : ℤ) → g ≡ e → IsSd r → Same (value r) (scaled_ratio m g) → IsUp r (scaled_ratio m e)
up_same r m g e h d s = rw (← h) (up_self r (scaled_ratio m g) d (Same-AtMost s) (Same-back s))

next_power : (u j : ℕ) → u ≡ 10 ^ j → u * 10 ≡ 10 ^ (j + 1)
next_power u j h = rw (add-one, pow-suc 10 j, h) refl

-- the front of q has 18 digits
pub down_at_18 : (r : Sd) (q u j : ℕ) (e : ℤ) → u ≡ 10 ^ j → 10 ^ 17 * u ≤ q → q / u < 10 ^ 18 → r.m ≡ q / u → r.e ≡ e +ℤ pos j → (f : Ratio) → IsFrom q e f → IsDown r f
down_at_18 r q u j e hu least few = cut_down_by r q u j e hu least ((div-lt_iff_lt-mul (power_pos u j hu)).0 few)

-- the front of q has 19 digits
pub down_at_19 : (r : Sd) (q u j : ℕ) (e : ℤ) → u ≡ 10 ^ j → 10 ^ 18 ≤ q / u → q < 10 ^ 19 * u → r.m ≡ q / u / 10 → r.e ≡ e +ℤ pos j +ℤ pos 1 → (f : Ratio) → IsFrom q e f → IsDown r f
down_at_19 r q u j e hu many most hm he =
    cut_down_by r q (u * 10) (j + 1) e (next_power u j hu)
    (omega (arith, (le-div_iff_mul-le (power_pos u j hu)).0 many))
    (omega (arith, most))
    (hm ∙ div-div-eq-div-mul q u 10)
    (omega (arith, ints))

-- the front of p and one more have 18 digits
pub up_at_18 : (r : Sd) (p u j : ℕ) (e : ℤ) → u ≡ 10 ^ j → 10 ^ 17 ≤ p → 10 ^ 17 * u ≤ p + 1 → p / u < 10 ^ 18 - 1 → r.m ≡ p / u + 1 → r.e ≡ e +ℤ pos j → (f : Ratio) → IsUpTo p e f → IsUp r f
up_at_18 r p u j e hu digits least few hm he =
    let positive : 0 < u = power_pos u j hu in
    let reach : 10 ^ 17 * u < (p / u + 2) * u = omega (arith, lt-mul-div-succ p positive) in
    let front : 10 ^ 17 < p / u + 2 = lt_of_mul-lt-mul_right u reach in
    let same : Same (scaled_ratio ((p / u + 1) * 10 ^ j) e) (scaled_ratio (p / u + 1) r.e) = carry_keeps_ratio (p / u + 1) j r.e e he in
    cut_up_by r p u j e (inl (omega arith, omega arith)) hu digits least (rw hm same)

-- the front of p is 18 nines
pub up_at_nines : (r : Sd) (p u j : ℕ) (e : ℤ) → u ≡ 10 ^ j → 10 ^ 17 ≤ p → 10 ^ 17 * u ≤ p + 1 → p / u ≡ 10 ^ 18 - 1 → r.m ≡ 10 ^ 17 → r.e ≡
    e +ℤ pos j +ℤ pos 1 → (f : Ratio) → IsUpTo p e f → IsUp r f
up_at_nines r p u j e hu digits least nines hm he =
    let same : Same (scaled_ratio ((p / u + 1) * 10 ^ j) e) (scaled_ratio (10 ^ 17) r.e) = carried (p / u + 1) j r.e e (omega arith) he in
    cut_up_by r p u j e (inl (omega arith, omega arith)) hu digits least (rw hm same)

-- the front of p has 19 digits
pub up_at_19 : (r : Sd) (p u j : ℕ) (e : ℤ) → u ≡ 10 ^ j → 10 ^ 17 ≤ p → 10 ^ 18 ≤ p / u → p < (10 ^ 18 - 1) * 10 * u → r.m ≡ p / u / 10 + 1 → r.e ≡
    e +ℤ pos j +ℤ pos 1 → (f : Ratio) → IsUpTo p e f → IsUp r f
up_at_19 r p u j e hu digits many most hm he =
    let least : 10 ^ 18 * u ≤ p = (le-div_iff_mul-le (power_pos u j hu)).0 many in
    let front : p / (u * 10) < 10 ^ 18 - 1 = div_below p (u * 10) (10 ^ 18 - 1) (omega (arith, power_pos u j hu)) (omega (arith, most)) in
    let quotient : p / u / 10 ≡ p / (u * 10) = div-div-eq-div-mul p u 10 in
    let whole : 10 ^ 17 ≤ p / (u * 10) = le-div (10 ^ 17) p (u * 10) (omega (arith, power_pos u j hu)) (omega (arith, least)) in
    let exponent : r.e ≡ e +ℤ pos (j + 1) = omega (arith, ints) in
    let same : Same (scaled_ratio ((p / (u * 10) + 1) * 10 ^ (j + 1)) e) (scaled_ratio (p / (u * 10) + 1) r.e) = carry_keeps_ratio (p / (u * 10) + 1) (j + 1) r.e e exponent in
    let m : r.m ≡ p / (u * 10) + 1 = omega arith in
    cut_up_by r p (u * 10) (j + 1) e (inl (omega arith, omega arith)) (next_power u j hu) digits (omega (arith, least)) (rw m same)
