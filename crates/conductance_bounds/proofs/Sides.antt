-- The two bounds of a formula lie on their sides of its value, and the bounds of positive factors are positive.
use Rattle.conductance_bounds.proofs.Common.{ℕ, zero, suc, ◌<◌, arith, mul-pos, Ratio, AtMost, AtMost-trans, plus-AtMost, times-AtMost, over-AtMost, plus-positive, times-positive, over-positive}
use Rattle.conductance_bounds.proofs.Common.{num_scaled, ten_pos, up, Dec, size, Sd, value, IsPositive, one, Term, exact, bound, Holds, IsBetween, Number, Within, Sum, Product, Quotient, Side, Lower}
use Rattle.conductance_bounds.proofs.Common.{Upper, rounded_decimal, ratio, sum_term, power_term, is_rounded, rounded_positive}

pub positive_value : (x : Sd) → 0 < x.m → 0 < (value x).num
positive_value x h = rw num_scaled (mul-pos h (ten_pos (up x.e)))

pub more_positive : (f g : Ratio) → AtMost f g → 0 < f.num → 0 < g.num
more_positive f g le some = grind (arith, zero, mul-pos)

-- r is on its side of f
abbrev pub IsOn : Side → Sd → Ratio → Type 0
IsOn Lower r f = AtMost (value r) f
IsOn Upper r f = AtMost f (value r)

low : (f g : Ratio) → AtMost f g → AtMost (value (rounded_decimal Lower f)) g
low f g le = AtMost-trans (is_rounded Lower f).at_most le

high : (f g : Ratio) → AtMost g f → AtMost g (value (rounded_decimal Upper f))
high f g le = AtMost-trans le (is_rounded Upper f).at_least

-- Each bound of a formula is on its side of the value.
pub bound_on : (t : Term) → Holds t → (side : Side) → IsOn side (bound t side) (exact t)
unfolding bound
bound_on (Number f) h Lower = (is_rounded Lower f).at_most
bound_on (Number f) h Upper = (is_rounded Upper f).at_least
bound_on (Within lo hi f) h Lower = h.lower
bound_on (Within lo hi f) h Upper = h.upper
bound_on (Sum t u) h Lower = low _ _ (plus-AtMost (bound_on t h.0 Lower) (bound_on u h.1 Lower))
bound_on (Sum t u) h Upper = high _ _ (plus-AtMost (bound_on t h.0 Upper) (bound_on u h.1 Upper))
bound_on (Product t u) h Lower = low _ _ (times-AtMost (bound_on t h.0 Lower) (bound_on u h.1 Lower))
bound_on (Product t u) h Upper = high _ _ (times-AtMost (bound_on t h.0 Upper) (bound_on u h.1 Upper))
bound_on (Quotient t u) h Lower =
    let least = bound_on u h.1 Lower in
    let most = bound_on u h.1 Upper in
    let some = more_positive _ _ least (positive_value (bound u Lower) h.2) in
    low _ _ (over-AtMost (more_positive _ _ most some) some (bound_on t h.0 Lower) most)
bound_on (Quotient t u) h Upper =
    let least = bound_on u h.1 Lower in
    let below = positive_value (bound u Lower) h.2 in
    high _ _ (over-AtMost (more_positive _ _ least below) below (bound_on t h.0 Upper) least)

-- a formula that holds, with a lower bound above 0
pub record IsFactor (t : Term) : Type 0 where
  pub holds : Holds t
  pub some : 0 < (bound t Lower).m

pub exact_positive : {t : Term} → IsFactor t → 0 < (exact t).num
exact_positive {t} a = more_positive (value (bound t Lower)) (exact t) (bound_on t a.holds Lower) (positive_value (bound t Lower) a.some)

pub number_is_factor : (f : Ratio) → 0 < f.num → IsFactor (Number f)
unfolding bound
number_is_factor f some = record { holds = tt; some = rounded_positive f some }

pub size_positive : (d : Dec) → IsPositive d → 0 < (size d).num
size_positive d h = rw num_scaled (mul-pos h.positive (ten_pos (up d.exp)))

pub input_is_factor : (d : Dec) → IsPositive d → IsFactor (Number (size d))
input_is_factor d h = number_is_factor (size d) (size_positive d h)

pub number_one : IsFactor (Number one)
unfolding ratio
number_one = number_is_factor one (omega arith)

pub within_is_factor : (lo hi : Sd) (f : Ratio) → 0 < lo.m → IsBetween lo hi f → IsFactor (Within lo hi f)
unfolding bound
within_is_factor lo hi f some between = record { holds = between; some = some }

pub sum_is_factor : {t u : Term} → IsFactor t → IsFactor u → IsFactor (Sum t u)
unfolding bound
sum_is_factor {t} {u} a b = record { holds = (a.holds, b.holds); some = rounded_positive _ (plus-positive _ (value (bound u Lower)) (positive_value (bound t Lower) a.some)) }

pub product_is_factor : {t u : Term} → IsFactor t → IsFactor u → IsFactor (Product t u)
unfolding bound
product_is_factor {t} {u} a b = record { holds = (a.holds, b.holds); some = rounded_positive _ (times-positive _ _ (positive_value (bound t Lower) a.some) (positive_value (bound u Lower) b.some)) }

pub quotient_is_factor : {t u : Term} → IsFactor t → IsFactor u → IsFactor (Quotient t u)
unfolding bound
quotient_is_factor {t} {u} a b = record { holds = (a.holds, b.holds, b.some); some = rounded_positive _ (over-positive _ (value (bound u Upper)) (positive_value (bound t Lower) a.some)) }

-- the sums and the powers of growing time steps
pub sum_factor : (t : Ratio) → 0 < t.num → (n : ℕ) → IsFactor (sum_term t n)
unfolding sum_term
sum_factor t h zero = number_one
sum_factor t h (suc n) = sum_is_factor (product_is_factor (sum_factor t h n) (number_is_factor t h)) number_one

pub power_factor : (t : Ratio) → 0 < t.num → (n : ℕ) → IsFactor (power_term t n)
unfolding power_term
power_factor t h zero = number_one
power_factor t h (suc n) = product_is_factor (power_factor t h n) (number_is_factor t h)
