-- Ratios of which one is at most a / b times the other.
use Rattle.gentle_histories.proofs.Common.{◌≡◌, ℕ, suc, ◌+◌, ◌*◌, ◌<◌, ◌≤◌, inl, inr, ap, arith, mul-le-mul_left, cases_lt, IsShare, Ratio, over, den, IsValue, own_value, value_over, value_plus}
use Rattle.gentle_histories.proofs.Common.{value_times}
use Rattle.decimal_input.specs.Ratios.{plus, times}

-- r is at most a / b times s
pub record Grows (a b : ℕ) (r s : Ratio) : Type 0 where
  pub cross : r.num * den s * b ≤ a * (s.num * den r)

-- and s is at most a / b times r
pub record AreAlike (a b : ℕ) (r s : Ratio) : Type 0 where
  pub there : Grows a b r s
  pub back : Grows a b s r

pub cancel_le : (k x y : ℕ) → 0 < k → k * x ≤ k * y → x ≤ y
cancel_le k x y some le = elim (cases_lt y x) [
  | inl less ↦ absurd (omega (arith, some, le, mul-le-mul_left k (let e : suc y ≤ x = omega (arith, less) in e)))
  | inr back ↦ omega (arith, back)
]

pub grows_shares : (a b M S T : ℕ) (r s : Ratio) → 0 < M → IsShare M r S → IsShare M s T → S * b ≤ a * T → Grows a b r s
grows_shares a b M S T r s some p q le = record { cross = cancel_le M _ _ some (crossed M r.num (den r) s.num (den s) S T p.is q.is le) }
  where
    crossed : (M rn rd sn sd S T : ℕ) → rn * M ≡ S * rd → sn * M ≡ T * sd → S * b ≤ a * T → M * (rn * sd * b) ≤ M * (a * (sn * rd))
    crossed M rn rd sn sd S T e f le = omega (arith, ap (λ (z : ℕ). z * (sd * b)) e, ap (λ (z : ℕ). z * (a * rd)) f, mul-le-mul_left (rd * sd) le)

module _ (a b : ℕ) where
  grows_by : {r s : Ratio} {n x k y : ℕ} → IsValue r n x → IsValue s k y → n * y * b ≤ a * (k * x) → Grows a b r s
  grows_by p q le = record { cross = rw (p.num, q.bottom, q.num, p.bottom) le }

  grows_plus : (r s r' s' : Ratio) → Grows a b r s → Grows a b r' s' → Grows a b (plus r r') (plus s s')
  grows_plus r s r' s' p q = grows_by (value_plus (own_value r) (own_value r')) (value_plus (own_value s) (own_value s'))
      (sum r.num (den r) s.num (den s) r'.num (den r') s'.num (den s') p.cross q.cross)
    where
      sum : (rn rd sn sd rn' rd' sn' sd' : ℕ) → rn * sd * b ≤ a * (sn * rd) → rn' * sd' * b ≤ a * (sn' * rd') →
          (rn * rd' + rn' * rd) * (sd * sd') * b ≤ a * ((sn * sd' + sn' * sd) * (rd * rd'))
      sum rn rd sn sd rn' rd' sn' sd' p q = omega (arith, mul-le-mul_left (rd' * sd') p, mul-le-mul_left (rd * sd) q)

  grows_times : (t r s : Ratio) → Grows a b r s → Grows a b (times t r) (times t s)
  grows_times t r s p = grows_by (value_times (own_value t) (own_value r)) (value_times (own_value t) (own_value s)) (product t.num (den t) r.num (den r) s.num (den s) p.cross)
    where
      product : (tn td rn rd sn sd : ℕ) → rn * sd * b ≤ a * (sn * rd) → tn * rn * (td * sd) * b ≤ a * (tn * sn * (td * rd))
      product tn td rn rd sn sd p = omega (arith, mul-le-mul_left (tn * td) p)

  grows_over : (t r s : Ratio) → 0 < r.num → 0 < s.num → Grows a b s r → Grows a b (over t r) (over t s)
  grows_over t r s some more p = grows_by (value_over some (own_value t) (own_value r)) (value_over more (own_value t) (own_value s))
      (quotient t.num (den t) r.num (den r) s.num (den s) p.cross)
    where
      quotient : (tn td rn rd sn sd : ℕ) → sn * rd * b ≤ a * (rn * sd) → tn * rd * (td * sn) * b ≤ a * (tn * sd * (td * rn))
      quotient tn td rn rd sn sd p = omega (arith, mul-le-mul_left (tn * td) p)

  grows_under : (t r s : Ratio) → 0 < t.num → Grows a b r s → Grows a b (over r t) (over s t)
  grows_under t r s some p = grows_by (value_over some (own_value r) (own_value t)) (value_over some (own_value s) (own_value t))
      (quotient t.num (den t) r.num (den r) s.num (den s) p.cross)
    where
      quotient : (tn td rn rd sn sd : ℕ) → rn * sd * b ≤ a * (sn * rd) → rn * td * (sd * tn) * b ≤ a * (sn * td * (rd * tn))
      quotient tn td rn rd sn sd p = omega (arith, mul-le-mul_left (tn * td) p)

  pub alike_itself : (r : Ratio) → b ≤ a → AreAlike a b r r
  alike_itself r le = let own : Grows a b r r = record { cross = omega (arith, mul-le-mul_left (r.num * den r) le) } in record { there = own; back = own }

  pub alike_plus : (r s r' s' : Ratio) → AreAlike a b r s → AreAlike a b r' s' → AreAlike a b (plus r r') (plus s s')
  alike_plus r s r' s' p q = record { there = grows_plus r s r' s' p.there q.there; back = grows_plus s r s' r' p.back q.back }

  pub alike_times : (t r s : Ratio) → AreAlike a b r s → AreAlike a b (times t r) (times t s)
  alike_times t r s p = record { there = grows_times t r s p.there; back = grows_times t s r p.back }

  pub alike_over : (t r s : Ratio) → 0 < r.num → 0 < s.num → AreAlike a b r s → AreAlike a b (over t r) (over t s)
  alike_over t r s some more p = record { there = grows_over t r s some more p.back; back = grows_over t s r more some p.there }

  pub alike_under : (t r s : Ratio) → 0 < t.num → AreAlike a b r s → AreAlike a b (over r t) (over s t)
  alike_under t r s some p = record { there = grows_under t r s some p.there; back = grows_under t s r some p.back }
