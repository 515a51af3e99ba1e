use Rattle.decimal_input.proofs.Common.{◌≡◌, ℕ, suc, ◌+◌, ◌*◌, arith, refl, sym, ap, ◌∙◌, Bool, true, false, ℤ, pos, neg_ℤ, ◌*ℤ◌, ◌+ℤ◌, Result, Ok, Err, IfOk, List, length, inl, inr, ◌^◌, subst, ints}
use Rattle.decimal_input.proofs.Common.{by_lt_z, cases_lt, Dec, NumFault, Fraction, scaled_ratio, with_sign, decimal, number, Spelling, Spells, IsCanonical, Names, differ, Ratio, Same}
use Rattle.std.proofs.Math.IntN.{*ℤ_comm}
use Rattle.decimal_input.specs.Fractions.{times as times_signed, Same as SameSigned}
use Rattle.decimal_input.proofs.{Orders.num_times, Orders.den_times, Powers.scaled_times, Powers.scaled_shift, FloorLaws.neg_times, FloorLaws.Same-trans, FloorLaws.Same-sym, SignedFloors.sign_times}
use Rattle.decimal_input.proofs.{WholeUnits.num_nothing}

-- equal magnitudes with one sign
pub same_signed : (neg : Bool) (f g : Ratio) → Same f g → SameSigned (record { num = with_sign neg f.num; less = f.less }) (record { num = with_sign neg g.num; less = g.less })
same_signed neg f g h = record { same = sign_times neg f.num (suc g.less) ∙ ap (with_sign neg) h.cross ∙ sym (sign_times neg g.num (suc f.less)) }

-- zeros behind the digits are a power of ten
pub trimmed_value : (neg : Bool) (c d z : ℕ) (e : ℤ) → c ≡ d * 10 ^ z → SameSigned (decimal neg d (e +ℤ pos z)) (decimal neg c e)
trimmed_value neg c d z e h = rw h (Same-sym (same_signed neg (scaled_ratio (d * 10 ^ z) e) (scaled_ratio d (e +ℤ pos z)) (scaled_shift d z e)))

zeros : (neg : Bool) (m n x y : ℕ) → m ≡ 0 → n ≡ 0 → with_sign false m *ℤ pos y ≡ with_sign neg n *ℤ pos x
zeros true m n x y p q = rw (p, q) (omega (arith, ints))
zeros false m n x y p q = rw (p, q) (omega (arith, ints))

-- zero is zero whatever its sign and exponent
pub zero_value : (neg : Bool) (c : ℕ) (e : ℤ) → c ≡ 0 → SameSigned (decimal false 0 (pos 0)) (decimal neg c e)
zero_value neg c e h = record { same = zeros neg _ _ _ _ (num_nothing 0 (pos 0) refl) (num_nothing c e h) }

pub if_ok : (r q : Result Dec NumFault) (P : Dec → Type 0) → r ≡ q → IfOk q P → IfOk r P
if_ok r q P e h = subst (λ (x : Result Dec NumFault). IfOk x P) (sym e) h

-- The canonical form has the value of the number.
pub canonical_value : (neg : Bool) (c : ℕ) (e : ℤ) (r : Result Dec NumFault) → IsCanonical neg c e r → IfOk r (λ d. SameSigned (number d) (decimal neg c e))
canonical_value neg c e r (inl (z, h)) = if_ok r _ (λ d. SameSigned (number d) (decimal neg c e)) h (zero_value neg c e z)
canonical_value neg c e r (inr (d, z, t, tests)) = elim (cases_lt d (10 ^ 18)) [
  | inl few ↦ by_lt_z (e +ℤ pos z) (neg_ℤ (pos 40))
      (λ low. if_ok r _ Q (tests.low few low) _)
      (λ above. by_lt_z (pos 40) (e +ℤ pos z)
      (λ high. if_ok r _ Q (tests.high few high) _)
      (λ below. if_ok r _ Q (tests.good few above below) (trimmed_value neg c d z e t.whole)))
  | inr many ↦ if_ok r _ Q (tests.many many) _
]
  where
    Q : Dec → Type 0
    Q x = SameSigned (number x) (decimal neg c e)

pos_times : (m n : ℕ) → pos m *ℤ pos n ≡ pos (m * n)
pos_times m n = omega (arith, ints)

sign_product : (x y : Bool) (m n : ℕ) → with_sign x m *ℤ with_sign y n ≡ with_sign (differ x y) (m * n)
sign_product true true m n = grind (arith, neg_times, pos_times)
sign_product true false m n = neg_times (pos m) (pos n) ∙ ap neg_ℤ (pos_times m n)
sign_product false true m n = *ℤ_comm (pos m) (neg_ℤ (pos n)) ∙ neg_times (pos n) (pos m) ∙ ap neg_ℤ (*ℤ_comm (pos n) (pos m) ∙ pos_times m n)
sign_product false false m n = pos_times m n

-- The value of the product's digits and exponent is the product of the values.
pub product_value : (a b : Dec) → SameSigned (decimal (differ a.neg b.neg) (a.digits * b.digits) (a.exp +ℤ b.exp)) (times_signed (number a) (number b))
product_value a b =
    let f = scaled_ratio a.digits a.exp in
    let g = scaled_ratio b.digits b.exp in
    let h = scaled_ratio (a.digits * b.digits) (a.exp +ℤ b.exp) in
    let cross = (scaled_times a.digits b.digits a.exp b.exp).cross in
    let whole : f.num * g.num * suc h.less ≡ h.num * (suc f.less * suc g.less) = rw (num_times f g, den_times f g) at cross in
    record {
      same =
          sign_times (differ a.neg b.neg) h.num (suc (f.less * g.less + f.less + g.less))
          ∙ ap (with_sign (differ a.neg b.neg)) (regroup (f.num * g.num) h.num f.less g.less h.less whole)
          ∙ sym (sign_times (differ a.neg b.neg) (f.num * g.num) (suc h.less))
          ∙ ap (λ (z : ℤ). z *ℤ pos (suc h.less)) (sym (sign_product a.neg b.neg f.num g.num));
    }
  where
    regroup : (m n x y z : ℕ) → m * suc z ≡ n * (suc x * suc y) → n * suc (x * y + x + y) ≡ m * suc z
    regroup m n x y z e = omega (arith, e)

if_ok_also : (r : Result Dec NumFault) (f g : Fraction) → SameSigned f g → IfOk r (λ d. SameSigned (number d) f) → IfOk r (λ d. SameSigned (number d) g)
if_ok_also (Ok d) f g e h = Same-trans h e
if_ok_also (Err x) f g e h = _

-- The canonical form of a product has the product's value.
pub product_is : (a b : Dec) (r : Result Dec NumFault) → IsCanonical (differ a.neg b.neg) (a.digits * b.digits) (a.exp +ℤ b.exp) r →
    IfOk r (λ d. SameSigned (number d) (times_signed (number a) (number b)))
product_is a b r h = if_ok_also r _ _ (product_value a b) (canonical_value _ _ _ r h)

-- What a word names has the value that the word spells.
pub named_value : (w : List ℕ) (r : Result Dec NumFault) → Names w r → (n : Spelling) → Spells w n → IfOk r (λ d. SameSigned (number d) (decimal n.neg n.coefficient n.exp))
named_value w r h n s = elim (cases_lt 64 (length w)) [
  | inl long ↦ if_ok r _ (λ d. SameSigned (number d) (decimal n.neg n.coefficient n.exp)) (h.long long) _
  | inr short ↦ canonical_value _ _ _ r (h.number short n s)
]
