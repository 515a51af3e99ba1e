use Rattle.decimal_input.proofs.Common.{◌≡◌, ℕ, suc, ◌+◌, ◌-◌, ◌*◌, ◌%◌, ◌≤◌, ◌<◌, ◌^◌, inl, inr, arith, refl, sym, ap, subst, ◌∙◌, Bool, List, length, ℤ, pos, ◌+ℤ◌, Option, Some, None, Result, ◌⊎◌}
use Rattle.decimal_input.proofs.Common.{true, false, by_lt_z, ints, pow-add, cases_lt, mul-le-mul, pow-suc, Dec, NumFault, IsTrimmed, Spelling, Spells, spelling_of, IsTested, IsCanonical, Names, up}
use Rattle.decimal_input.proofs.Common.{down, with_sign, number, IsDec, eq_of_mul-eq-mul_right}
use Rattle.decimal_input.proofs.{Powers.ten_pos, Powers.cross_of, Powers.up_down, Spelled.reads_spelt, Spelled.spells_read, SignedFloors.sign_times}
use Rattle.decimal_input.specs.Fractions.{Same as SameSigned}

-- a last digit above 0 leaves no room for a further zero
ends_once : (d e z j : ℕ) → 0 < d % 10 → d * 10 ^ z ≡ e * 10 ^ (z + suc j) → ⊥
ends_once d e z j last h =
    let split : 10 ^ (z + suc j) ≡ 10 ^ z * (10 ^ j * 10) = rw (pow-add 10 z (suc j), pow-suc 10 j) refl in
    let k : e * 10 ^ (z + suc j) ≡ e * (10 ^ z * (10 ^ j * 10)) = ap (λ (t : ℕ). e * t) split in
    let same : d ≡ (e * 10 ^ j) * 10 = eq_of_mul-eq-mul_right (10 ^ z) (ten_pos z) d ((e * 10 ^ j) * 10) (omega (arith, h, k)) in
    omega (arith, last, same)

-- Digits without a trailing zero, and the zeros behind them, are fixed by the number.
pub trimmed_one : (c d e z y : ℕ) → IsTrimmed c d z → IsTrimmed c e y → (d ≡ e) × (z ≡ y)
trimmed_one c d e z y s t =
    let powers : z ≡ y = one_power z y s.last t.last (sym s.whole ∙ t.whole) in
    let P : ℕ → Type 0 = λ k. d * 10 ^ k ≡ e * 10 ^ y in
    (eq_of_mul-eq-mul_right (10 ^ y) (ten_pos y) d e (subst P powers (sym s.whole ∙ t.whole)), powers)
  where
    one_power : (z y : ℕ) → 0 < d % 10 → 0 < e % 10 → d * 10 ^ z ≡ e * 10 ^ y → z ≡ y
    one_power z y ld le h = elim (cases_lt z y) [
      | inl lt ↦ absurd (let g : z + suc (y - suc z) ≡ y = omega arith in let P : ℕ → Type 0 = λ k. d * 10 ^ z ≡ e * 10 ^ k in ends_once d e z (y - suc z) ld (subst P (sym g) h))
      | inr ge ↦ elim (cases_lt y z) [
        | inl lt ↦ absurd (let g : y + suc (z - suc y) ≡ z = omega arith in let P : ℕ → Type 0 = λ k. e * 10 ^ y ≡ d * 10 ^ k in ends_once e d y (z - suc y) le (subst P (sym g) (sym h)))
        | inr ge' ↦ omega arith
      ]
    ]

tested_one : (neg : Bool) (d : ℕ) (e : ℤ) (r q : Result Dec NumFault) → IsTested neg d e r → IsTested neg d e q → r ≡ q
tested_one neg d e r q s t = grind (arith, cases_lt, by_lt_z)

not_zero : (c d z : ℕ) → c ≡ 0 → IsTrimmed c d z → ⊥
not_zero c d z h t = let p : 1 ≤ d = omega (arith, t.last) in omega (arith, sym t.whole ∙ h, mul-le-mul p (ten_pos z))

-- A number has one canonical form, or one refusal.
pub canonical_one : (neg : Bool) (c : ℕ) (e : ℤ) (r q : Result Dec NumFault) → IsCanonical neg c e r → IsCanonical neg c e q → r ≡ q
canonical_one neg c e r q (inl s) (inl t) = s.1 ∙ sym t.1
canonical_one neg c e r q (inl s) (inr (d, z, t, _)) = absurd (not_zero c d z s.0 t)
canonical_one neg c e r q (inr (d, z, s, _)) (inl t) = absurd (not_zero c d z t.0 s)
canonical_one neg c e r q (inr (d, z, s, a)) (inr (f, y, t, b)) =
    let one = trimmed_one c d f z y s t in
    let P : ℕ → Type 0 = λ x. IsTested neg x (e +ℤ pos y) r in
    let Q : ℕ → Type 0 = λ k. IsTested neg d (e +ℤ pos k) r in
    tested_one neg f (e +ℤ pos y) r q (subst P one.0 (subst Q one.1 a)) b

-- A word names one thing.
pub names_one : (w : List ℕ) (r q : Result Dec NumFault) → Names w r → Names w q → r ≡ q
names_one w r q a b = elim (cases_lt 64 (length w)) [
  | inl long ↦ a.long long ∙ sym (b.long long)
  | inr short ↦ by (spelling_of w) refl short
]
  where
    none_is_some : (n : Spelling) → spelling_of w ≡ None → spelling_of w ≡ Some n → ⊥
    none_is_some n e f = let k : None ≡ Some n = sym e ∙ f in cc

    by : (X : Option Spelling) → spelling_of w ≡ X → length w ≤ 64 → r ≡ q
    by None e short =
        let none : (n : Spelling) → Spells w n → ⊥ = λ n s. none_is_some n e (reads_spelt w n s) in
        a.no_number none ∙ sym (b.no_number none)
    by (Some n) e short =
        let s = spells_read w n e in
        canonical_one n.neg n.coefficient n.exp r q (a.number short n s) (b.number short n s)

dec_same : (a b : Dec) → a.neg ≡ b.neg → a.digits ≡ b.digits → a.exp ≡ b.exp → a ≡ b
dec_same a b p q r = grind (arith)

signs_same : (x y : Bool) (m n : ℕ) → 0 < m → 0 < n → with_sign x m ≡ with_sign y n → (x ≡ y) × (m ≡ n)
signs_same true true m n p q e = (refl, omega (arith, ints))
signs_same true false m n p q e = absurd (omega (arith, ints))
signs_same false true m n p q e = absurd (omega (arith, ints))
signs_same false false m n p q e = (refl, omega (arith, ints))

crossed : (a b : Dec) → SameSigned (number a) (number b) → with_sign a.neg (a.digits * 10 ^ (up a.exp + down b.exp)) ≡ with_sign b.neg (b.digits * 10 ^ (up b.exp + down a.exp))
crossed a b h = grind (arith, cross_of, sign_times)

positive : (m k : ℕ) → 0 < m → 0 < m * 10 ^ k
positive m k h = omega (arith, mul-le-mul h (ten_pos k))

no_value : (x y : Bool) (m n : ℕ) → m ≡ 0 → 0 < n → with_sign x m ≡ with_sign y n → ⊥
no_value true true m n p q e = omega (arith, ints)
no_value true false m n p q e = omega (arith, ints)
no_value false true m n p q e = omega (arith, ints)
no_value false false m n p q e = omega (arith, ints)

zero_times : (m k : ℕ) → m ≡ 0 → m * 10 ^ k ≡ 0
zero_times m k h = rw h (omega arith)

-- Numbers in canonical form with one value are one.
pub one_number : (a b : Dec) → IsDec a → IsDec b → SameSigned (number a) (number b) → a ≡ b
one_number a b p q h = by p.form q.form
  where
    by : ((a.digits ≡ 0) × (a.neg ≡ false) × (a.exp ≡ pos 0)) ⊎ ((0 < a.digits) × (0 < a.digits % 10)) → ((b.digits ≡ 0) × (b.neg ≡ false) × (b.exp ≡ pos 0)) ⊎
        ((0 < b.digits) × (0 < b.digits % 10)) → a ≡ b
    by (inl (d, n, e)) (inl (f, m, g)) = dec_same a b (n ∙ sym m) (d ∙ sym f) (e ∙ sym g)
    by (inl (d, _, _)) (inr (f, _)) = absurd (no_value a.neg b.neg _ _ (zero_times a.digits (up a.exp + down b.exp) d) (positive b.digits (up b.exp + down a.exp) f) (crossed a b h))
    by (inr (d, _)) (inl (f, _, _)) = absurd (no_value b.neg a.neg _ _ (zero_times b.digits (up b.exp + down a.exp) f) (positive a.digits (up a.exp + down b.exp) d) (sym (crossed a b h)))
    by (inr (d, last)) (inr (f, last')) =
        let s = signs_same a.neg b.neg _ _ (positive a.digits (up a.exp + down b.exp) d) (positive b.digits (up b.exp + down a.exp) f) (crossed a b h) in
        let one = trimmed_one (a.digits * 10 ^ (up a.exp + down b.exp)) a.digits b.digits (up a.exp + down b.exp) (up b.exp + down a.exp)
        (record { whole = refl; last = last }) (record { whole = s.1; last = last' }) in
        dec_same a b s.0 one.0 (omega (arith, ints, up_down a.exp, up_down b.exp, one.1))
