use Rattle.decimal_input.proofs.Common.{◌≡◌, ℕ, ◌+◌, ◌-◌, ◌*◌, ◌≤◌, ◌<◌, inl, inr, ◌↔◌, List, [], ◌∷◌, ◌++◌, length, Bool, false, nat_le, arith, refl, sym, ap, subst, ◌∙◌, ℤ, pos, ◌-ℤ◌, Option, Some}
use Rattle.decimal_input.proofs.Common.{None, Result, Err, le-leb, lt-leb, leb-true, cases_Bool, Dec, NumFault, BadNumber, number_from, AreDigits, IsSign, IsPart, IsInteger, Spelling, Spells}
use Rattle.decimal_input.proofs.Common.{is_negative, without_sign, digits_of, after_digits, digits_after_point, behind_part, exponent_of, integer_of, spelling, spelling_of, IsCapped, Names}
use Rattle.decimal_input.proofs.{Named.IsNumber, Named.spelling_is_of_parts, Parts.HasNoSign, Parts.digit_first, Parts.digits_front, Parts.behind_front, Parts.sign_read, Parts.part_read}
use Rattle.decimal_input.proofs.{Parts.exponent_read, Parts.whole_read, Parts.sign_cut, Parts.front_digits, Parts.front_cut, Parts.part_cut, Parts.exponent_cut, Parts.spelling_cut, Parts.whole_cut}

pub number_append : (c : ℕ) (xs ys : List ℕ) → number_from c (xs ++ ys) ≡ number_from (number_from c xs) ys
number_append c [] ys = refl
number_append c (x ∷ xs) ys = number_append (c * 10 + (x - 48)) xs ys

-- what follows the sign begins with a digit or a point
body_first : (whole part point after_digits : List ℕ) → AreDigits whole → IsPart part point → 1 ≤ length whole + length part → HasNoSign (whole ++ (point ++ after_digits))
body_first [] part point after_digits all (inl (e, _)) h = rw e (refl, refl)
body_first [] part point after_digits all (inr (_, e)) h = absurd (let k : length part ≡ 0 = ap length e in omega (arith, k, h))
body_first (b ∷ bs) part point after_digits all p h = digit_first b (bs ++ (point ++ after_digits)) (all 0 0 (omega arith))

spelling_is : (neg : Bool) (whole part : List ℕ) (e : ℤ) (n : Spelling) → n.neg ≡ neg → 1 ≤ length whole + length part → n.coefficient ≡
    number_from 0 (whole ++ part) → n.exp ≡ e -ℤ pos (length part) → spelling neg whole part (Some e) ≡ Some n
spelling_is neg whole part e n sign h c x = grind (arith, le-leb, number_append)

-- A word that spells a number is read as that number.
pub reads_spelt : (w : List ℕ) (n : Spelling) → Spells w n → spelling_of w ≡ Some n
reads_spelt w n s =
    let body = s.whole ++ (s.point ++ s.behind) in
    let tail = s.point ++ s.behind in
    let sign = sign_read n.neg s.sign body s.is_sign (body_first s.whole s.part s.point s.behind s.are_digits s.is_part s.some) in
    let rest = part_read s.part s.point s.behind s.power s.is_part s.is_exponent in
    let neg_is : n.neg ≡ is_negative w = sym (ap is_negative s.cut ∙ sign.0) in
    let body_is : body ≡ without_sign w = sym (ap without_sign s.cut ∙ sign.1) in
    let word = spelling_is_of_parts w body s.whole tail s.part s.behind n.neg neg_is body_is (sym (digits_front s.whole tail s.are_digits rest.0))
    (sym (behind_front s.whole tail s.are_digits rest.0)) (sym rest.1.0) (sym rest.1.1) in
    sym word ∙ ap (λ (X : Option ℤ). spelling n.neg s.whole s.part X) (exponent_read s.power s.behind s.is_exponent) ∙ spelling_is n.neg s.whole s.part s.power n refl s.some s.coefficient s.exp

-- A word that is read as a number spells it.
pub spells_read : (w : List ℕ) (n : Spelling) → spelling_of w ≡ Some n → Spells w n
spells_read w n h =
    let body = without_sign w in
    let tail = after_digits body in
    let (s, signed, cut) = sign_cut w in
    let (pt, pointed, tail_cut) = part_cut tail in
    let (e, read, some, is) = spelling_cut (is_negative w) (digits_of body) (digits_after_point tail) (exponent_of (behind_part tail)) n h in
    record {
      sign = s;
      whole = digits_of body;
      part = digits_after_point tail;
      point = pt;
      behind = behind_part tail;
      power = e;
      cut = cut ∙ ap (λ (xs : List ℕ). s ++ xs) (sym (front_cut body) ∙ ap (λ (xs : List ℕ). digits_of body ++ xs) tail_cut);
      is_sign = subst (λ (b : Bool). IsSign b s) (sym (ap (λ (m : Spelling). m.neg) is)) signed;
      are_digits = front_digits body;
      is_part = pointed;
      some = some;
      is_exponent = exponent_cut (behind_part tail) e read;
      coefficient = ap (λ (m : Spelling). m.coefficient) is ∙ sym (number_append 0 (digits_of body) (digits_after_point tail));
      exp = ap (λ (m : Spelling). m.exp) is;
    }

by_spelt : (w : List ℕ) (r : Result Dec NumFault) (X : Option Spelling) → spelling_of w ≡ X → IsNumber X r → ((n : Spelling) → Spells w n → ⊥) → r ≡ Err BadNumber
by_spelt w r None e h none = h
by_spelt w r (Some n) e h none = absurd (none n (spells_read w n e))

-- The reading of a short word is what the word names.
pub names_read : (w : List ℕ) (r : Result Dec NumFault) → length w ≤ 64 → IsNumber (spelling_of w) r → Names w r
names_read w r short h = record {
  long = λ lt. absurd (omega (arith, lt, short));
  no_number = by_spelt w r (spelling_of w) refl h;
  number = λ _ n s. let P : Option Spelling → Type 0 = λ X. IsNumber X r in subst P (reads_spelt w n s) h;
}

-- Where the exponent can't be read the word names no number.
pub no_exponent : (neg : Bool) (whole part : List ℕ) (X : Option ℤ) → IsCapped None X → IsNumber (spelling neg whole part X) (Err BadNumber)
no_exponent neg whole part None h = refl
no_exponent neg whole part (Some e) h = absurd h

-- Without a digit it names none.
pub no_digit : (neg : Bool) (whole part : List ℕ) (X : Option ℤ) → length whole + length part ≡ 0 → IsNumber (spelling neg whole part X) (Err BadNumber)
no_digit neg whole part None h = refl
no_digit neg whole part (Some e) h = let k : nat_le 1 (length whole + length part) ≡ false = lt-leb 1 (length whole + length part) (omega (arith, h)) in rw k refl

-- A long word names none.
pub long_names : (w : List ℕ) → 64 < length w → Names w (Err BadNumber)
long_names w h = record { long = λ _. refl; no_number = λ _. refl; number = λ short. absurd (omega (arith, short, h)) }

none_alone : (ds : List ℕ) → AreDigits ds → 1 ≤ length ds → HasNoSign ds
none_alone [] all h = absurd (omega (arith, h))
none_alone (b ∷ ds) all h = digit_first b ds (all 0 0 (omega arith))

-- A word that is an integer is read as it.
pub reads_integer : (w : List ℕ) (z : ℤ) → IsInteger w z → integer_of w ≡ Some z
reads_integer w z i = grind (arith, sign_read, none_alone, le-leb, whole_read)

-- A word that is read as an integer is it.
pub integer_read : (w : List ℕ) (z : ℤ) → integer_of w ≡ Some z → IsInteger w z
integer_read w z h = elim (cases_Bool (nat_le (length (without_sign w)) 18)) [
  | inl k ↦ (let (s, signed, cut) = sign_cut w in
      let r = whole_cut (is_negative w) (without_sign w) z (rw k at h) in
      record { neg = is_negative w; sign = s; digits = without_sign w; cut = cut; is_sign = signed; are_digits = r.0; some = r.1.0; few = leb-true _ _ k; value = r.1.1 })
  | inr k ↦ absurd (let m : None ≡ Some z = rw k at h in cc)
]

pub integer_exactly : (w : List ℕ) (r : Option ℤ) → r ≡ integer_of w → (z : ℤ) → (r ≡ Some z) ↔ IsInteger w z
integer_exactly w r e z = ((λ h. integer_read w z (sym e ∙ h)), (λ i. e ∙ reads_integer w z i))
