-- Reading a line gives the numbers of which just this line is written.
use Rattle.listing_io.proofs.Common.{◌≡◌, ℕ, ◌<◌, ◌≤◌, ◌^◌, Bool, true, false, ◌&&◌, List, [], ◌++◌, length, drop, codes, nat_abs, nat_le, refl, sym, ap, ◌∙◌, arith, Some, zero, suc, ◌+◌, ◌-◌, ◌/◌}
use Rattle.listing_io.proofs.Common.{◌%◌, ◌==◌, ◌∷◌, take, replicate, decimal, add-one, ℤ, pos, negsuc, not, drop_at, append-nil, take_at, bytes_eq, bytes_eq-Decides, fixed_text, padded_digits, sign}
use Rattle.listing_io.proofs.Common.{TermPair, digits_behind, value_of, Form, pair_line, is_within, first_word, after_word, candidate, pair_in, IsPairLine, IsForm, LinesReadExactly, nat_tests, ◌⊎◌}
use Rattle.listing_io.proofs.Common.{inl, inr, IsWritable, FlowModel, digits_line, numbers_text, AllByRecursion, decimal_is_IsNumeral_wide, position_or_len, list_all, AllDigits, ten_pos}
use Rattle.std.specs.Fmt.{signed_decimal}
use Rattle.std.proofs.{lemmas.Bool.and_parts, lemmas.Bool.leb-true, lemmas.Bool.le-leb, lemmas.Bool.and_from, lemmas.Option.cond_some}
use Rattle.listing_io.proofs.NumberLemmas.{is_digit, value_is, part_less, quotient_less}

-- A number has no blank, so the first blank after one ends it.
-- no byte is b
abbrev pub Without : ℕ → List ℕ → Type 0
Without b [] = Unit {0}
Without b (c ∷ cs) = ((c == b) ≡ false) × Without b cs

abbrev pub NoBlank : List ℕ → Type 0
NoBlank = Without 32

pub Without-append : (b : ℕ) (xs ys : List ℕ) → Without b xs → Without b ys → Without b (xs ++ ys)
Without-append b [] ys h k = k
Without-append b (x ∷ xs) ys h k = (h.0, Without-append b xs ys h.1 k)

-- a fixed text, by a test
pub by_test : (b : ℕ) (xs : List ℕ) → list_all (λ c. not (c == b)) xs ≡ true → Without b xs
by_test b [] h = tt
by_test b (c ∷ cs) h = let (one, more) = and_parts (not (c == b)) (list_all (λ x. not (x == b)) cs) h in (is_not (c == b) one, by_test b cs more)
  where
    is_not : (b : Bool) → not b ≡ true → b ≡ false
    is_not false h = refl
    is_not true h = sym h

-- a byte that is no digit, and no point or minus sign
abbrev pub IsApart : ℕ → Type 0
IsApart b = (b < 45) ⊎ (57 < b)

pub other_byte : (b c : ℕ) → IsApart b → 45 ≤ c → c ≤ 57 → (c == b) ≡ false
other_byte b c (inl low) h k = grind (arith, nat_tests)
other_byte b c (inr high) h k = grind (arith, nat_tests)

module _ (b : ℕ) (apart : IsApart b) where
  digits_without : (ds : List ℕ) → AllDigits 10 ds → Without b ds
  digits_without [] h = tt
  digits_without (c ∷ cs) h = let (low, high, is) = is_digit c h.0 in (other_byte b c apart (omega (arith, low)) high, digits_without cs h.1)

  zeros_without : (j : ℕ) → Without b (replicate j 48)
  zeros_without zero = tt
  zeros_without (suc j) = (other_byte b 48 apart (omega arith) (omega arith), zeros_without j)

  pub decimal_without : (n : ℕ) → n < 10 ^ 64 → Without b (decimal n)
  decimal_without n h = let (numeral, value) = decimal_is_IsNumeral_wide n h in digits_without (decimal n) numeral.1

  padded_without : (k r : ℕ) → r < 10 ^ 64 → Without b (padded_digits k r)
  padded_without k r h = Without-append b (replicate (k - length (decimal r)) 48) (decimal r) (zeros_without (k - length (decimal r))) (decimal_without r h)

  sign_without : (z : ℤ) → Without b (sign z)
  sign_without (pos n) = tt
  sign_without (negsuc n) = (other_byte b 45 apart (omega arith) (omega arith), tt)

  pub fixed_without : (k : ℕ) (z : ℤ) → nat_abs z < 10 ^ 64 → Without b (fixed_text k z)
  fixed_without k z h =
      let p = ten_pos k in
      Without-append b (sign z ++ decimal (nat_abs z / 10 ^ k) ++ codes ".") (padded_digits k (nat_abs z % 10 ^ k))
      (Without-append b (sign z ++ decimal (nat_abs z / 10 ^ k)) (codes ".")
      (Without-append b (sign z) (decimal (nat_abs z / 10 ^ k)) (sign_without z) (decimal_without (nat_abs z / 10 ^ k) (quotient_less (nat_abs z) (10 ^ k) (10 ^ 64) p h)))
      (other_byte b 46 apart (omega arith) (omega arith), tt))
      (padded_without k (nat_abs z % 10 ^ k) (part_less (nat_abs z) (10 ^ k) (10 ^ 64) p h))

  pub signed_without : (z : ℤ) → nat_abs z < 2 ^ 64 → Without b (signed_decimal z)
  signed_without (pos n) h = decimal_without n (omega arith)
  signed_without (negsuc n) h = (other_byte b 45 apart (omega arith) (omega arith), decimal_without (suc n) (omega arith))

  -- numbers after blanks, and the first line of a model's listing
  module _ (blank : (32 == b) ≡ false) where
    pub numbers_without : (ns : List ℕ) → AllByRecursion (λ n. n < 10 ^ 64) ns → Without b (numbers_text ns)
    numbers_without [] h = tt
    numbers_without (n ∷ ns) h = (blank, Without-append b (decimal n) (numbers_text ns) (decimal_without n h.0) (numbers_without ns h.1))

    pub title_without : (title : List ℕ) → Without b title → (m : FlowModel) (s : ℕ) → IsWritable m s → Without b (codes " DIGITS") → Without b (codes " UNIT ") →
        Without b (digits_line title m s)
    title_without title named m s good first second =
        let few = good.digits in
        Without-append b (title ++ codes " DIGITS" ++ numbers_text (s ∷ []) ++ codes " UNIT ") (signed_decimal m.lenuni)
        (Without-append b (title ++ codes " DIGITS" ++ numbers_text (s ∷ [])) (codes " UNIT ")
        (Without-append b (title ++ codes " DIGITS") (numbers_text (s ∷ [])) (Without-append b title (codes " DIGITS") named first) (numbers_without (s ∷ []) (omega (arith, few), tt)))
        second)
        (signed_without m.lenuni good.unit)

pub NoBlank-fixed : (k : ℕ) (z : ℤ) → nat_abs z < 10 ^ 64 → NoBlank (fixed_text k z)
NoBlank-fixed k z h = fixed_without 32 (inl (omega arith)) k z h

place_is : (xs ys : List ℕ) → NoBlank xs → position_or_len (λ c. c == 32) (xs ++ (32 ∷ ys)) ≡ length xs
place_is [] ys h = refl
place_is (x ∷ xs) ys h = let e = place_is xs ys h.1 in rw h.0 (omega (arith, e))

pub first_word_is : (xs ys : List ℕ) → NoBlank xs → first_word (xs ++ (32 ∷ ys)) ≡ xs
first_word_is xs ys h = ap (λ (n : ℕ). take n (xs ++ (32 ∷ ys))) (place_is xs ys h) ∙ take_at xs (32 ∷ ys) (length xs) refl

drop_past : (xs ys : List ℕ) (b : ℕ) → drop (suc (length xs)) (xs ++ (b ∷ ys)) ≡ ys
drop_past [] ys b = refl
drop_past (x ∷ xs) ys b = drop_past xs ys b

pub behind_word_is : (xs ys : List ℕ) → NoBlank xs → after_word (xs ++ (32 ∷ ys)) ≡ ys
behind_word_is xs ys h = ap (λ (n : ℕ). drop n (xs ++ (32 ∷ ys))) (ap (λ (n : ℕ). n + 1) (place_is xs ys h) ∙ add-one (length xs)) ∙ drop_past xs ys 32

no_more : (m : ℕ) → digits_behind m [] ≡ m
unfolding digits_behind
no_more m = refl

pub fits_wide : (z : ℕ) (limit : ℕ) → limit < 2 ^ 126 → z ≤ limit → z < 10 ^ 64
fits_wide z limit h k = omega arith

-- the numbers of a line that is written of two
pub candidate_is : (front : List ℕ) (f : Form) (p : TermPair) → IsForm f → nat_abs p.lo ≤ f.limit → nat_abs p.hi ≤ f.limit → candidate front (pair_line front f p) ≡ p
unfolding candidate
candidate_is front f p good lo hi =
    let rest = fixed_text f.places p.lo ++ (codes " " ++ (fixed_text f.places p.hi ++ f.back)) in
    let behind : drop (length front) (front ++ rest) ≡ rest = drop_at front rest (length front) refl in
    let wide_lo = fits_wide (nat_abs p.lo) f.limit good.small lo in
    let wide_hi = fits_wide (nat_abs p.hi) f.limit good.small hi in
    let blank = NoBlank-fixed f.places p.lo wide_lo in
    let first : value_of (first_word (drop (length front) (front ++ rest))) ≡ p.lo =
    ap (λ (t : List ℕ). value_of (first_word t)) behind ∙ ap value_of
    (first_word_is (fixed_text f.places p.lo) (fixed_text f.places p.hi ++ f.back) blank ∙ sym (append-nil (fixed_text f.places p.lo))) ∙ value_is
    f.places p.lo [] good.some wide_lo no_more in
    let second : value_of (after_word (drop (length front) (front ++ rest))) ≡ p.hi =
    ap (λ (t : List ℕ). value_of (after_word t)) behind ∙ ap value_of
    (behind_word_is (fixed_text f.places p.lo) (fixed_text f.places p.hi ++ f.back) blank) ∙ value_is f.places p.hi f.back good.some wide_hi good.behind
    in
    rw (first, second) refl

is_same : (xs ys : List ℕ) → bytes_eq xs ys ≡ true → xs ≡ ys
is_same xs ys h = (bytes_eq-Decides xs ys).0 h

same_is : (xs : List ℕ) → bytes_eq xs xs ≡ true
same_is xs = (bytes_eq-Decides xs xs).1 refl

numbers_fit : (f : Form) (p : TermPair) → is_within f p ≡ true → (nat_abs p.lo ≤ f.limit) × (nat_abs p.hi ≤ f.limit)
numbers_fit f p h = let (a, b) = and_parts (nat_le (nat_abs p.lo) f.limit) (nat_le (nat_abs p.hi) f.limit) h in (leb-true _ _ a, leb-true _ _ b)

fit_numbers : (f : Form) (p : TermPair) → nat_abs p.lo ≤ f.limit → nat_abs p.hi ≤ f.limit → is_within f p ≡ true
fit_numbers f p lo hi = and_from _ _ (le-leb _ _ lo) (le-leb _ _ hi)

pub line_sound : (front : List ℕ) (f : Form) (line : List ℕ) (p : TermPair) → pair_in front f line ≡ Some p → IsPairLine front f line p
unfolding pair_in
line_sound front f line p h =
    let (test, same) = cond_some (is_within f (candidate front line) && bytes_eq (pair_line front f (candidate front line)) line) (candidate front line) p h in
    let (small, text) = and_parts (is_within f (candidate front line)) (bytes_eq (pair_line front f (candidate front line)) line) test in
    let (lo, hi) = numbers_fit f (candidate front line) small in
    rw (← same) (record { text = sym (is_same (pair_line front f (candidate front line)) line text); lo = lo; hi = hi })

pub line_whole : (front : List ℕ) (f : Form) (p : TermPair) → IsForm f → nat_abs p.lo ≤ f.limit → nat_abs p.hi ≤ f.limit → pair_in front f (pair_line front f p) ≡ Some p
unfolding pair_in
line_whole front f p good lo hi = rw (
  candidate_is front f p good lo hi,
  and_from (is_within f p) (bytes_eq (pair_line front f p) (pair_line front f p))
      (fit_numbers f p lo hi) (same_is (pair_line front f p)),
) refl

pub lines_read_exactly : LinesReadExactly
lines_read_exactly front f good = record {
  sound = line_sound front f;
  whole = λ line p h. ap (pair_in front f) h.text ∙ line_whole front f p good h.lo h.hi;
}
