-- DIS item 7 is read as written.
use Rattle.model_text.proofs.Common.{◌≡◌, ℕ, ◌+◌, ◌*◌, ◌≤◌, ◌⊎◌, inl, inr, Bool, true, false, ◌||◌, List, [], ◌∷◌, length, map, nat_le, sum_by, fold, All, Ok, refl, arith, codes, decimal, All-head}
use Rattle.model_text.proofs.Common.{All-tail, nat_tests, Dec, IsDec, Ratio, ratio, Refusal, repeated_reading, Period, without_stresses, kind_of, kind_or_refusal, is_growth, is_time, time_of, IsWord}
use Rattle.model_text.proofs.Common.{number_word, IsLine, Takes, short_exponent, word_by_test, number_is_word, count_is_word, steady_word, dis_item_7, is_at_most, is_at_least, takes_none, line_takes}
use Rattle.model_text.proofs.Common.{All-from_recursion, then_takes, last_takes, IsTimed, IsGrowing, number_one, sum_by_from, positive_is}
use Rattle.dis_package.specs.{period_at, periods_of, declared.periods.Time.Time}
use Rattle.decimal_input.specs.Ratios.{den, AtMost}
use Rattle.model_text.proofs.FrameTexts.{number_item, count_reads}

pub canonical_word : (d : Dec) → IsDec d → IsWord (number_word d)
canonical_word d h = number_is_word d h.few (short_exponent d.exp h.above h.below)

steady_is_word : (b : Bool) → IsWord (steady_word b)
steady_is_word true = word_by_test (codes "SS") refl
steady_is_word false = word_by_test (codes "TR") refl

pub time_is_line : (p : Period) → IsTimed p → IsLine (dis_item_7 p)
unfolding dis_item_7
time_is_line p h = record {
  some = omega arith;
  words = All-from_recursion (λ w. IsWord w) (dis_item_7 p)
      (canonical_word p.perlen h.perlen.decimal, (count_is_word p.nstp (omega (arith, h.nstp.1)), (canonical_word p.tsmult h.tsmult.decimal, (steady_is_word p.steady, tt))));
}

abbrev time : Period → Time
time p = record { perlen = p.perlen; nstp = p.nstp; tsmult = p.tsmult; steady = p.steady }

steady_known : (b : Bool) (r : Refusal) → kind_or_refusal (kind_of (steady_word b ∷ [])) r ≡ Ok b
steady_known true r = refl
steady_known false r = refl

time_reads : (file : List ℕ) (line : ℕ) (p : Period) → IsTimed p → time_of file line (dis_item_7 p) ≡ Ok (time p)
unfolding time_of dis_item_7
time_reads file line p h =
    rw (
      number_item file line p.perlen h.perlen.decimal,
      count_reads file line 100000 p.nstp h.nstp.0 h.nstp.1 (omega arith),
      number_item file line p.tsmult h.tsmult.decimal,
      steady_known p.steady _,
    ) refl

or_true : (b : Bool) → (b || true) ≡ true
or_true true = refl
or_true false = refl

at_most : (f : Ratio) → AtMost f (ratio 1000 1) → is_at_most 1000 f ≡ true
unfolding is_at_most ratio
at_most f h = let k : f.num ≤ 1000 * den f = omega (arith, h.cross) in grind (arith, nat_tests)

at_least : (f : Ratio) → AtMost (ratio 1 1000) f → is_at_least 3 f ≡ true
unfolding is_at_least ratio
at_least f h = let k : den f ≤ f.num * 1000 = omega (arith, h.cross) in grind (arith, nat_tests)

grows : (p : Period) → (p.tsmult ≡ number_one) ⊎ IsGrowing p → is_growth (time p) ≡ true
grows p (inl same) = rw same refl
grows p (inr g) = grind (arith, nat_le, nat_tests, at_least, at_most, or_true)

time_passes : (p : Period) (b : Bool) → p.steady ≡ b → IsTimed p → is_time (time p) ≡ true
time_passes p true e h = rw (e, h.perlen.sign, positive_is p.tsmult h.tsmult) refl
time_passes p false e h = rw (e, positive_is p.perlen (h.lasts e), positive_is p.tsmult h.tsmult) (grows p (h.growth e))

period_takes : (file : List ℕ) (steps : ℕ) (p : Period) → IsTimed p → steps + p.nstp ≤ 100000
    → Takes (λ left. period_at file (steps, left)) (dis_item_7 p ∷ []) (λ left. (without_stresses p, (steps + p.nstp, left)))
unfolding period_at
period_takes file steps p h room =
    let few : nat_le (steps + p.nstp) 100000 ≡ true = grind (arith, nat_tests) in
    line_takes _ file (time_is_line p h) (λ n w. rw (w, time_reads file n p h, time_passes p p.steady refl h, few) takes_none)

-- the steps so far, and those of these periods
abbrev steps_after : ℕ → List Period → ℕ
steps_after steps ps = fold (λ a p. a + p.nstp) steps ps

periods_repeat : (file : List ℕ) (steps : ℕ) (ps : List Period) → All (λ p. IsTimed p) ps → steps_after steps ps ≤ 100000
    → Takes (λ left. repeated_reading (length ps) (period_at file) (steps, left)) (map dis_item_7 ps) (λ left. (map without_stresses ps, (steps_after steps ps, left)))
unfolding repeated_reading
periods_repeat file steps [] h room = takes_none
periods_repeat file steps (p ∷ ps) h room =
    let low : steps + p.nstp ≤ 100000 = omega (arith, room, sum_by_from (λ q. q.nstp) (steps + p.nstp) ps) in
    then_takes _ (period_takes file steps p (All-head (λ q. IsTimed q) p ps h) low)
    (last_takes _ (periods_repeat file (steps + p.nstp) ps (All-tail (λ q. IsTimed q) p ps h) room) (λ left. refl))

-- item 7 of each stress period
pub periods_take : (file : List ℕ) (ps : List Period) → All (λ p. IsTimed p) ps → sum_by (λ p. p.nstp) ps ≤ 100000 →
    Takes (periods_of file (length ps)) (map dis_item_7 ps) (λ left. map without_stresses ps)
unfolding periods_of
periods_take file ps h room = last_takes _ (periods_repeat file 0 ps h room) (λ left. refl)
