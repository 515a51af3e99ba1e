-- Loops that read the same thing so many times.
use Rattle.record_lines.proofs.Common.{◌≡◌, ℕ, suc, ◌-◌, ◌+◌, ◌≤◌, ◌<◌, List, [], ◌∷◌, ◌++◌, Result, Ok, Err, refl, sym, ap, append_assoc, arith, append-nil, Refusal, ◌>>=◌, Stops, StopsText}
use Rattle.record_lines.proofs.Common.{appended_readings, repeated_reading, for_each, each_number, zero, nat_le, true, false, ◌⊎◌, inl, inr}
use Rattle.std.proofs.lemmas.Bool.Decides.{leb_tells}
use Rattle.outside.specs.{declared.inputs.InputFault.InputFault, declared.inputs.InputFault.TheVariants.Refused, declared.inputs.InputFault.TheVariants.ReadFault}
use Rattle.outside.specs.{declared.inputs.InputFault.TheVariants.Memory, declared.inputs.TextFault.TextFault}
use Rattle.outside.specs.declared.inputs.TextFault.TheVariants as texts

-- What stops a reading stops what is made of it.
pub stops_all : {A B : Type 0} (fault : InputFault) (read : Result A Refusal) (f : A → Result B Refusal) → Stops fault read → Stops fault (read >>= f)
stops_all (Refused r) read f h = rw h refl
stops_all ReadFault read f h = tt
stops_all Memory read f h = tt

pub ends_all : {A B : Type 0} (fault : TextFault) (read : Result A Refusal) (f : A → Result B Refusal) → StopsText fault read → StopsText fault (read >>= f)
ends_all (texts.Refused r) read f h = rw h refl
ends_all texts.Memory read f h = tt

-- what was read before, and what is still read
abbrev pub with_front : {X S E : Type 0} → List X → Result (List X × S) E → Result (List X × S) E
with_front front read = read >>= λ x. Ok (front ++ x.0, x.1)

pub regroup : {X S E : Type 0} (front : List X) (x : X) (read : Result (List X × S) E) → with_front front (read >>= λ more. Ok (x ∷ more.0, more.1)) ≡ with_front (front ++ x ∷ []) read
regroup front x (Ok more) = ap (λ xs. Ok (xs, more.1)) (sym (append_assoc front (x ∷ []) more.0))
regroup front x (Err e) = refl

one_less : (count i : ℕ) → i < count → count - i ≡ suc (count - (i + 1))
one_less count i lt = omega arith

none_left : (count i : ℕ) → count ≤ i → count - i ≡ 0
none_left count i le = omega arith

-- one more of the `count` is read
pub goes_on : {X S E : Type 0} (read : S → Result (X × S) E) (front : List X) (count i : ℕ) (s after : S) (x : X) (total : Result (List X × S) E) → i < count → read s ≡ Ok (x, after)
    → with_front front (repeated_reading (count - i) read s) ≡ total → with_front (front ++ x ∷ []) (repeated_reading (count - (i + 1)) read after) ≡ total
unfolding repeated_reading
goes_on read front count i s after x total lt h so_far = rw (← so_far, one_less count i lt, h) (sym (regroup front x (repeated_reading (count - (i + 1)) read after)))

-- all are read
pub is_done : {X S E : Type 0} (read : S → Result (X × S) E) (front : List X) (count i : ℕ) (s : S) (total : Result (List X × S) E) → count ≤ i →
    with_front front (repeated_reading (count - i) read s) ≡ total → total ≡ Ok (front, s)
unfolding repeated_reading
is_done read front count i s total le so_far = rw (← so_far, none_left count i le, append-nil front) refl

-- reading stops in the middle
pub ends_text : {X S : Type 0} (read : S → Result (X × S) Refusal) (fault : TextFault) (front : List X) (count i : ℕ) (s : S)
    (total : Result (List X × S) Refusal) → i < count → StopsText fault (read s)
    → with_front front (repeated_reading (count - i) read s) ≡ total → StopsText fault total
unfolding repeated_reading
ends_text read fault front count i s total lt h so_far = rw (← so_far, one_less count i lt) (ends_all fault _ _ (ends_all fault (read s) _ h))

regroup_list : {X S E : Type 0} (front xs : List X) (read : Result (List X × S) E) → with_front front (read >>= λ more. Ok (xs ++ more.0, more.1)) ≡ with_front (front ++ xs) read
regroup_list front xs (Ok more) = ap (λ ys. Ok (ys, more.1)) (sym (append_assoc front xs more.0))
regroup_list front xs (Err e) = refl

-- one more list is read
pub list_goes_on : {X S E : Type 0} (read : S → Result (List X × S) E) (front : List X) (count i : ℕ) (s after : S) (xs : List X) (total : Result (List X × S) E) → i < count → read s ≡ Ok (xs, after)
    → with_front front (appended_readings (count - i) read s) ≡ total → with_front (front ++ xs) (appended_readings (count - (i + 1)) read after) ≡ total
unfolding appended_readings
list_goes_on read front count i s after xs total lt h so_far = rw (← so_far, one_less count i lt, h) (sym (regroup_list front xs (appended_readings (count - (i + 1)) read after)))

-- reading a list stops in the middle
pub list_ends : {X S : Type 0} (read : S → Result (List X × S) Refusal) (fault : TextFault) (front : List X) (count i : ℕ) (s : S)
    (total : Result (List X × S) Refusal) → i < count → StopsText fault (read s)
    → with_front front (appended_readings (count - i) read s) ≡ total → StopsText fault total
unfolding appended_readings
list_ends read fault front count i s total lt h so_far = rw (← so_far, one_less count i lt) (ends_all fault _ _ (ends_all fault (read s) _ h))

-- all lists are read
pub lists_done : {X S E : Type 0} (read : S → Result (List X × S) E) (front : List X) (count i : ℕ) (s : S) (total : Result (List X × S) E) → count ≤ i →
    with_front front (appended_readings (count - i) read s) ≡ total → total ≡ Ok (front, s)
unfolding appended_readings
lists_done read front count i s total le so_far = rw (← so_far, none_left count i le, append-nil front) refl

-- the same where a folder is given
pub list_stops : {X S : Type 0} (read : S → Result (List X × S) Refusal) (fault : InputFault) (front : List X) (count i : ℕ) (s : S)
    (total : Result (List X × S) Refusal) → i < count → Stops fault (read s)
    → with_front front (appended_readings (count - i) read s) ≡ total → Stops fault total
unfolding appended_readings
list_stops read fault front count i s total lt h so_far = rw (← so_far, one_less count i lt) (stops_all fault _ _ (stops_all fault (read s) _ h))

-- Loops that read something for each of a list.
-- one more of the list is read
pub each_goes_on : {A X S E : Type 0} (read : A → S → Result (X × S) E) (front : List X) (all others : List A) (a : A) (s after : S) (x : X)
    (total : Result (List X × S) E) → all ≡ a ∷ others → read a s ≡ Ok (x, after)
    → with_front front (for_each read all s) ≡ total → with_front (front ++ x ∷ []) (for_each read others after) ≡ total
unfolding for_each
each_goes_on read front all others a s after x total e h so_far = rw (← so_far, e, h) (sym (regroup front x (for_each read others after)))

-- the whole list is read
pub each_done : {A X S E : Type 0} (read : A → S → Result (X × S) E) (front : List X) (all : List A) (s : S) (total : Result (List X × S) E) → all ≡ [] →
    with_front front (for_each read all s) ≡ total → total ≡ Ok (front, s)
unfolding for_each
each_done read front all s total e so_far = rw (← so_far, e, append-nil front) refl

-- Loops that make the same step for each number of a range.
-- one more step is made
pub step_goes_on : {S E : Type 0} (step : ℕ → S → Result S E) (count i : ℕ) (s after : S) (total : Result S E) → i < count → step i s ≡ Ok after
    → each_number step i (count - i) s ≡ total → each_number step (i + 1) (count - (i + 1)) after ≡ total
unfolding each_number
step_goes_on step count i s after total lt h so_far = rw (← so_far, one_less count i lt, h) refl

-- a step stops the loop
pub steps_stop : {S : Type 0} (step : ℕ → S → Result S Refusal) (fault : InputFault) (count i : ℕ) (s : S) (total : Result S Refusal) → i < count → Stops fault (step i s)
    → each_number step i (count - i) s ≡ total → Stops fault total
unfolding each_number
steps_stop step fault count i s total lt h so_far = rw (← so_far, one_less count i lt) (stops_all fault (step i s) _ h)

-- the same where no folder is given
pub steps_end : {S : Type 0} (step : ℕ → S → Result S Refusal) (fault : TextFault) (count i : ℕ) (s : S) (total : Result S Refusal) → i < count → StopsText fault (step i s)
    → each_number step i (count - i) s ≡ total → StopsText fault total
unfolding each_number
steps_end step fault count i s total lt h so_far = rw (← so_far, one_less count i lt) (ends_all fault (step i s) _ h)

-- all steps are made
pub steps_done : {S E : Type 0} (step : ℕ → S → Result S E) (count i : ℕ) (s : S) (total : Result S E) → count ≤ i → each_number step i (count - i) s ≡ total → total ≡ Ok s
unfolding each_number
steps_done step count i s total le so_far = rw (← so_far, none_left count i le) refl

-- each of the steps that passed
pub each_step : (step : ℕ → Unit {0} → Result (Unit {0}) Refusal) (n c : ℕ) → each_number step c n tt ≡ Ok tt → (k : ℕ) → c ≤ k → k < c + n → step k tt ≡ Ok tt
unfolding each_number
each_step step zero c h k low high = absurd (omega (arith, low, high))
each_step step (suc n) c h k low high = by_case (λ so l. each_step step n (c + 1) so k l (omega (arith, high))) (step c tt) refl h (leb_tells (c + 1) k)
  where
    by_case : (each_number step (c + 1) n tt ≡ Ok tt → c + 1 ≤ k → step k tt ≡ Ok tt) → (x : Result (Unit {0}) Refusal) → step c tt ≡ x → (x >>= each_number step (c + 1) n) ≡ Ok tt
        → ((nat_le (c + 1) k ≡ true) × (c + 1 ≤ k)) ⊎ ((nat_le (c + 1) k ≡ false) × (k < c + 1)) → step k tt ≡ Ok tt
    by_case others (Ok u) e so (inl a) = others so a.1
    by_case others (Ok u) e so (inr a) = let same : k ≡ c = omega (arith, a.1, low) in rw same e
    by_case others (Err r) e so t = absurd (cc)
