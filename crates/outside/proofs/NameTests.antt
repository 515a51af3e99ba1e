-- The test of a file's name.
use Rattle.outside.proofs.Common.{◌≡◌, ℕ, zero, suc, ◌<◌, Bool, true, false, ◌&&◌, List, [], ◌∷◌, length, get_or, nat_le, arith, refl, All, IsGoodName, IsNameByte, is_good_name}
use Rattle.std.specs.List.{list_all}
use Rattle.std.proofs.{lemmas.Bool.Decides.nat_tests, lemmas.Bool.and_parts}

bytes_taken : (bs : List ℕ) → All IsNameByte bs → list_all (λ b. nat_le 33 b && nat_le b 126) bs ≡ true
bytes_taken [] h = refl
bytes_taken (b ∷ bs) h =
    let first : IsNameByte b = h 0 0 (omega arith) in
    let low : nat_le 33 b ≡ true = grind (arith, nat_tests) in
    let high : nat_le b 126 ≡ true = grind (arith, nat_tests) in
    let others : list_all (λ b. nat_le 33 b && nat_le b 126) bs ≡ true = bytes_taken bs (λ k d within. h (suc k) d (omega arith)) in
    rw (low, high, others) refl

byte_at : (bs : List ℕ) → list_all (λ b. nat_le 33 b && nat_le b 126) bs ≡ true → (k d : ℕ) → k < length bs → IsNameByte (get_or bs k d)
byte_at [] e k d within = absurd (omega arith)
byte_at (b ∷ bs) e zero d within =
    let p = and_parts (nat_le 33 b) (nat_le b 126) (and_parts (nat_le 33 b && nat_le b 126) _ e).0 in
    (grind (arith, nat_tests), grind (arith, nat_tests))
byte_at (b ∷ bs) e (suc k) d within = byte_at bs (and_parts (nat_le 33 b && nat_le b 126) _ e).1 k d (omega arith)

pub is_taken : (bs : List ℕ) → IsGoodName bs → is_good_name bs ≡ true
unfolding is_good_name
is_taken bs h =
    let low : nat_le 1 (length bs) ≡ true = grind (arith, nat_tests) in
    let high : nat_le (length bs) 255 ≡ true = grind (arith, nat_tests) in
    rw (low, high, bytes_taken bs h.2) refl

pub is_good : (bs : List ℕ) → is_good_name bs ≡ true → IsGoodName bs
unfolding is_good_name
is_good bs e =
    let lengths = and_parts (nat_le 1 (length bs) && nat_le (length bs) 255) _ e in
    let p = and_parts (nat_le 1 (length bs)) (nat_le (length bs) 255) lengths.0 in
    (grind (arith, nat_tests), grind (arith, nat_tests), λ k d within. byte_at bs lengths.1 k d within)
