-- Known bytes that grow by the parts of a piece.
use Rattle.outside.proofs.Common.{◌≡◌, ◌∙◌, ℕ, ◌+◌, ◌-◌, ◌≤◌, List, ◌++◌, take, drop, length, sym, ap, subst, Option, take-append-drop, take-take, arith, drop-take, take_rest, Appends, Appends-trans}

take-plus : (m n : ℕ) (xs : List ℕ) → take m xs ++ take n (drop m xs) ≡ take (m + n) xs
take-plus m n xs =
    let ys = take (m + n) xs in
    let least : m ≤ m + n = omega arith in
    ap (λ l. l ++ take n (drop m xs)) (sym (take-take m (m + n) xs least)) ∙ ap (λ l. take m ys ++ l) (sym (drop-take m n xs)) ∙ take-append-drop m ys

-- so much of a piece, and then a part of what is left of it
pub Appends-part : (a b c : Option (List ℕ)) (m n : ℕ) (piece : List ℕ) → Appends a b (take m piece) → Appends b c (take n (take (length piece - m) (drop m piece))) → Appends a c (take (m + n) piece)
Appends-part a b c m n piece p q =
    let part = subst (λ l. Appends b c (take n l)) (take_rest piece m) q in
    subst (Appends a c) (take-plus m n piece) (Appends-trans a b c (take m piece) (take n (drop m piece)) p part)
