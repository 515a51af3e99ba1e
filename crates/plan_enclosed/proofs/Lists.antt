-- Lists that are related place by place, their parts, and sums over them.
use Rattle.plan_enclosed.proofs.Common.{AllZip, Fraction, List, [], ap, drop, fraction_total, length, map, plus, refl, suc, sym, take, zero, ℕ, ◌++◌, ◌∙◌, ◌∷◌, ◌≡◌}
use Rattle.std.proofs.Math.Seq.{drop-append_seam, take-append_seam}

pub AllZip-take : {X Y : Type 0} (R : X → Y → Type 0) (n : ℕ) (xs : List X) (ys : List Y) → AllZip R xs ys → AllZip R (take n xs) (take n ys)
AllZip-take R zero xs ys h = tt
AllZip-take R (suc n) [] [] h = tt
AllZip-take R (suc n) [] (y ∷ ys) h = absurd h
AllZip-take R (suc n) (x ∷ xs) [] h = absurd h
AllZip-take R (suc n) (x ∷ xs) (y ∷ ys) h = (h.0, AllZip-take R n xs ys h.1)

pub AllZip-drop : {X Y : Type 0} (R : X → Y → Type 0) (n : ℕ) (xs : List X) (ys : List Y) → AllZip R xs ys → AllZip R (drop n xs) (drop n ys)
AllZip-drop R zero xs ys h = h
AllZip-drop R (suc n) [] [] h = tt
AllZip-drop R (suc n) [] (y ∷ ys) h = absurd h
AllZip-drop R (suc n) (x ∷ xs) [] h = absurd h
AllZip-drop R (suc n) (x ∷ xs) (y ∷ ys) h = AllZip-drop R n xs ys h.1

-- the parts of an appended list
pub front_is : {X : Type 0} (n : ℕ) (fs gs cs : List X) → cs ≡ fs ++ gs → length fs ≡ n → take n cs ≡ fs
front_is {X = X} n fs gs cs e same = ap (take n) e ∙ ap (λ (k : ℕ). take k (fs ++ gs)) (sym same) ∙ take-append_seam fs gs

pub back_is : {X : Type 0} (n : ℕ) (fs gs cs : List X) → cs ≡ fs ++ gs → length fs ≡ n → drop n cs ≡ gs
back_is {X = X} n fs gs cs e same = ap (drop n) e ∙ ap (λ (k : ℕ). drop k (fs ++ gs)) (sym same) ∙ drop-append_seam fs gs

-- a sum of images
pub total_map : {X : Type 0} (f : X → Fraction) (xs : List X) → fraction_total (λ q. q) (map f xs) ≡ fraction_total f xs
total_map f [] = refl
total_map f (x ∷ xs) = ap (plus (f x)) (total_map f xs)
