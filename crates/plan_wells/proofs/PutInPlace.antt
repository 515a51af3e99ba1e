-- A list whose first items are replaced one after the other, each by what it makes with an item of a second list.
use Rattle.plan_wells.proofs.Common.{◌≡◌, ℕ, zero, suc, ◌<◌, ap, refl, arith, List, [], ◌∷◌, length, get_or, set, zip_with}

module _ {X Y : Type 0} (f : X → Y → X) where
  -- the first items replaced
  abbrev pub put_first : ℕ → List X → List Y → List X
  put_first zero xs ys = xs
  put_first (suc n) [] ys = []
  put_first (suc n) (x ∷ xs) [] = x ∷ xs
  put_first (suc n) (x ∷ xs) (y ∷ ys) = f x y ∷ put_first n xs ys

  pub put_length : (n : ℕ) (xs : List X) (ys : List Y) → length (put_first n xs ys) ≡ length xs
  put_length zero xs ys = refl
  put_length (suc n) [] ys = refl
  put_length (suc n) (x ∷ xs) [] = refl
  put_length (suc n) (x ∷ xs) (y ∷ ys) = ap suc (put_length n xs ys)

  pub put_next : (n : ℕ) (xs : List X) (ys : List Y) (d : X) (e : Y) → n < length xs → n < length ys →
      set (put_first n xs ys) n (f (get_or (put_first n xs ys) n d) (get_or ys n e)) ≡ put_first (suc n) xs ys
  put_next zero [] ys d e h k = absurd (omega (arith, h))
  put_next zero (x ∷ xs) [] d e h k = absurd (omega (arith, k))
  put_next zero (x ∷ xs) (y ∷ ys) d e h k = refl
  put_next (suc n) [] ys d e h k = absurd (omega (arith, h))
  put_next (suc n) (x ∷ xs) [] d e h k = absurd (omega (arith, k))
  put_next (suc n) (x ∷ xs) (y ∷ ys) d e h k = ap (λ (zs : List X). f x y ∷ zs) (put_next n xs ys d e (omega (arith, h)) (omega (arith, k)))

  pub put_all : (xs : List X) (ys : List Y) → length ys ≡ length xs → put_first (length xs) xs ys ≡ zip_with f xs ys
  put_all [] ys e = refl
  put_all (x ∷ xs) [] e = absurd (omega (arith, e))
  put_all (x ∷ xs) (y ∷ ys) e = ap (λ (zs : List X). f x y ∷ zs) (put_all xs ys (omega (arith, e)))
