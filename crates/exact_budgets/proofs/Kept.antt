-- Flows over one denominator, as whole numbers: what of them goes in, and out; of a whole list, and of those that a test keeps.
use Rattle.exact_budgets.proofs.Common.{◌≡◌, ℕ, refl, arith, ℤ, pos, neg_ℤ, ◌+ℤ◌, ◌-ℤ◌, List, [], ◌∷◌, map, Bool, true, false, cond, AllZip, filter, ints, clamps, Fraction, whole, opposite}
use Rattle.exact_budgets.proofs.Common.{fraction_total, IsOver, total, In, Out, IsOver-plus, IsOver-negated, IsOver-none, IsOver-greater, exact_part, All, All-head, All-tail}
use Rattle.std.specs.Int.{int_max}

-- what of these flows goes in, and out, over D; their sum is z
pub record Parts (D : ℕ) (flows : List Fraction) (z : ℤ) : Type 0 where
  pub into : ℤ
  pub out : ℤ
  pub is_in : IsOver D (fraction_total (exact_part In) flows) into
  pub is_out : IsOver D (fraction_total (exact_part Out) flows) out
  pub net : into -ℤ out ≡ z

no_parts : (D : ℕ) → Parts D [] (pos 0)
no_parts D = record { into = pos 0; out = pos 0; is_in = IsOver-none D; is_out = IsOver-none D; net = refl }

one_more : (D : ℕ) (f : Fraction) (y : ℤ) (flows : List Fraction) (z : ℤ) → IsOver D f y → Parts D flows z → Parts D (f ∷ flows) (y +ℤ z)
one_more D f y flows z over rest = record {
  into = int_max y (pos 0) +ℤ rest.into;
  out = int_max (neg_ℤ y) (pos 0) +ℤ rest.out;
  is_in = IsOver-plus D _ _ _ _ (IsOver-greater D f (whole (pos 0)) y (pos 0) over (IsOver-none D)) rest.is_in;
  is_out = IsOver-plus D _ _ _ _ (IsOver-greater D (opposite f) (whole (pos 0)) (neg_ℤ y) (pos 0) (IsOver-negated D f y over) (IsOver-none D)) rest.is_out;
  net = omega (arith, ints, clamps, rest.net);
}

-- the sum of the second elements whose first ones a test keeps
abbrev pub kept : {X Y : Type 0} → (X → Bool) → (Y → ℤ) → List X → List Y → ℤ
kept p g [] ys = pos 0
kept p g (x ∷ xs) [] = pos 0
kept p g (x ∷ xs) (y ∷ ys) = cond (p x) (g y) (pos 0) +ℤ kept p g xs ys

module _ {X Y : Type 0} (R : X → Y → Type 0) (D : ℕ) (f : X → Fraction) (g : Y → ℤ) (each : (x : X) (y : Y) → R x y → IsOver D (f x) (g y)) where
  -- all flows of a list
  pub all_parts : (xs : List X) (ys : List Y) → AllZip R xs ys → Parts D (map f xs) (total g ys)
  all_parts [] [] h = no_parts D
  all_parts [] (y ∷ ys) h = absurd h
  all_parts (x ∷ xs) [] h = absurd h
  all_parts (x ∷ xs) (y ∷ ys) h = one_more D (f x) (g y) (map f xs) (total g ys) (each x y h.0) (all_parts xs ys h.1)

  one_kept : (p : X → Bool) (x : X) (y : Y) (xs : List X) (ys : List Y) → R x y → Parts D (map f (filter p xs)) (kept p g xs ys) → (b : Bool) → p x ≡ b →
      Parts D (map f (filter p (x ∷ xs))) (kept p g (x ∷ xs) (y ∷ ys))
  one_kept p x y xs ys r rest true e = rw e (one_more D (f x) (g y) (map f (filter p xs)) (kept p g xs ys) (each x y r) rest)
  one_kept p x y xs ys r rest false e = rw (e, none_more (kept p g xs ys)) rest
    where
      none_more : (z : ℤ) → pos 0 +ℤ z ≡ z
      none_more z = omega (arith, ints)

  -- those that a test keeps
  pub kept_parts : (p : X → Bool) (xs : List X) (ys : List Y) → AllZip R xs ys → Parts D (map f (filter p xs)) (kept p g xs ys)
  kept_parts p [] [] h = no_parts D
  kept_parts p [] (y ∷ ys) h = absurd h
  kept_parts p (x ∷ xs) [] h = absurd h
  kept_parts p (x ∷ xs) (y ∷ ys) h = one_kept p x y xs ys h.0 (kept_parts p xs ys h.1) (p x) refl

  pub kept_over : (p : X → Bool) (xs : List X) (ys : List Y) → AllZip R xs ys → IsOver D (fraction_total f (filter p xs)) (kept p g xs ys)
  kept_over p [] [] h = IsOver-none D
  kept_over p [] (y ∷ ys) h = absurd h
  kept_over p (x ∷ xs) [] h = absurd h
  kept_over p (x ∷ xs) (y ∷ ys) h = one (kept_over p xs ys h.1) (p x) refl
    where
      none_more : (z : ℤ) → pos 0 +ℤ z ≡ z
      none_more z = omega (arith, ints)

      one : IsOver D (fraction_total f (filter p xs)) (kept p g xs ys) → (b : Bool) → p x ≡ b → IsOver D (fraction_total f (filter p (x ∷ xs))) (kept p g (x ∷ xs) (y ∷ ys))
      one rest true e = rw e (IsOver-plus D (f x) (fraction_total f (filter p xs)) (g y) (kept p g xs ys) (each x y h.0) rest)
      one rest false e = rw (e, none_more (kept p g xs ys)) rest

-- a sum of kept elements, term by term
pub kept_is : {X Y : Type 0} (R : X → Y → Type 0) (P : X → Type 0) (p : X → Bool) (g z : Y → ℤ) →
    ((x : X) (y : Y) → R x y → P x → cond (p x) (g y) (pos 0) ≡ z y) → (xs : List X) (ys : List Y) → AllZip R xs ys → All P xs → kept p g xs ys ≡ total z ys
kept_is R P p g z each [] [] h a = refl
kept_is R P p g z each [] (y ∷ ys) h a = absurd h
kept_is R P p g z each (x ∷ xs) [] h a = absurd h
kept_is R P p g z each (x ∷ xs) (y ∷ ys) h a = rw (each x y h.0 (All-head P x xs a), kept_is R P p g z each xs ys h.1 (All-tail P x xs a)) refl

pub kept_none : {X Y : Type 0} (p : X → Bool) (g : Y → ℤ) → ((x : X) → p x ≡ false) → (xs : List X) (ys : List Y) → kept p g xs ys ≡ pos 0
kept_none p g none [] ys = refl
kept_none p g none (x ∷ xs) [] = refl
kept_none p g none (x ∷ xs) (y ∷ ys) = rw (none x, kept_none p g none xs ys) refl

-- of turned flows, by a test that keeps the same
pub kept_turned : {X Y : Type 0} (p q : X → Bool) (g z : Y → ℤ) → ((x : X) → p x ≡ q x) → ((y : Y) → g y ≡ neg_ℤ (z y)) → (xs : List X) (ys : List Y) → kept p g xs ys ≡ neg_ℤ (kept q z xs ys)
kept_turned p q g z same turned [] ys = refl
kept_turned p q g z same turned (x ∷ xs) [] = refl
kept_turned p q g z same turned (x ∷ xs) (y ∷ ys) = grind (arith, kept_turned p q g z same turned xs ys)

module _ {X Y : Type 0} (R : X → Y → Type 0) (g : Y → ℤ) where
  -- tests of which each element passes one alone
  pub total_by_three : (p q r : X → Bool) → ((x : X) (a : ℤ) → cond (p x) a (pos 0) +ℤ cond (q x) a (pos 0) +ℤ cond (r x) a (pos 0) ≡ a) →
      (xs : List X) (ys : List Y) → AllZip R xs ys → total g ys ≡ kept p g xs ys +ℤ kept q g xs ys +ℤ kept r g xs ys
  total_by_three p q r one [] [] h = refl
  total_by_three p q r one [] (y ∷ ys) h = absurd h
  total_by_three p q r one (x ∷ xs) [] h = absurd h
  total_by_three p q r one (x ∷ xs) (y ∷ ys) h =
      omega (arith, ints, one x (g y), total_by_three p q r one xs ys h.1)

  pub total_by_two : (p q : X → Bool) → ((x : X) (a : ℤ) → cond (p x) a (pos 0) +ℤ cond (q x) a (pos 0) ≡ a) → (xs : List X) (ys : List Y) → AllZip R xs ys →
      total g ys ≡ kept p g xs ys +ℤ kept q g xs ys
  total_by_two p q one [] [] h = refl
  total_by_two p q one [] (y ∷ ys) h = absurd h
  total_by_two p q one (x ∷ xs) [] h = absurd h
  total_by_two p q one (x ∷ xs) (y ∷ ys) h =
      omega (arith, ints, one x (g y), total_by_two p q one xs ys h.1)
