use Rattle.decimal_input.proofs.Common.{◌≡◌, ℕ, ◌+◌, ◌*◌, refl, arith, ℤ, pos, negsuc, neg_ℤ, ◌+ℤ◌, ◌-ℤ◌, ◌*ℤ◌, ints, same_in, product_is}
use borrow.Author.Differences.{up, down}

-- the whole number p - q
pub diff : ℕ → ℕ → ℤ
diff p q = pos p -ℤ pos q

pub diff_is : (p q : ℕ) → up (diff p q) + q ≡ p + down (diff p q)
unfolding diff
diff_is p q = omega (arith, ints)

pub as_diff : (z : ℤ) → z ≡ diff (up z) (down z)
as_diff z = omega (arith, ints, diff_is)

pub diff-+ℤ : (p q r s : ℕ) → diff p q +ℤ diff r s ≡ diff (p + r) (q + s)
diff-+ℤ p q r s = omega (arith, ints, diff_is)

pub diff_neg : (p q : ℕ) → neg_ℤ (diff p q) ≡ diff q p
diff_neg p q = omega (arith, ints, diff_is)

pub same_diff : (p q r s : ℕ) → p + s ≡ r + q → diff p q ≡ diff r s
same_diff p q r s e = omega (arith, ints, diff_is)

spread : (z : ℤ) (p q : ℕ) → z ≡ diff p q → (k : ℕ) × (p ≡ up z + k) × (q ≡ down z + k)
spread (pos n) p q e = (q, omega (arith, ints, diff_is), omega arith)
spread (negsuc n) p q e = (p, omega arith, omega (arith, ints, diff_is))

pub diff-*ℤ : (p q r s : ℕ) → diff p q *ℤ diff r s ≡ diff (p * r + q * s) (p * s + q * r)
diff-*ℤ p q r s =
    let (k, ep, eq) = spread (diff p q) p q refl in
    let (j, er, es) = spread (diff r s) r s refl in
    same_in _ _ (product_of (diff p q) (diff r s) p q r s k j ep eq er es)
  where
    product_of : (x y : ℤ) (p q r s k j : ℕ) → p ≡ up x + k → q ≡ down x + k → r ≡ up y + j → s ≡ down y + j →
        up (x *ℤ y) + down (diff (p * r + q * s) (p * s + q * r)) ≡ up (diff (p * r + q * s) (p * s + q * r)) + down (x *ℤ y)
    product_of x y p q r s k j ep eq er es = rw (ep, eq, er, es) (omega (arith, product_is, diff_is))

-- the equations that turn sums, products and negatives of differences into one difference
pub ruleset diffs = (diff-+ℤ, diff-*ℤ, diff_neg)
