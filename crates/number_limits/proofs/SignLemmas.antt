-- What the tests of signs tell.
use Rattle.number_limits.proofs.Common.{◌≡◌, Bool, true, false, ◌&&◌, nat_lt, ◌==◌, List, All, IsTrue, ◌↔◌, refl, sym, ℤ, pos, negsuc, arith, and_parts, not-true, ltb-true, eqb-true, Dec, IsDec}
use Rattle.number_limits.proofs.Common.{IsPositive, number_one, is_positive, is_one, is_same_number, unsigned_abs}
use Rattle.std.proofs.Common.{not}
use Rattle.std.specs.{Cmp.signed_Decides, Cmp.booleans_Decides, List.list_all, Ordering.int_eq}
use Rattle.std.proofs.{Math.Bool.beq, lemmas.List.Sums.AllPass-from_list_all, lemmas.List.Sums.list_all-from_AllPass}

pub positive_of : (d : Dec) → IsDec d → is_positive d ≡ true → IsPositive d
positive_of d dec e =
    let p = and_parts (not d.neg) (nat_lt 0 d.digits) e in
    record { decimal = dec; sign = not-true d.neg p.0; positive = ltb-true 0 d.digits p.1 }

pub positive_is : (d : Dec) → IsPositive d → is_positive d ≡ true
positive_is d h = rw h.sign (grind (arith, h.positive))

pub all_positive_of : (xs : List Dec) → All IsDec xs → list_all is_positive xs ≡ true → All IsPositive xs
all_positive_of xs dec e = λ k d within. positive_of _ (dec k d within) (AllPass-from_list_all is_positive xs e k d within)

same : (a b : Bool) → (a ≡ true → b ≡ true) → (b ≡ true → a ≡ true) → a ≡ b
same true b f g = sym (f refl)
same false true f g = g refl
same false false f g = refl

pub is_all : {X : Type 0} (p : X → Bool) (xs : List X) (b : Bool) → (IsTrue b ↔ All (λ x. IsTrue (p x)) xs) → b ≡ list_all p xs
is_all p xs b h = same b (list_all p xs) (λ e. list_all-from_AllPass p xs (h.0 e)) (λ e. h.1 (AllPass-from_list_all p xs e))

nought : (z : ℤ) → unsigned_abs z ≡ 0 → z ≡ pos 0
nought (pos n) e = rw e refl
nought (negsuc n) e = absurd (omega arith)

of_parts : (d : Dec) → d.neg ≡ false → d.digits ≡ 1 → d.exp ≡ pos 0 → d ≡ number_one
of_parts d e f g =
    let same : record { digits = d.digits; exp = d.exp; neg = d.neg } ≡ number_one = rw (e, f, g) refl in
    same

pub one_of : (d : Dec) → is_one d ≡ true → d ≡ number_one
one_of d e =
    let p = and_parts (not d.neg) (d.digits == 1 && (unsigned_abs d.exp == 0)) e in
    let q = and_parts (d.digits == 1) (unsigned_abs d.exp == 0) p.1 in
    of_parts d (not-true d.neg p.0) (eqb-true d.digits 1 q.0) (nought d.exp (eqb-true (unsigned_abs d.exp) 0 q.1))

pub one_is : (d : Dec) → d ≡ number_one → is_one d ≡ true
one_is d e = rw e refl

same_parts : (a b : Dec) → a.digits ≡ b.digits → a.exp ≡ b.exp → a.neg ≡ b.neg → a ≡ b
same_parts a b e f g =
    let same : record { digits = a.digits; exp = a.exp; neg = a.neg } ≡ record { digits = b.digits; exp = b.exp; neg = b.neg } = rw (e, f, g) refl in
    same

-- what the test of two numbers tells
pub one_dec : (a b : Dec) → is_same_number a b ≡ true → a ≡ b
one_dec a b e =
    let p = and_parts (a.digits == b.digits) (int_eq a.exp b.exp && beq a.neg b.neg) e in
    let q = and_parts (int_eq a.exp b.exp) (beq a.neg b.neg) p.1 in
    same_parts a b (eqb-true a.digits b.digits p.0) ((signed_Decides a.exp b.exp).0 q.0) ((booleans_Decides a.neg b.neg).0 q.1)
