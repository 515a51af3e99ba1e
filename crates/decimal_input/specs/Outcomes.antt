use Rattle.std.specs.Prelude.{◌≡◌, ℕ, ◌*◌, ◌<◌, ◌≤◌, ◌^◌, ◌%◌, ◌⊎◌, not, List, length, Bool, true, false, Result, Ok, Err, ℤ, pos, neg_ℤ, ◌+ℤ◌, ◌≤ℤ◌, ◌<ℤ◌, min}
use Rattle.std.specs.Prelude.{Option, Some, None, ◌*ℤ◌}
use Rattle.decimal_input.specs.{declared.dec.Dec.Dec, declared.dec.NumFault.NumFault, declared.dec.NumFault.TheVariants.BadNumber}
use Rattle.decimal_input.specs.{declared.dec.NumFault.TheVariants.TooManyDigits, Grammar.Spelling, Grammar.Spells, declared.coefficient.Coefficient.Coefficient}
use Rattle.decimal_input.specs.{Decimals.with_sign, Decimals.IsDec, Decimals.number, Ratios.Ratio, Ratios.plus, Ratios.times, Ratios.over}
use Rattle.decimal_input.specs.{Ratios.AtMost as RatioAtMost, Fractions.Fraction, Fractions.AtMost, Fractions.Same, Fractions.IsOver, Wholes.EnclosesSigned}
use Rattle.decimal_input.specs.{Wholes.IsBetweenSigned, Wholes.IsSignedCeiling, Wholes.IsSignedFloor}

-- c is d with z zeros after it, and the last digit of d isn't 0.
pub record IsTrimmed (c d z : ℕ) : Type 0 where
  pub whole : c ≡ d * 10 ^ z
  pub last : 0 < d % 10

-- The tests in their order: at most 18 digits, then an exponent from -40 to 40; for d * 10 ^ e, where the last digit of d isn't 0.
pub record IsTested (neg : Bool) (d : ℕ) (e : ℤ) (r : Result Dec NumFault) : Type 0 where
  pub many : 10 ^ 18 ≤ d → r ≡ Err TooManyDigits
  pub low : d < 10 ^ 18 → e <ℤ neg_ℤ (pos 40) → r ≡ Err BadNumber
  pub high : d < 10 ^ 18 → pos 40 <ℤ e → r ≡ Err BadNumber
  pub good : d < 10 ^ 18 → neg_ℤ (pos 40) ≤ℤ e → e ≤ℤ pos 40 → r ≡ Ok (record { neg = neg; digits = d; exp = e })

-- r is the canonical form of c * 10 ^ e with its sign, or its refusal. Zero is zero whatever its sign and exponent.
abbrev pub IsCanonical : Bool → ℕ → ℤ → Result Dec NumFault → Type 0
IsCanonical neg c e r =
    ((c ≡ 0) × (r ≡ Ok (record { neg = false; digits = 0; exp = pos 0 })))
    ⊎ ((d : ℕ) × (z : ℕ) × IsTrimmed c d z × IsTested neg d (e +ℤ pos z) r)

-- What the word w is read as: BadNumber where it has more than 64 bytes or spells no number; else
-- the canonical form of the number that it spells, or its refusal.
pub record Names (w : List ℕ) (r : Result Dec NumFault) : Type 0 where
  pub long : 64 < length w → r ≡ Err BadNumber
  pub no_number : ((n : Spelling) → Spells w n → ⊥) → r ≡ Err BadNumber
  pub number : length w ≤ 64 → (n : Spelling) → Spells w n → IsCanonical n.neg n.coefficient n.exp r

-- What is known of the number c: its digits and the number of zeros after them, or that it has more than 18 digits.
abbrev pub IsOf : Coefficient → ℕ → Type 0
IsOf k c = ((k.many ≡ true) × (d : ℕ) × (z : ℕ) × IsTrimmed c d z × (10 ^ 18 ≤ d))
    ⊎ ((k.many ≡ false) × ((c ≡ 0) × (k.digits ≡ 0)))
    ⊎ ((k.many ≡ false) × (k.digits < 10 ^ 18) × IsTrimmed c k.digits k.zeros)

-- e is the exponent f, or both are beyond 10000 on the same side
pub record IsCap (e f : ℤ) : Type 0 where
  pub is : (neg : Bool) × (n : ℕ) × (f ≡ with_sign neg n) × (e ≡ with_sign neg (min n 10000))

-- the same for exponents that may be missing
abbrev pub IsCapped : Option ℤ → Option ℤ → Type 0
IsCapped None None = Unit {0}
IsCapped None (Some f) = ⊥
IsCapped (Some e) None = ⊥
IsCapped (Some e) (Some f) = IsCap e f

-- Statements of laws.
-- the floor and the ceiling of a fraction, in units of 10 ^ -s, enclose it
abbrev pub FloorsAndCeilingsEnclose : Type 0
FloorsAndCeilingsEnclose = (f : Fraction) (s : ℕ) (lo hi : ℤ) → IsSignedFloor lo f s → IsSignedCeiling hi f s → EnclosesSigned lo hi s f

-- f ≤ g gives floor f ≤ floor g
abbrev pub FloorsKeepOrder : Type 0
FloorsKeepOrder = (f g : Fraction) (s : ℕ) (x y : ℤ) → AtMost f g → IsSignedFloor x f s → IsSignedFloor y g s → x ≤ℤ y

-- f ≤ g gives ceiling f ≤ ceiling g
abbrev pub CeilingsKeepOrder : Type 0
CeilingsKeepOrder = (f g : Fraction) (s : ℕ) (x y : ℤ) → AtMost f g → IsSignedCeiling x f s → IsSignedCeiling y g s → x ≤ℤ y

-- canonical numbers with one value are one
abbrev pub OneCanonicalForm : Type 0
OneCanonicalForm = (a b : Dec) → IsDec a → IsDec b → Same (number a) (number b) → a ≡ b

-- a word names one thing
abbrev pub WordsNameOneThing : Type 0
WordsNameOneThing = (word : List ℕ) (r q : Result Dec NumFault) → Names word r → Names word q → r ≡ q

-- a ≤ b and c ≤ d give a + c ≤ b + d and a * c ≤ b * d, and, where c and d are above 0, a / d ≤ b / c
pub record OperationsKeepOrder : Type 0 where
  pub sums : (a b c d : Ratio) → RatioAtMost a b → RatioAtMost c d → RatioAtMost (plus a c) (plus b d)
  pub products : (a b c d : Ratio) → RatioAtMost a b → RatioAtMost c d → RatioAtMost (times a c) (times b d)
  pub quotients : (a b c d : Ratio) → 0 < c.num → 0 < d.num → RatioAtMost a b → RatioAtMost c d → RatioAtMost (over a d) (over b c)

-- where lo and hi, in units of 10 ^ -s, enclose z over D, they enclose z * 10 ^ s over D
abbrev pub BoundsHoldOverADenominator : Type 0
BoundsHoldOverADenominator =
    (lo hi : ℤ) (s D : ℕ) (f : Fraction) (z : ℤ) → EnclosesSigned lo hi s f → IsOver D f z →
    IsBetweenSigned lo hi D (z *ℤ pos (10 ^ s))
