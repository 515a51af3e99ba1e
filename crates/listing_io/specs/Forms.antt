-- The lines of a listing that have two numbers: how such a line is written, and which numbers are read from it.
use Rattle.std.specs.Prelude.{◌≡◌, ℕ, ◌<◌, ◌≤◌, ◌^◌, ◌==◌, Bool, ◌&&◌, if◌then◌else◌, List, ◌++◌, codes, drop, length, nat_le, nat_abs, Option, Some, None, ◌+◌}
use Rattle.std.specs.Prelude.{◌-◌, ◌*◌, cond, [], ◌∷◌, ℤ, pos, neg_ℤ, slice_index}
use Rattle.std.specs.{List.before_first, List.after_first, Str.bytes_eq}
use Rattle.fixed_text.specs.{fixed_text}
use Rattle.budget_bounds.specs.declared.pair.TermPair.{TermPair}

-- The number in a word's digits, whatever is between them. A line is first read by its digits, and then compared with
-- the text of the numbers found, so no other byte can be overlooked.
-- n with one more byte after it: a digit counts, any other byte is skipped
abbrev pub with_byte : ℕ → ℕ → ℕ
with_byte n c = cond (nat_le 48 c && nat_le c 57) (n * 10 + (c - 48)) n

unfoldable pub digits_behind : ℕ → List ℕ → ℕ
digits_behind n [] = n
digits_behind n (c ∷ cs) = digits_behind (with_byte n c) cs

-- a minus sign comes first
abbrev pub is_negative : List ℕ → Bool
is_negative word = slice_index word 0 == 45

abbrev pub value_of : List ℕ → ℤ
value_of word = cond (is_negative word) (neg_ℤ (pos (digits_behind 0 word))) (pos (digits_behind 0 word))

-- the form of two numbers in a line: their decimals, their greatest magnitude, and the text after them
pub record Form : Type 0 where
  pub places : ℕ
  pub limit : ℕ
  pub back : List ℕ

-- two numbers with a blank between them, and the text after them
abbrev pub pair_text : Form → TermPair → List ℕ
pair_text f p = fixed_text f.places p.lo ++ (codes " " ++ (fixed_text f.places p.hi ++ f.back))

-- the line with this beginning and these two numbers
abbrev pub pair_line : List ℕ → Form → TermPair → List ℕ
pair_line front f p = front ++ pair_text f p

-- both numbers are within the limit
abbrev pub is_within : Form → TermPair → Bool
is_within f p = nat_le (nat_abs p.lo) f.limit && nat_le (nat_abs p.hi) f.limit

-- the text before the first blank, and the text after it
abbrev pub first_word : List ℕ → List ℕ
first_word text = before_first (λ c. c == 32) text

abbrev pub after_word : List ℕ → List ℕ
after_word text = after_first (λ c. c == 32) text

-- the numbers in the digits before and after the first blank that follows the line's beginning
unfoldable pub candidate : List ℕ → List ℕ → TermPair
candidate front line = record { lo = value_of (first_word (drop (length front) line)); hi = value_of (after_word (drop (length front) line)) }

-- the numbers of a line: those that are written as exactly this line
unfoldable pub pair_in : List ℕ → Form → List ℕ → Option TermPair
pair_in front f line =
    if is_within f (candidate front line) && bytes_eq (pair_line front f (candidate front line)) line
    then Some (candidate front line) else None

-- The line has this beginning, and these two numbers in this form.
pub record IsPairLine (front : List ℕ) (f : Form) (line : List ℕ) (p : TermPair) : Type 0 where
  pub text : line ≡ pair_line front f p
  pub lo : nat_abs p.lo ≤ f.limit
  pub hi : nat_abs p.hi ≤ f.limit

-- A form of the listing: 1 to 27 decimals, magnitudes below 2^126, and no digit after the numbers.
pub record IsForm (f : Form) : Type 0 where
  pub some : 0 < f.places
  pub few : f.places ≤ 27
  pub small : f.limit < 2 ^ 126
  pub behind : (n : ℕ) → digits_behind n f.back ≡ n

-- Reading a line is exact: it gives the numbers that are written as exactly this line, if there are any, and nothing otherwise.
pub record ReadsExactly (front : List ℕ) (f : Form) : Type 0 where
  pub sound : (line : List ℕ) (p : TermPair) → pair_in front f line ≡ Some p → IsPairLine front f line p
  pub whole : (line : List ℕ) (p : TermPair) → IsPairLine front f line p → pair_in front f line ≡ Some p

abbrev pub LinesReadExactly : Type 0
LinesReadExactly = (front : List ℕ) (f : Form) → IsForm f → ReadsExactly front f
