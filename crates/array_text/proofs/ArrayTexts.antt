-- Arrays of numbers and of integers are read as written.
use Rattle.array_text.proofs.Common.{◌≡◌, ◌^◌, ◌<◌, true, List, length, All, Ok, refl, arith, ℤ, pos, negsuc, ◌*ℤ◌, unsigned_abs, ints, All-weaker, nat_tests, Dec, IsDec, number, significant, zeros}
use Rattle.array_text.proofs.Common.{canonical, integer, is_short, integer_product, scaled_value, integer_scaled, real, whole, multiplied_value, reals, layer_array, real_layer, integer_layer}
use Rattle.array_text.proofs.Common.{number_word, integer_word, IsShort, real_array, integer_array, FreeListsReadAsWritten, ArraysReadAsWritten, ℕ, zero, suc, ◌*◌, ◌≤◌, [], ◌∷◌, ◌++◌, take, drop}
use Rattle.array_text.proofs.Common.{Result, length-take-le, length-drop, take-append-drop, nil_from_length, All-cons, All-take, All-drop, NumFault, next_number, appended_readings, word_at, Kind}
use Rattle.array_text.proofs.Common.{free_list, free_rows, array_at, without_line, Line, IsLine, number_after, left_of_lines, Reads, Takes, Left, ◌>>=◌, control_record, row_line, row_lines}
use Rattle.array_text.proofs.Common.{array_lines, FileSet, number_at, keyword, format_at, internal, control_at, codes, Refusal}
use Rattle.array_text.proofs.{NumberTexts.short_exponent, NumberTexts.number_reads, NumberTexts.integer_reads, NumberTexts.one, NumberTexts.times_one, WordTexts.number_is_word}
use Rattle.array_text.proofs.{WordTexts.integer_is_word, WordTexts.line_by_test, FreeTexts.IsWrittenAs, FreeTexts.free_list_reads, LineTexts.takes_none, LineTexts.then_takes, LineTexts.last_takes}
use Rattle.array_text.proofs.{LineTexts.line_words, LineTexts.next_line}

-- Lines of values are read as rows of them, and a control record with rows as an array.
row_reads : {X : Type 0} (read : List ℕ → Result X NumFault) (word : X → List ℕ) (file : List ℕ) (cols : ℕ) (xs : List X) → length xs ≡ cols → 1 ≤ cols → All (λ x. IsWrittenAs read word x) xs
    → Reads (free_list read file cols) (row_line word xs ∷ []) xs
row_reads read word file cols xs e some h = let few : 1 ≤ length xs = omega arith in rw e at (free_list_reads read word file xs few h)

rows_read : {X : Type 0} (read : List ℕ → Result X NumFault) (word : X → List ℕ) (file : List ℕ) (rows cols : ℕ) (xs : List X) → 1 ≤ cols → length xs ≡
    rows * cols → All (λ x. IsWrittenAs read word x) xs
    → Reads (appended_readings rows (free_list read file cols)) (row_lines word rows cols xs) xs
unfolding appended_readings row_lines
rows_read read word file zero cols xs some e h = let none : xs ≡ [] = nil_from_length xs (omega arith) in rw none takes_none
rows_read read word file (suc rows) cols xs some e h =
    let enough : cols ≤ length xs = omega arith in
    let front_length : length (take cols xs) ≡ cols = length-take-le cols xs enough in
    let back_length : length (drop cols xs) ≡ rows * cols = omega (arith, length-drop cols xs) in
    then_takes _ (row_reads read word file cols (take cols xs) front_length some (All-take (λ x. IsWrittenAs read word x) cols xs h))
    (last_takes _ (rows_read read word file rows cols (drop cols xs) some back_length (All-drop (λ x. IsWrittenAs read word x) cols xs h)) (λ left. rw (take-append-drop cols xs) refl))

control_is_line : IsLine control_record
control_is_line = line_by_test control_record refl

control_reads : {X : Type 0} (read : List ℕ → Result X NumFault) (file : List ℕ) (n : ℕ) (by : X) → read (codes "1") ≡ Ok by → control_at read file n control_record ≡ Ok (internal by)
unfolding control_at word_at keyword number_at format_at
control_reads read file n by e = rw e refl

-- an array is read as its values, with the line of its control record
pub array_reads : {X : Type 0} (kind : Kind X) (word : X → List ℕ) (by : X) (files : FileSet) (file : List ℕ) (rows cols : ℕ) (xs : List X) → kind.reading (codes "1") ≡ Ok by
    → 1 ≤ cols → length xs ≡ rows * cols → All (λ x. IsWrittenAs (multiplied_value kind by) word x) xs → (n : ℕ) (others : List Line)
    → array_at kind files file rows cols (left_of_lines n (array_lines word rows cols xs ++ others)) ≡ Ok ((xs, n), left_of_lines (number_after n (array_lines word rows cols xs)) others)
unfolding array_at free_rows number_after
array_reads kind word by files file rows cols xs one some e h n others =
    let rows_are = (rows_read (multiplied_value kind by) word file rows cols xs some e h).reads (next_number n) others in
    rw (next_line file n control_record (row_lines word rows cols xs ++ others), line_words control_record control_is_line.words, control_reads kind.reading file n by one, rows_are) refl

-- an array, and what is made of it whatever the line of its control record
pub array_takes : {X Z : Type 0} {out : Left → Z} (f : (List X × ℕ) × Left → Result Z Refusal) (kind : Kind X) (word : X → List ℕ) (by : X) (files : FileSet)
    (file : List ℕ) (rows cols : ℕ) (xs : List X)
    → kind.reading (codes "1") ≡ Ok by → 1 ≤ cols → length xs ≡ rows * cols → All (λ x. IsWrittenAs (multiplied_value kind by) word x) xs → ((n : ℕ) (left : Left) → f ((xs, n), left) ≡ Ok (out left))
    → Takes (λ left. array_at kind files file rows cols left >>= f) (array_lines word rows cols xs) out
array_takes f kind word by files file rows cols xs one some e h ends = record {
  are = All-cons (λ line. IsLine line) control_record (row_lines word rows cols xs) control_is_line (rows_read (multiplied_value kind by) word file rows cols xs some e h).are;
  reads = λ n rest. rw (array_reads kind word by files file rows cols xs one some e h n rest) (ends n (left_of_lines (number_after n (array_lines word rows cols xs)) rest));
}

pub layer_reads : {X : Type 0} (kind : Kind X) (word : X → List ℕ) (by : X) (files : FileSet) (file : List ℕ) (rows cols : ℕ) (xs : List X) → kind.reading (codes "1") ≡ Ok by
    → 1 ≤ cols → length xs ≡ rows * cols → All (λ x. IsWrittenAs (multiplied_value kind by) word x) xs
    → Reads (λ left. without_line (array_at kind files file rows cols left)) (array_lines word rows cols xs) xs
layer_reads kind word by files file rows cols xs one some e h = array_takes _ kind word by files file rows cols xs one some e h (λ n left. refl)

pub number_written : (d : Dec) → IsDec d → IsWrittenAs number number_word d
number_written d h = record { is_word = number_is_word d h.few (short_exponent d.exp h.above h.below); reads = number_reads d h }

pub integer_written : (z : ℤ) → IsShort z → IsWrittenAs integer integer_word z
integer_written z h = record { is_word = integer_is_word z h; reads = integer_reads z h }

pub real_one : number (codes "1") ≡ Ok one
unfolding number canonical significant zeros
real_one = refl

pub whole_one : integer (codes "1") ≡ Ok (pos 1)
unfolding integer
whole_one = refl

number_by_one : (d : Dec) → IsDec d → multiplied_value real one (number_word d) ≡ Ok d
unfolding multiplied_value scaled_value
number_by_one d h = rw (number_reads d h) (times_one d h)

short : (z : ℤ) → unsigned_abs z < 10 ^ 18 → is_short z ≡ true
short (pos n) h = grind (arith, nat_tests)
short (negsuc n) h = grind (arith, nat_tests)

integer_once : (z : ℤ) → IsShort z → integer_product z (pos 1) ≡ Ok z
unfolding integer_product
integer_once z h = let same : z *ℤ pos 1 ≡ z = omega (arith, ints) in rw (same, short z h.few) refl

integer_by_one : (z : ℤ) → IsShort z → multiplied_value whole (pos 1) (integer_word z) ≡ Ok z
unfolding multiplied_value integer_scaled
integer_by_one z h = rw (integer_reads z h) (integer_once z h)

pub reals_written : (xs : List Dec) → All IsDec xs → All (λ d. IsWrittenAs (multiplied_value real one) number_word d) xs
reals_written xs h = All-weaker (λ d. IsDec d) (λ d. IsWrittenAs (multiplied_value real one) number_word d) (λ d k. record { is_word = (number_written d k).is_word; reads = number_by_one d k }) xs h

pub wholes_written : (xs : List ℤ) → All IsShort xs → All (λ z. IsWrittenAs (multiplied_value whole (pos 1)) integer_word z) xs
wholes_written xs h = All-weaker (λ z. IsShort z) (λ z. IsWrittenAs (multiplied_value whole (pos 1)) integer_word z) (λ z k. record { is_word = integer_is_word z k; reads = integer_by_one z k }) xs h

pub free_lists : FreeListsReadAsWritten
free_lists = record {
  numbers = λ file xs some h. free_list_reads number number_word file xs some (All-weaker (λ d. IsDec d) (λ d. IsWrittenAs number number_word d) number_written xs h);
  integers = λ file xs some h. free_list_reads integer integer_word file xs some (All-weaker (λ z. IsShort z) (λ z. IsWrittenAs integer integer_word z) integer_written xs h);
}

pub arrays_read_back : ArraysReadAsWritten
unfolding reals layer_array real_layer integer_layer real_array integer_array
arrays_read_back = record {
  lists = λ files file xs some h. layer_reads real number_word one files file 1 (length xs) xs real_one some (omega arith) (reals_written xs h);
  layers = λ files file rows cols xs some e h. layer_reads real number_word one files file rows cols xs real_one some e (reals_written xs h);
  integer_layers = λ files file rows cols xs some e h. layer_reads whole integer_word (pos 1) files file rows cols xs whole_one some e (wholes_written xs h);
}
