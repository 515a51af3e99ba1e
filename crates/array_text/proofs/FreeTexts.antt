-- A line of values is read as a free list of them, and lines of values as rows of them.
use Rattle.array_text.proofs.Common.{◌≡◌, ℕ, suc, ◌≤◌, ◌==◌, false, List, [], ◌∷◌, ◌++◌, length, map, nat_lt, All, Some, Result, Ok, refl, ◌∙◌, arith, position_or_len, append-nil, All-head, All-tail}
use Rattle.array_text.proofs.Common.{All-map, All-weaker, nat_tests, NumFault, words, Left, next_number, repeated_reading, value_at, value_alone, free_list, IsWordByte, IsWord, Line, line_text}
use Rattle.array_text.proofs.Common.{numbered_lines, number_after, left_of_lines, IsLine, length-map, Reads, row_line, Taking, beginning, spread, next_word, next_value}
use Rattle.record_lines.proofs.WordLemmas.{word_found, goes_on}
use Rattle.array_text.proofs.{WordTexts.no_star, LineTexts.line_words, LineTexts.one_line}

-- x is written as a word that is read as x
pub record IsWrittenAs {X : Type 0} (read : List ℕ → Result X NumFault) (word : X → List ℕ) (x : X) : Type 0 where
  pub is_word : IsWord (word x)
  pub reads : read (word x) ≡ Ok x

-- a free list in progress on a line of which these words are left
abbrev pub on_line : ℕ → List ℕ → Line → Taking
on_line n word ws = record { repeat = 0; word = word; number = n; words = ws }

no_star_place : (w : List ℕ) → All (λ b. IsWordByte b) w → position_or_len (λ c. c == 42) w ≡ length w
no_star_place [] h = refl
no_star_place (b ∷ bs) h =
    rw (no_star b (All-head (λ x. IsWordByte x) b bs h), no_star_place bs (All-tail (λ x. IsWordByte x) b bs h)) (omega arith)

-- a word is itself, once
pub spread_word : (w : List ℕ) → IsWord w → spread w ≡ Some (1, w)
unfolding spread
spread_word w h =
    let past : nat_lt (length w) (length w) ≡ false = grind (arith, nat_tests) in
    rw (no_star_place w h.bytes, past) refl

value_found : (n : ℕ) (last w : List ℕ) (ws : Line) (left : Left) → IsWord w → next_value (on_line n last (w ∷ ws)) left ≡ Ok ((w, n), (on_line n w ws, left))
unfolding next_value
value_found n last w ws left h = rw (word_found n left.end 1 (w ∷ ws) ws left.lines w w refl (spread_word w h)) refl

pub value_reads : {X : Type 0} (read : List ℕ → Result X NumFault) (file : List ℕ) (n : ℕ) (last w : List ℕ) (ws : Line) (left : Left) (x : X) → IsWord w → read w ≡ Ok x
    → value_at read file (on_line n last (w ∷ ws), left) ≡ Ok ((x, n), (on_line n w ws, left))
unfolding value_at
value_reads read file n last w ws left x h e = rw (value_found n last w ws left h, e) refl

alone_reads : {X : Type 0} (read : List ℕ → Result X NumFault) (file : List ℕ) (n : ℕ) (last w : List ℕ) (ws : Line) (left : Left) (x : X) → IsWord w → read w ≡ Ok x
    → value_alone read file (on_line n last (w ∷ ws), left) ≡ Ok (x, (on_line n w ws, left))
unfolding value_alone
alone_reads read file n last w ws left x h e = rw (value_reads read file n last w ws left x h e) refl

-- the word that was taken last
abbrev pub last_word : {X : Type 0} → (X → List ℕ) → List ℕ → List X → List ℕ
last_word word last [] = last
last_word word last (x ∷ xs) = last_word word (word x) xs

pub values_read : {X : Type 0} (read : List ℕ → Result X NumFault) (word : X → List ℕ) (file : List ℕ) (n : ℕ) (last : List ℕ) (xs : List X) (more : Line)
    (left : Left) → All (λ x. IsWrittenAs read word x) xs
    → repeated_reading (length xs) (value_alone read file) (on_line n last (map word xs ++ more), left) ≡ Ok (xs, (on_line n (last_word word last xs) more, left))
unfolding repeated_reading
values_read read word file n last [] more left h = refl
values_read read word file n last (x ∷ xs) more left h =
    let one : IsWrittenAs read word x = All-head (λ y. IsWrittenAs read word y) x xs h in
    rw (
      alone_reads read file n last (word x) (map word xs ++ more) left x one.is_word one.reads,
      values_read read word file n (word x) xs more left (All-tail (λ y. IsWrittenAs read word y) x xs h),
    ) refl

line_follows : (n : ℕ) (line : Line) (others : List Line) → next_word 0 [] (left_of_lines n (line ∷ others)).lines (left_of_lines n (line ∷ others)).end
    ≡ next_word n (words (line_text line)) (left_of_lines (next_number n) others).lines (left_of_lines (next_number n) others).end
unfolding left_of_lines numbered_lines number_after
line_follows n line others = goes_on 0 [] (left_of_lines n (line ∷ others)) (left_of_lines (next_number n) others) (record { number = n; bytes = line_text line }) refl refl

-- a list begins on the next line
pub line_begins : (n : ℕ) (line : Line) (others : List Line) → All (λ x. IsWord x) line → next_value beginning (left_of_lines n (line ∷ others)) ≡
    next_value (on_line n [] line) (left_of_lines (next_number n) others)
unfolding next_value
line_begins n line others h = rw (line_follows n line others, line_words line h) refl

pub alone_begins : {X : Type 0} (read : List ℕ → Result X NumFault) (file : List ℕ) (n : ℕ) (line : Line) (others : List Line) → All (λ x. IsWord x) line
    → value_alone read file (beginning, left_of_lines n (line ∷ others)) ≡ value_alone read file (on_line n [] line, left_of_lines (next_number n) others)
unfolding value_alone value_at
alone_begins read file n line others h = rw (line_begins n line others h) refl

pub same_start : {X S E : Type 0} (count : ℕ) (read : S → Result (X × S) E) (s t : S) → read s ≡ read t → repeated_reading (suc count) read s ≡ repeated_reading (suc count) read t
unfolding repeated_reading
same_start count read s t e = rw e refl

pub row_is_words : {X : Type 0} (read : List ℕ → Result X NumFault) (word : X → List ℕ) (xs : List X) → All (λ x. IsWrittenAs read word x) xs → All (λ w. IsWord w) (row_line word xs)
unfolding row_line
row_is_words read word xs h = All-map (λ w. IsWord w) word xs (All-weaker (λ x. IsWrittenAs read word x) (λ x. IsWord (word x)) (λ x k. k.is_word) xs h)

row_length : {X : Type 0} (word : X → List ℕ) (xs : List X) → length (row_line word xs) ≡ length xs
unfolding row_line
row_length word xs = length-map xs word

pub row_is_line : {X : Type 0} (read : List ℕ → Result X NumFault) (word : X → List ℕ) (xs : List X) → 1 ≤ length xs → All (λ x. IsWrittenAs read word x) xs → IsLine (row_line word xs)
row_is_line read word xs some h = record { some = as_long; words = row_is_words read word xs h }
  where
    as_long : 1 ≤ length (row_line word xs)
    as_long = omega (arith, row_length word xs)

values_at_start : {X : Type 0} (read : List ℕ → Result X NumFault) (word : X → List ℕ) (file : List ℕ) (n : ℕ) (xs : List X) (others : List Line) →
    1 ≤ length xs → All (λ x. IsWrittenAs read word x) xs
    → repeated_reading (length xs) (value_alone read file) (beginning, left_of_lines n (row_line word xs ∷ others)) ≡
    Ok (xs, (on_line n (last_word word [] xs) [], left_of_lines (next_number n) others))
unfolding row_line
values_at_start read word file n [] others some h = absurd (omega arith)
values_at_start read word file n (x ∷ xs) others some h =
    let start = alone_begins read file n (map word (x ∷ xs)) others (row_is_words read word (x ∷ xs) h) in
    let end : map word (x ∷ xs) ++ [] ≡ map word (x ∷ xs) = append-nil (map word (x ∷ xs)) in
    same_start (length xs) (value_alone read file) _ _ start ∙ (rw end at (values_read read word file n [] (x ∷ xs) [] (left_of_lines (next_number n) others) h))

-- a line of values is read as a free list of them
pub free_list_reads : {X : Type 0} (read : List ℕ → Result X NumFault) (word : X → List ℕ) (file : List ℕ) (xs : List X) → 1 ≤ length xs → All (λ x. IsWrittenAs read word x) xs
    → Reads (free_list read file (length xs)) (row_line word xs ∷ []) xs
unfolding free_list number_after
free_list_reads read word file xs some h = record { are = one_line (row_is_line read word xs some h); reads = λ n others. rw (values_at_start read word file n xs others some h) refl }
